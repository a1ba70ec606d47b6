-- Each call of a lane as a list of events of the pure machine, on a site whose cards act by such events.
use Rattle.std.specs.Prelude.{◌≡◌, ◌⊎◌, ℕ, suc, ◌<◌, ◌≤◌, Bool, true, false, not, Option, Some, None, List, [], ◌∷◌, ◌++◌, length, map, take, filter, Result, Ok, Err}
use Rattle.disk_model.specs.Disk.{Meaning}
use Rattle.ota_core.specs.Entry.{Reservation}
use Rattle.ota_core.specs.declared.cards.CardId.{CardId}
use Rattle.ota_core.specs.declared.entries.Entry.{Entry}
use Rattle.counter_journal.specs.Standing.{StandsFor}
use Rattle.site_model.specs.Port.{PortState}
use Rattle.site_model.specs.Cards.{port_at, port_now}
use Rattle.sms_segments.specs.Assembled.{OfCard}
use Rattle.sms_segments.specs.Kept.{Keeps}
use Rattle.world_core.specs.Packet.{place_at}
use Rattle.world_core.specs.Run.{Runs}
use Rattle.world_core.specs.WorldState.{WorldState}
use Rattle.world_core.specs.declared.events.Event.{Event}
use Rattle.world_core.specs.declared.events.Event.TheVariants.{Begin, Seal, Deliver, PowerCut}
use Rattle.world_core.specs.declared.lines.Line.{Line}
use Rattle.world_core.specs.declared.segments.Sent.{Sent}
use Rattle.lane_engine.specs.Adding.{adding_events, moment_for}
use Rattle.lane_engine.specs.Departing.{AreReserved, leaving, pieces_at, pieces_from}
use Rattle.lane_engine.specs.LaneValue.{LaneValue}
use Rattle.lane_engine.specs.Polling.{AreGivenBy, giving, settlements, settling_events}
use Rattle.lane_engine.specs.Receipts.{RESPONSE, due_in, message_of, response_in}
use Rattle.lane_engine.specs.World.{world_of, AreSent}
use Rattle.lane_engine.specs.declared.answers.LaneErr.{LaneErr}
use Rattle.lane_engine.specs.declared.answers.LaneErr.TheVariants as lane_err
use Rattle.lane_engine.specs.declared.answers.Poll.{Poll}
use Rattle.lane_engine.specs.declared.answers.Poll.TheVariants as poll

-- a packet is delivered to a card, or a card loses power
abbrev pub is_of_cards : Event → Bool
is_of_cards (Deliver card pieces step) = true
is_of_cards (PowerCut card) = true
is_of_cards _ = false

-- of these events just these pieces leave, in order, and all others are deliveries and power cuts
abbrev pub OnlyLeave : List Sent → List Event → Type 0
OnlyLeave pieces events = filter (λ event. not (is_of_cards event)) events ≡ map leaving pieces

-- the batch begins and is sealed, and then there are such events
abbrev pub BeginsThen : List Entry → (List Event → Type 0) → List Event → Type 0
BeginsThen batch Are events = (rest : List Event) × (events ≡ Begin batch ∷ Seal ∷ rest) × Are rest

-- packets are delivered and cards lose power, and then there are these events
abbrev pub ActsThen : List Event → List Event → Type 0
ActsThen rest events = (acts : List Event) × OnlyLeave [] acts × (events ≡ acts ++ rest)

-- the batch that a fault left unknown, where there is one
abbrev pub batch_lost : List Entry → Option (List Entry)
batch_lost [] = None
batch_lost (entry ∷ entries) = Some (entry ∷ entries)

-- ---- what a site's cards do

-- From one moment to the next: deliveries and power cuts, and beside them the pieces that were handed over leave, lead from
-- the world with these lines to the one with those.
pub record CardsAct (history : List Entry) (before now : PortState) (earlier later : ℕ → List Line) (sent more : List Sent) : Type 0 where
  pub events : List Event
  pub others : OnlyLeave more events
  pub runs : (given : List ℕ) → Runs (world_of history before earlier sent given) events (world_of history now later (sent ++ more) given)

module _ {D B C : Type 0} (told : Meaning D B C) (port : B → PortState) (lines : C → ℕ → List Line) where
  -- So the cards of a site act at each moment since this one: whatever lines a power cut may leave at the next moment, there
  -- are lines that it may leave at this one from which such events lead to those. The history is any for which the journal's
  -- image stands, and what is sent are pieces of its reservations.
  abbrev pub CardsActSince : (lane lanes from : ℕ) → D → Type 0
  CardsActSince lane lanes from site = (moment : ℕ) → from ≤ moment → moment < told.clock site
      → (image : List ℕ) (history : List Entry) → told.image_at site (suc moment) image → StandsFor lane lanes history image
      → (sent more : List Sent) → AreSent history (port_at told port lines site moment).sent sent → AreSent history (port_at told port lines site (suc moment)).sent (sent ++ more) → AreReserved history more
      → (after : C) → told.choice_at site (suc moment) after
      → (before : C) × told.choice_at site moment before × CardsAct history (port_at told port lines site moment) (port_at told port lines site (suc moment)) (lines before) (lines after) sent more

  -- ---- what a call is

  -- The lane's world: its history, and the batch that a fault left unknown; what was sent, as pieces of reservations, and the
  -- answers that were given; and its cards with the lines that were chosen for them.
  abbrev pub whole_world : LaneValue D → (ℕ → List Line) → List Sent → List ℕ → WorldState
  whole_world lane chosen sent given = record (world_of lane.journal.entries (port_now told port lines lane.site) chosen sent given) { batch = batch_lost lane.lost }

  -- from the lane's world before a call with some lines, such events lead to its world after it with these
  pub record IsLed (old new : LaneValue D) (pieces : List Sent) (positions : List ℕ) (Are : List Event → Type 0) (after : C) (sent : List Sent) (given : List ℕ) : Type 0 where
    pub before : C
    pub might : told.choice_at old.site (told.clock old.site) before
    pub events : List Event
    pub are : Are events
    pub runs : Runs (whole_world old (lines before) sent given) events (whole_world new (lines after) (sent ++ pieces) (given ++ positions))

  -- A call is such events, by which these pieces left and these answers were given: whatever lines the cards may have after
  -- it, and whatever was sent and given before it.
  pub record IsCourse (old new : LaneValue D) (pieces : List Sent) (positions : List ℕ) (Are : List Event → Type 0) : Type 0 where
    -- the pieces are what the port was handed
    pub departs : (sent : List Sent) → AreSent old.journal.entries (port_now told port lines old.site).sent sent
        → AreSent new.journal.entries (port_now told port lines new.site).sent (sent ++ pieces)
    pub leads : (after : C) → told.choice_at new.site (told.clock new.site) after
        → (sent : List Sent) → AreSent old.journal.entries (port_now told port lines old.site).sent sent → (given : List ℕ) → IsLed old new pieces positions Are after sent given

  -- a call that does nothing
  abbrev pub IsIdle : LaneValue D → LaneValue D → Type 0
  IsIdle old new = IsCourse old new [] [] (λ events. events ≡ [])

  -- A call that adds a batch: it begins and is sealed; after a fault it begins. No card acts.
  abbrev pub AddingCourse : LaneValue D → LaneValue D → List Entry → Result (Unit {0}) LaneErr → Type 0
  AddingCourse old new batch result = IsCourse old new [] [] (λ events. events ≡ adding_events batch result)

  -- these pieces leave, and the cards act
  abbrev pub LeavingCourse : LaneValue D → LaneValue D → List Sent → Type 0
  LeavingCourse old new pieces = IsCourse old new pieces [] (OnlyLeave pieces)

  -- A call that sends these pieces: they leave, and the cards act; after a fault the first of them left.
  abbrev pub PiecesCourse : LaneValue D → LaneValue D → List Sent → Result (Unit {0}) LaneErr → Type 0
  PiecesCourse old new pieces (Ok done) = LeavingCourse old new pieces
  PiecesCourse old new pieces (Err (lane_err.SiteFault fault)) = (count : ℕ) × LeavingCourse old new (take count pieces)
  PiecesCourse old new pieces (Err refusal) = IsIdle old new

  -- A call that adds a batch and then sends: the batch begins and is sealed, and then its pieces leave and the cards act;
  -- after a fault of the port the first of them left, and after one of the journal the batch alone begins.
  abbrev pub SendingCourse : LaneValue D → LaneValue D → List Entry → Result (Unit {0}) LaneErr → Type 0
  SendingCourse old new batch (Ok done) =
      let pieces = pieces_from new.journal.entries (length old.journal.entries) (length batch) in
      IsCourse old new pieces [] (BeginsThen batch (OnlyLeave pieces))
  SendingCourse old new batch (Err (lane_err.SiteFault fault)) =
      AddingCourse old new batch (Err (lane_err.SiteFault fault))
      ⊎ ((count : ℕ) × (
      let pieces = take count (pieces_from new.journal.entries (length old.journal.entries) (length batch)) in
      IsCourse old new pieces [] (BeginsThen batch (OnlyLeave pieces))))
  SendingCourse old new batch (Err refusal) = IsIdle old new

  -- a call that sends the reservation of a counter again
  abbrev pub ResendingCourse : LaneValue D → LaneValue D → Reservation → Result (Unit {0}) LaneErr → Type 0
  ResendingCourse old new place (Ok done) =
      (position : ℕ) × (place_at old.journal.entries position ≡ Some place) × LeavingCourse old new (pieces_at old.journal.entries position)
  ResendingCourse old new place (Err (lane_err.SiteFault fault)) =
      (position : ℕ) × (place_at old.journal.entries position ≡ Some place) × ((count : ℕ) × LeavingCourse old new (take count (pieces_at old.journal.entries position)))
  ResendingCourse old new place (Err refusal) = IsIdle old new

  -- The port gave a message, and the cards act. If it makes whole a response, that is given, at its first place among the
  -- answers made; and then there are these events.
  abbrev pub GivenCourse : LaneValue D → LaneValue D → List OfCard → CardId × List ℕ → List Event → Type 0
  GivenCourse old new past message rest =
      (positions : List ℕ) × AreGivenBy message.0 (response_in old.journal.entries past (message_of message)) (port_now told port lines new.site).made positions
      × IsCourse old new [] positions (ActsThen (map giving positions ++ rest))

  -- the port gave this message, and none but it
  abbrev pub GivesOne : LaneValue D → LaneValue D → CardId × List ℕ → Type 0
  GivesOne old new message = (port_now told port lines new.site).given ≡ (port_now told port lines old.site).given ++ message ∷ []

  abbrev pub GivesNone : LaneValue D → LaneValue D → Type 0
  GivesNone old new = (port_now told port lines new.site).given ≡ (port_now told port lines old.site).given

  abbrev pub PolledCourse : LaneValue D → LaneValue D → (by : ℕ) → List OfCard → Result Poll LaneErr → Type 0
  PolledCourse old new by past (Ok poll.Nothing) = GivesNone old new × LeavingCourse old new []
  PolledCourse old new by past (Ok poll) = (message : CardId × List ℕ) × GivesOne old new message
      × GivenCourse old new past message (settling_events (settlements by (moment_for old) (due_in old.journal.entries past (message_of message))))
  PolledCourse old new by past (Err (lane_err.SiteFault fault)) =
      (GivesNone old new × (new.lost ≡ []) × LeavingCourse old new [])
      ⊎ ((message : CardId × List ℕ) × GivesOne old new message
      × (((new.lost ≡ []) × GivenCourse old new past message [])
      ⊎ ((new.lost ≡ settlements by (moment_for old) (due_in old.journal.entries past (message_of message))) × GivenCourse old new past message (Begin new.lost ∷ []))))
  PolledCourse old new by past (Err refusal) = IsIdle old new

  -- A poll, by the pieces heard before it: the cards act; the answer that the message makes whole is given; and what it
  -- makes due begins and is sealed. After a fault of the journal that begins, and after one of the port it doesn't.
  abbrev pub PollingCourse : LaneValue D → LaneValue D → (by : ℕ) → Result Poll LaneErr → Type 0
  PollingCourse old new by result = (past : List OfCard) → Keeps RESPONSE past old.heard.pieces → PolledCourse old new by past result
