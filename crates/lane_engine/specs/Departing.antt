-- What a call hands to the port.
use Rattle.std.specs.Prelude.{◌≡◌, ◌⊎◌, ℕ, ◌≤◌, true, false, if◌then◌else◌, Option, Some, None, List, [], ◌∷◌, ◌++◌, length, map, take, Result, Ok, Err}
use Rattle.std.specs.List.{flat_map, range_with_len}
use Rattle.disk_model.specs.Disk.{Meaning}
use Rattle.ota_core.specs.Entry.{Reservation, is_reserve_of}
use Rattle.ota_core.specs.History.{first_some}
use Rattle.ota_core.specs.declared.entries.Entry.{Entry}
use Rattle.site_model.specs.Port.{PortState}
use Rattle.counter_journal.specs.JournalReading.{Holds}
use Rattle.site_model.specs.Runs.{SiteRun}
use Rattle.site_model.specs.Cards.{port_now}
use Rattle.site_model.specs.declared.departures.Departure.{Departure}
use Rattle.world_core.specs.Effect.{piece_of}
use Rattle.world_core.specs.Headline.{IsReserved}
use Rattle.world_core.specs.Members.{In}
use Rattle.world_core.specs.Packet.{Packet, packet_at, packet_of, pieces_of, place_at}
use Rattle.world_core.specs.Run.{Runs}
use Rattle.world_core.specs.Sound.{CardsWentOn}
use Rattle.world_core.specs.declared.events.Event.{Event}
use Rattle.world_core.specs.declared.events.Event.TheVariants.{Begin, Seal, Leave}
use Rattle.world_core.specs.declared.lines.Line.{Line}
use Rattle.world_core.specs.declared.segments.Sent.{Sent}
use Rattle.lane_engine.specs.Adding.{IsAdded, IsAddingRun, lane_world}
use Rattle.lane_engine.specs.LaneValue.{LaneValue, IsSameLane, IsSameHearing}
use Rattle.lane_engine.specs.Packets.{departures_if}
use Rattle.lane_engine.specs.World.{world_of, cards_of, AreSent}
use Rattle.lane_engine.specs.declared.answers.LaneErr.{LaneErr}
use Rattle.lane_engine.specs.declared.answers.LaneErr.TheVariants as lane_err

-- the pieces of the reservation at a position of the history, in order
abbrev pub pieces_if : ℕ → Option Packet → List Sent
pieces_if position None = []
pieces_if position (Some packet) = map (λ place. piece_of position place packet) (range_with_len 1 (pieces_of packet))

abbrev pub pieces_at : List Entry → ℕ → List Sent
pieces_at history position = pieces_if position (packet_at history position)

-- the event of a piece that leaves
abbrev pub leaving : Sent → Event
leaving piece = Leave piece.reservation piece.place

-- the pieces of so many reservations from a position of the history on, in order
abbrev pub pieces_from : List Entry → (position count : ℕ) → List Sent
pieces_from history position count = flat_map (pieces_at history) (range_with_len position count)

-- each of the pieces is of a reservation for its card, and has a place of its packet
abbrev pub AreReserved : List Entry → List Sent → Type 0
AreReserved history pieces = (piece : Sent) → In piece pieces → IsReserved history piece

-- nothing was asked of the port, and it gave nothing
pub record IsUnasked (before now : PortState) : Type 0 where
  pub given : now.given ≡ before.given
  pub polls : now.polls ≡ before.polls

-- of the departures the first ones were handed over, in order
abbrev pub AreFirst : List Departure → PortState → PortState → Type 0
AreFirst departures before now = (count : ℕ) × (count ≤ length departures) × (now.sent ≡ before.sent ++ take count departures)

-- What was handed over: all departures, each once, in order; after a fault the first of them; after any other refusal none.
abbrev pub AreHandedOver : List Departure → PortState → PortState → Result (Unit {0}) LaneErr → Type 0
AreHandedOver departures before now (Ok done) = now.sent ≡ before.sent ++ departures
AreHandedOver departures before now (Err (lane_err.SiteFault fault)) = AreFirst departures before now
AreHandedOver departures before now (Err refusal) = now.sent ≡ before.sent

-- What a call leaves that adds a batch and then sends: after a fault of the site the history is as it was and the batch is
-- lost, or the history is longer by the batch and nothing is lost.
abbrev pub IsSending : {D : Type 0} → LaneValue D → LaneValue D → List Entry → Result (Unit {0}) LaneErr → Type 0
IsSending old new batch (Ok done) = IsAdded old new batch
IsSending old new batch (Err (lane_err.SiteFault fault)) =
    (new.is_stale ≡ true) × IsSameHearing old new
    × (((new.journal.entries ≡ old.journal.entries) × (new.lost ≡ batch)) ⊎ ((new.journal.entries ≡ old.journal.entries ++ batch) × (new.lost ≡ old.lost)))
IsSending old new batch (Err refusal) = IsSameLane old new

-- The answer of a call that sends what is reserved, by the first cause in this order: the lane is stale; the refusal that the
-- history gives; a fault of the site. It wants no memory.
abbrev pub ResendAnswer : {D : Type 0} → LaneValue D → Option LaneErr → Result (Unit {0}) LaneErr → Type 0
ResendAnswer lane refusal (Ok done) = (lane.is_stale ≡ false) × (refusal ≡ None)
ResendAnswer lane refusal (Err lane_err.Stale) = lane.is_stale ≡ true
ResendAnswer lane refusal (Err (lane_err.SiteFault fault)) = (lane.is_stale ≡ false) × (refusal ≡ None)
ResendAnswer lane refusal (Err named) = (lane.is_stale ≡ false) × (refusal ≡ Some named)

-- the journal is as it was, and after a fault of the site the lane is stale
abbrev pub IsResent : {D : Type 0} → LaneValue D → LaneValue D → Result (Unit {0}) LaneErr → Type 0
IsResent old new (Ok done) = (new.journal ≡ old.journal) × (new.is_stale ≡ false) × IsSameHearing old new × (new.lost ≡ old.lost)
IsResent old new (Err (lane_err.SiteFault fault)) = (new.journal ≡ old.journal) × (new.is_stale ≡ true) × IsSameHearing old new × (new.lost ≡ old.lost)
IsResent old new (Err refusal) = new ≡ old

-- the packet of an entry that reserves this counter
abbrev pub packet_if : List Entry → Reservation → Entry → Option Packet
packet_if history place entry = if is_reserve_of place entry then packet_of history entry else None

-- the packet that is reserved under a counter
abbrev pub packet_under : List Entry → Reservation → Option Packet
packet_under history place = first_some (packet_if history place) history

-- all pieces of that packet, in order
abbrev pub departures_under : List Entry → Reservation → List Departure
departures_under history place = departures_if (packet_under history place)

module _ {D B C : Type 0} (told : Meaning D B C) (port : B → PortState) (lines : C → ℕ → List Line) where
  -- where the history is as it was, nothing was sent
  abbrev pub SendsOnlyAdded : LaneValue D → LaneValue D → Type 0
  SendsOnlyAdded old new = new.journal.entries ≡ old.journal.entries → (port_now told port lines new.site).sent ≡ (port_now told port lines old.site).sent

  -- At each moment of a call that adds a batch and then sends, a stop leaves the history as it was, or with the whole batch.
  abbrev pub LeavesWhole : LaneValue D → LaneValue D → List Entry → Type 0
  LeavesWhole old new batch = SiteRun told old.site new.site (λ image beside choice. Holds old.journal.lane old.journal.lanes old.journal.entries image
      ⊎ Holds old.journal.lane old.journal.lanes (old.journal.entries ++ batch) image)

  -- These events lead from the lane's world to the one with the history after and with these pieces sent, whatever the
  -- cards did meanwhile.
  pub record IsSendingRun (old new : LaneValue D) (events : List Event) (pieces : List Sent) : Type 0 where
    pub departures : (rest : List Departure) → (port_now told port lines new.site).sent ≡ (port_now told port lines old.site).sent ++ rest → AreSent new.journal.entries rest pieces
    pub runs : (chosen : ℕ → List Line) (sent : List Sent) (given : List ℕ)
        → Runs (lane_world told port lines old chosen sent given) events
        (world_of new.journal.entries (port_now told port lines old.site) chosen (sent ++ pieces) given)

  -- A call that adds a batch and then sends is these events: the batch begins and is sealed, and then each of its pieces
  -- leaves, in order; after a fault of the port only the first of them, and after one of the journal the batch alone begins.
  abbrev pub SendingEvents : LaneValue D → LaneValue D → List Entry → Result (Unit {0}) LaneErr → Type 0
  SendingEvents old new batch (Ok done) =
      let pieces = pieces_from new.journal.entries (length old.journal.entries) (length batch) in
      IsSendingRun old new (Begin batch ∷ Seal ∷ map leaving pieces) pieces
  SendingEvents old new batch (Err (lane_err.SiteFault fault)) =
      IsAddingRun told port lines old new batch (Err (lane_err.SiteFault fault))
      ⊎ ((count : ℕ) × (
      let pieces = take count (pieces_from new.journal.entries (length old.journal.entries) (length batch)) in
      IsSendingRun old new (Begin batch ∷ Seal ∷ map leaving pieces) pieces))
  SendingEvents old new batch (Err refusal) = IsSameLane old new

  -- A call that sends a reservation again is these events: each of its pieces leaves, in order; after a fault only the first
  -- of them.
  abbrev pub ResendingEvents : LaneValue D → LaneValue D → Reservation → Result (Unit {0}) LaneErr → Type 0
  ResendingEvents old new place (Ok done) =
      (position : ℕ) × (place_at old.journal.entries position ≡ Some place)
      × IsSendingRun old new (map leaving (pieces_at old.journal.entries position)) (pieces_at old.journal.entries position)
  ResendingEvents old new place (Err (lane_err.SiteFault fault)) =
      (position : ℕ) × (place_at old.journal.entries position ≡ Some place)
      × ((count : ℕ) × IsSendingRun old new (map leaving (take count (pieces_at old.journal.entries position))) (take count (pieces_at old.journal.entries position)))
  ResendingEvents old new place (Err refusal) = new ≡ old

  -- Meanwhile the cards went on: whatever lines are chosen after it, there were some before from which the cards came to
  -- these and to the answers that they made, by packets of reservations.
  abbrev pub HaveCardsGoneOn : LaneValue D → LaneValue D → Type 0
  HaveCardsGoneOn old new = (after : C) → told.choice_at new.site (told.clock new.site) after
      → (before : C) × told.choice_at old.site (told.clock old.site) before
      × ((sent : List Sent) (given : List ℕ) → CardsWentOn (world_of new.journal.entries (port_now told port lines old.site) (lines before) sent given)
      sent (cards_of (port_now told port lines new.site).facts (lines after)) (port_now told port lines new.site).made)
