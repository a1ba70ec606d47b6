-- What a poll of a lane answers and leaves.
use Rattle.std.specs.Prelude.{◌≡◌, ◌⊎◌, ℕ, ◌+◌, ◌<◌, ◌≤◌, true, false, Option, Some, None, List, [], ◌∷◌, ◌++◌, map, slice_get, Result, Ok, Err}
use Rattle.disk_model.specs.Counts.{Counts, HasRisen}
use Rattle.disk_model.specs.Disk.{Meaning}
use Rattle.gate_log.specs.Opening.{LIMIT}
use Rattle.ota_core.specs.Entry.{by_of, is_settlement_of}
use Rattle.ota_core.specs.declared.cards.CardId.{CardId}
use Rattle.ota_core.specs.declared.entries.Entry.{Entry}
use Rattle.site_model.specs.Causes.{empty_polls}
use Rattle.site_model.specs.Port.{PortState, IsPolling}
use Rattle.site_model.specs.Cards.{port_now}
use Rattle.sms_segments.specs.Assembled.{OfCard}
use Rattle.sms_segments.specs.Kept.{Keeps, kept_in}
use Rattle.sms_segments.specs.declared.concatenations.Concatenation.{Concatenation}
use Rattle.world_core.specs.Run.{Runs}
use Rattle.world_core.specs.declared.answers.Made.{Made}
use Rattle.world_core.specs.declared.events.Event.{Event}
use Rattle.world_core.specs.declared.events.Event.TheVariants.{Begin, Seal, Give}
use Rattle.world_core.specs.declared.lines.Line.{Line}
use Rattle.world_core.specs.declared.segments.Sent.{Sent}
use Rattle.lane_engine.specs.Adding.{moment_for, is_settlement}
use Rattle.lane_engine.specs.LaneValue.{LaneValue, IsSameSettings}
use Rattle.lane_engine.specs.Receipts.{RESPONSE, Response, answer_to_message, message_of, due_in, response_in, settlement_of}
use Rattle.lane_engine.specs.Unforged.{made_as}
use Rattle.lane_engine.specs.World.{world_of}
use Rattle.lane_engine.specs.declared.answers.LaneErr.{LaneErr}
use Rattle.lane_engine.specs.declared.answers.LaneErr.TheVariants as lane_err
use Rattle.lane_engine.specs.declared.answers.Poll.{Poll}
use Rattle.lane_engine.specs.declared.answers.Poll.TheVariants as poll

-- the octets that the longest settlement needs in the journal: a Done with 259 octets of answer
abbrev pub LONGEST_SETTLEMENT : ℕ
LONGEST_SETTLEMENT = 295

-- the answer of a poll, by the first cause in this order: the lane is stale; want of memory; no room in the journal for the
-- longest settlement; a fault of the site
abbrev pub PollingAnswer : {D : Type 0} → LaneValue D → Result Poll LaneErr → Type 0
PollingAnswer lane (Ok poll) = (lane.is_stale ≡ false) × (lane.journal.length + LONGEST_SETTLEMENT ≤ LIMIT)
PollingAnswer lane (Err lane_err.Stale) = lane.is_stale ≡ true
PollingAnswer lane (Err lane_err.Memory) = lane.is_stale ≡ false
PollingAnswer lane (Err (lane_err.Full length need)) =
    (lane.is_stale ≡ false) × (length ≡ lane.journal.length) × (need ≡ LONGEST_SETTLEMENT) × (LIMIT < length + need)
PollingAnswer lane (Err (lane_err.SiteFault fault)) = (lane.is_stale ≡ false) × (lane.journal.length + LONGEST_SETTLEMENT ≤ LIMIT)
PollingAnswer lane (Err refusal) = ⊥

-- a poll that found no message is counted, and no other call
abbrev pub CountsNothing : Counts → Counts → Result Poll LaneErr → Type 0
CountsNothing before now (Ok poll.Nothing) = HasRisen (empty_polls before) (empty_polls now)
CountsNothing before now result = empty_polls now ≡ empty_polls before

-- the history is longer by a settlement of the counter that the answer names, under that number, and by nothing with any other answer
abbrev pub GrewBy : List Entry → List Entry → ℕ → Poll → Type 0
GrewBy old new by (poll.Settled keyset counter) =
    (entry : Entry) × (new ≡ old ++ entry ∷ []) × (is_settlement_of (record { keyset = keyset; counter = counter }) entry ≡ true) × (by_of entry ≡ by)
GrewBy old new by poll = new ≡ old

-- nothing is lost, or a settlement under that number
abbrev pub LostBy : List Entry → ℕ → Type 0
LostBy lost by = (lost ≡ []) ⊎ ((entry : Entry) × (lost ≡ entry ∷ []) × (is_settlement entry ≡ true) × (by_of entry ≡ by))

-- only what is heard may be another, and the history
pub record IsSameBut {D : Type 0} (old new : LaneValue D) : Type 0 where
  pub element : new.heard.element ≡ old.heard.element
  pub lane : new.journal.lane ≡ old.journal.lane
  pub lanes : new.journal.lanes ≡ old.journal.lanes
  pub settings : IsSameSettings old new

-- of each packet just that is kept which was kept before
abbrev pub KeepsSame : {D : Type 0} → LaneValue D → LaneValue D → Type 0
KeepsSame old new = (of : Concatenation) → kept_in new.heard.pieces of ≡ kept_in old.heard.pieces of

-- the lane is as it was, but for room
pub record IsUnpolled {D : Type 0} (old new : LaneValue D) : Type 0 where
  pub site : new.site ≡ old.site
  pub entries : new.journal.entries ≡ old.journal.entries
  pub length : new.journal.length ≡ old.journal.length
  pub is_stale : new.is_stale ≡ old.is_stale
  pub lost : new.lost ≡ old.lost
  pub kept : KeepsSame old new
  pub rest : IsSameBut old new

-- what a poll leaves: at Ok a history that grew as its answer says; after a fault the history as it was, a stale lane, and a
-- settlement lost at most; after each other refusal the lane as it was
abbrev pub IsPolled : {D : Type 0} → LaneValue D → LaneValue D → ℕ → Result Poll LaneErr → Type 0
IsPolled old new by (Ok poll) = GrewBy old.journal.entries new.journal.entries by poll × (new.is_stale ≡ false) × IsSameBut old new × (new.lost ≡ old.lost)
IsPolled old new by (Err (lane_err.SiteFault fault)) = (new.journal.entries ≡ old.journal.entries) × (new.is_stale ≡ true) × IsSameBut old new × LostBy new.lost by
IsPolled old new by (Err refusal) = IsUnpolled old new

-- the entry that settles what is due
abbrev pub settlements : (by moment : ℕ) → Option Response → List Entry
settlements by moment None = []
settlements by moment (Some response) = settlement_of by moment response ∷ []

-- A message was given behind those that were heard: it is answered by its table, what is due is settled, and the pieces
-- that are kept are those of it too.
pub record IsAnswered {D : Type 0} (old new : LaneValue D) (by : ℕ) (message : CardId × List ℕ) (poll : Poll) : Type 0 where
  pub answer : (past : List OfCard) → Keeps RESPONSE past old.heard.pieces → poll ≡ answer_to_message old.journal.entries past (message_of message)
  pub history : (past : List OfCard) → Keeps RESPONSE past old.heard.pieces
      → new.journal.entries ≡ old.journal.entries ++ settlements by (moment_for old) (due_in old.journal.entries past (message_of message))
  pub heard : (past : List OfCard) → Keeps RESPONSE past old.heard.pieces → Keeps RESPONSE (message_of message ∷ past) new.heard.pieces

-- the port was asked once: it gave nothing, or this message
abbrev pub IsAsked : {D : Type 0} → LaneValue D → LaneValue D → ℕ → PortState → PortState → Poll → Type 0
IsAsked old new by before now poll.Nothing = (now.given ≡ before.given) × (new.journal.entries ≡ old.journal.entries) × KeepsSame old new
IsAsked old new by before now poll = (message : CardId × List ℕ) × (now.given ≡ before.given ++ message ∷ []) × IsAnswered old new by message poll

-- what the port did: nothing was sent, and it was asked once at most
abbrev pub PortPolled : {D : Type 0} → LaneValue D → LaneValue D → ℕ → PortState → PortState → Result Poll LaneErr → Type 0
PortPolled old new by before now (Ok poll) = (now.sent ≡ before.sent) × (now.polls ≡ before.polls + 1) × IsAsked old new by before now poll
PortPolled old new by before now (Err (lane_err.SiteFault fault)) = IsPolling before now
PortPolled old new by before now (Err refusal) = now ≡ before

-- after a fault nothing is lost, or the settlement of what the message that was given made due
abbrev pub LosesDue : {D : Type 0} → LaneValue D → LaneValue D → ℕ → PortState → PortState → Result Poll LaneErr → Type 0
LosesDue old new by before now (Err (lane_err.SiteFault fault)) =
    (new.lost ≡ [])
    ⊎ ((message : CardId × List ℕ) × (now.given ≡ before.given ++ message ∷ [])
    × ((past : List OfCard) → Keeps RESPONSE past old.heard.pieces → new.lost ≡ settlements by (moment_for old) (due_in old.journal.entries past (message_of message))))
LosesDue old new by before now result = Unit {0}

-- the first position at which this answer stands among those that were made
abbrev pub FirstMade : Made → List Made → ℕ → Type 0
FirstMade made answers position = (slice_get answers position ≡ Some made)
    × ((earlier : ℕ) → slice_get answers earlier ≡ Some made → position ≤ earlier)

-- which answers were given: that of a response that the message made whole
abbrev pub AreGivenBy : CardId → Option Response → List Made → List ℕ → Type 0
AreGivenBy card None made positions = positions ≡ []
AreGivenBy card (Some response) made positions = (position : ℕ) × FirstMade (made_as card response) made position × (positions ≡ position ∷ [])

abbrev pub giving : ℕ → Event
giving position = Give position

-- the batch of a settlement begins and is sealed
abbrev pub settling_events : List Entry → List Event
settling_events [] = []
settling_events batch = Begin batch ∷ Seal ∷ []

module _ {D B C : Type 0} (told : Meaning D B C) (port : B → PortState) (lines : C → ℕ → List Line) where
  -- The response that the message says, by the pieces heard before it, is given, at its first place among the answers made.
  -- What it settles begins and is sealed. These events lead from the lane's world, with the answers that the cards made by
  -- then, to its world after the call.
  pub record IsPollingRun (old new : LaneValue D) (by : ℕ) (past : List OfCard) (message : CardId × List ℕ) : Type 0 where
    pub positions : List ℕ
    pub given : AreGivenBy message.0 (response_in old.journal.entries past (message_of message)) (port_now told port lines new.site).made positions
    pub runs : (chosen : ℕ → List Line) (sent : List Sent) (before : List ℕ)
        → Runs (world_of old.journal.entries (port_now told port lines new.site) chosen sent before)
        (map giving positions ++ settling_events (settlements by (moment_for old) (due_in old.journal.entries past (message_of message))))
        (world_of new.journal.entries (port_now told port lines new.site) chosen sent (before ++ positions))

  -- Where a fault came while it was being added, what the message made due begins and isn't sealed.
  pub record IsStoppedRun (old new : LaneValue D) (by : ℕ) (past : List OfCard) (message : CardId × List ℕ) : Type 0 where
    pub positions : List ℕ
    pub given : AreGivenBy message.0 (response_in old.journal.entries past (message_of message)) (port_now told port lines new.site).made positions
    pub runs : (chosen : ℕ → List Line) (sent : List Sent) (before : List ℕ)
        → Runs (world_of old.journal.entries (port_now told port lines new.site) chosen sent before) (map giving positions ++ Begin new.lost ∷ [])
        (record (world_of old.journal.entries (port_now told port lines new.site) chosen sent (before ++ positions)) { batch = Some new.lost })

  abbrev pub PollingEvents : LaneValue D → LaneValue D → ℕ → Result Poll LaneErr → Type 0
  PollingEvents old new by (Ok poll.Nothing) = new.journal.entries ≡ old.journal.entries
  PollingEvents old new by (Ok poll) = (past : List OfCard) → Keeps RESPONSE past old.heard.pieces → (message : CardId × List ℕ)
      → (port_now told port lines new.site).given ≡ (port_now told port lines old.site).given ++ message ∷ [] → IsPollingRun old new by past message
  PollingEvents old new by (Err (lane_err.SiteFault fault)) = (new.journal.entries ≡ old.journal.entries)
      × ((new.lost ≡ [])
      ⊎ ((past : List OfCard) → Keeps RESPONSE past old.heard.pieces → (message : CardId × List ℕ)
      → (port_now told port lines new.site).given ≡ (port_now told port lines old.site).given ++ message ∷ [] → IsStoppedRun old new by past message))
  PollingEvents old new by (Err refusal) = new.journal.entries ≡ old.journal.entries
