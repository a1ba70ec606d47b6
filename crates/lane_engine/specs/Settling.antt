-- What a lane does with a message that the port gave.
use Rattle.std.specs.Prelude.{◌≡◌, ◌⊎◌, ℕ, ◌+◌, ◌<◌, ◌≤◌, true, false, List, ◌∷◌, ◌++◌, length, All, Result, Ok, Err, IfOk}
use Rattle.disk_model.specs.Disk.{Meaning, Tells, DiskRun}
use Rattle.gate_log.specs.Opening.{LIMIT}
use Rattle.ota_core.specs.declared.cards.CardId.{CardId}
use Rattle.ota_core.specs.declared.entries.Entry.{Entry}
use Rattle.counter_journal.specs.EntryRanges.{IsEntry}
use Rattle.counter_journal.specs.JournalReading.{Holds}
use Rattle.sms_segments.specs.Assembled.{OfCard, answer_to}
use Rattle.sms_segments.specs.Kept.{Keeps}
use Rattle.sms_segments.specs.declared.assembling.Push.{Push}
use Rattle.lane_engine.specs.Adding.{moment_for}
use Rattle.lane_engine.specs.LaneValue.{LaneValue, IsSameHearing, IsSameSettings}
use Rattle.lane_engine.specs.Polling.{LONGEST_SETTLEMENT, IsSameBut, settlements}
use Rattle.lane_engine.specs.Receipts.{RESPONSE, message_of, answer_to_push, due_by, response_by}
use Rattle.lane_engine.specs.declared.answers.LaneErr.{LaneErr}
use Rattle.lane_engine.specs.declared.answers.LaneErr.TheVariants as lane_err
use Rattle.lane_engine.specs.declared.answers.Poll.{Poll}

-- whether there is room for the longest settlement
abbrev pub RoomAnswer : ℕ → Result (Unit {0}) LaneErr → Type 0
RoomAnswer length (Ok done) = length + LONGEST_SETTLEMENT ≤ LIMIT
RoomAnswer length (Err error) = (error ≡ lane_err.Full length LONGEST_SETTLEMENT) × (LIMIT < length + LONGEST_SETTLEMENT)

-- the port was asked: the lane is stale after a fault, and else as it was
pub record IsAskedOnce {D : Type 0} (old new : LaneValue D) : Type 0 where
  pub journal : new.journal ≡ old.journal
  pub heard : new.heard ≡ old.heard
  pub lost : new.lost ≡ old.lost
  pub settings : IsSameSettings old new

abbrev pub AskingAnswer : {D T : Type 0} → LaneValue D → Result T LaneErr → Type 0
AskingAnswer new (Ok message) = new.is_stale ≡ false
AskingAnswer new (Err (lane_err.SiteFault fault)) = new.is_stale ≡ true
AskingAnswer new (Err refusal) = ⊥

-- the entry that settles what is due by what a message of a card made
abbrev pub settled_by : {D : Type 0} → (by : ℕ) → LaneValue D → CardId → Push → List Entry
settled_by by lane card push =
    settlements by (moment_for lane) (due_by (answer_to_push lane.journal.entries card push) (response_by lane.journal.entries card push))

-- What is left where this is settled: at Ok a history that is longer by it; after a fault of the site, which comes only
-- where there is something to settle, the history as it was, and this is lost.
abbrev pub IsSettled : {D T : Type 0} → LaneValue D → LaneValue D → List Entry → Result T LaneErr → Type 0
IsSettled old new batch (Ok done) = (new.journal.entries ≡ old.journal.entries ++ batch) × (new.is_stale ≡ false) × (new.lost ≡ old.lost)
IsSettled old new batch (Err (lane_err.SiteFault fault)) = (new.journal.entries ≡ old.journal.entries) × (new.is_stale ≡ true) × (1 ≤ length batch) × (new.lost ≡ batch)
IsSettled old new batch (Err refusal) = ⊥

-- a packet of a card was taken, or what else a message made
pub record IsTaken {D : Type 0} (old new : LaneValue D) (by : ℕ) (card : CardId) (push : Push) (result : Result Poll LaneErr) : Type 0 where
  pub answer : IfOk result (λ poll. poll ≡ answer_to_push old.journal.entries card push)
  pub left : IsSettled old new (settled_by by old card push) result
  pub fits : All IsEntry (settled_by by old card push)
  pub rest : IsSameHearing old new

-- the images of the disk in it
abbrev pub SettlingRun : {D B C : Type 0} → Meaning D B C → LaneValue D → LaneValue D → List Entry → Type 0
SettlingRun told old new batch = DiskRun told old.site new.site (λ image. Holds old.journal.lane old.journal.lanes old.journal.entries image
    ⊎ Holds old.journal.lane old.journal.lanes (old.journal.entries ++ batch) image)

-- a message of a card was taken: it made this, by whatever messages are heard
pub record IsHeard {D B C : Type 0} (told : Meaning D B C) (old new : LaneValue D) (by : ℕ) (message : CardId × List ℕ) (result : Result Poll LaneErr) : Type 0 where
  pub push : Push
  pub makes : (past : List OfCard) → Keeps RESPONSE past old.heard.pieces → push ≡ answer_to RESPONSE past (message_of message)
  pub keeps : (past : List OfCard) → Keeps RESPONSE past old.heard.pieces → Keeps RESPONSE (message_of message ∷ past) new.heard.pieces
  pub answer : IfOk result (λ poll. poll ≡ answer_to_push old.journal.entries message.0 push)
  pub left : IsSettled old new (settled_by by old message.0 push) result
  pub fits : All IsEntry (settled_by by old message.0 push)
  pub rest : IsSameBut old new
  pub run : Tells told old.site → SettlingRun told old new (settled_by by old message.0 push)
