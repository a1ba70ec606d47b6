-- The answers of a log: which come when.
use Rattle.std.specs.Prelude.{◌≡◌, ℕ, ◌+◌, ◌≤◌, List, length, Result, Ok, Err}
use Rattle.disk_model.specs.Counts.{Counts, HasRisen}
use Rattle.disk_model.specs.declared.faults.DiskFault.TheVariants as fault
use Rattle.gate_log.specs.declared.headings.Heading.{Heading}
use Rattle.gate_log.specs.declared.headings.Heading.TheVariants as heading
use Rattle.gate_log.specs.declared.log_errors.LogErr.{LogErr}
use Rattle.gate_log.specs.declared.log_errors.LogErr.TheVariants as log_err
use Rattle.gate_log.specs.Reading.{Reading}
use Rattle.gate_log.specs.Reading.Reading.{Unformatted, NotALog, OtherHead, Damaged, Opened}

-- A fault of the disk comes only where its count rose. With every other answer the counts stay, and what is counted
-- beside the disk stands with each.
abbrev pub ErrCause : Counts → Counts → LogErr → Type 0
ErrCause before now (log_err.DiskFault fault.Failed) = HasRisen before.faults now.faults
ErrCause before now (log_err.DiskFault fault.Memory) = HasRisen before.wants now.wants
ErrCause before now _ = now ≡ before

abbrev pub AnswerCause : {T : Type 0} → Counts → Counts → Result T LogErr → Type 0
AnswerCause before now (Ok value) = now ≡ before
AnswerCause before now (Err error) = ErrCause before now error

pub record LogCause {T : Type 0} (before now : Counts) (result : Result T LogErr) : Type 0 where
  pub faults : before.faults ≤ now.faults
  pub wants : before.wants ≤ now.wants
  pub beside : now.beside ≡ before.beside
  pub answer : AnswerCause before now result

-- the disk made its calls, each of them
abbrev pub UnlessFault : {T : Type 0} → Result T LogErr → Type 0 → Type 0
UnlessFault (Err (log_err.DiskFault fault)) P = Unit {0}
UnlessFault result P = P

-- What a refusal says of the reading of the octets. Want of memory and faults of the disk say nothing of it.
abbrev pub Refuses : Reading → LogErr → Type 0
Refuses read log_err.Memory = Unit {0}
Refuses read (log_err.DiskFault fault) = Unit {0}
Refuses read log_err.Unformatted = read ≡ Unformatted
Refuses read log_err.NotALog = read ≡ NotALog
Refuses read (log_err.OtherHead rest) = read ≡ OtherHead rest
Refuses read (log_err.Damaged number) = (parts : List (List ℕ)) × (read ≡ Damaged parts) × (number ≡ length parts + 1)
Refuses read (log_err.Full length need) = ⊥

-- a log of that length opens, with these parts and what lies behind them cut off
abbrev pub OpensAt : Reading → ℕ → ℕ → Type 0
OpensAt read size len = (parts : List (List ℕ)) × (behind : List ℕ) × (read ≡ Opened parts behind) × (len + length behind ≡ size)

-- an answer to what a log's octets say, whether all of them were read or none
abbrev pub Answers : {T : Type 0} → (T → Type 0) → Reading → Result T LogErr → Type 0
Answers P read (Ok value) = P value
Answers P read (Err error) = Refuses read error

-- a batch wasn't refused for want of room
abbrev pub IsNotFull : LogErr → Type 0
IsNotFull (log_err.Full length need) = ⊥
IsNotFull error = Unit {0}

-- a log wasn't refused for a batch that is damaged
abbrev pub IsNotDamaged : LogErr → Type 0
IsNotDamaged (log_err.Damaged number) = ⊥
IsNotDamaged error = Unit {0}

-- the answer to what stands in front of the first gate
abbrev pub heading_answer : Heading → Result (Unit {0}) LogErr
heading_answer heading.Unformatted = Err log_err.Unformatted
heading_answer heading.NotALog = Err log_err.NotALog
heading_answer (heading.OtherHead rest) = Err (log_err.OtherHead rest)
heading_answer heading.Formatted = Ok tt

-- memory was wanting, or the disk answered a fault
abbrev pub IsWantOrFault : LogErr → Type 0
IsWantOrFault log_err.Memory = Unit {0}
IsWantOrFault (log_err.DiskFault fault) = Unit {0}
IsWantOrFault error = ⊥
