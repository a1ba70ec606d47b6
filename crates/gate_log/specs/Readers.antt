-- A log as it is read part by part.
use Rattle.std.specs.Prelude.{◌≡◌, ◌⊎◌, ℕ, ◌+◌, ◌-◌, ◌<◌, ◌≤◌, Bool, true, false, unwrap_or, List, [], ◌∷◌, ◌++◌, length, take, Result, Ok, Err}
use Rattle.gate_log.specs.declared.log_errors.LogErr.{LogErr}
use Rattle.gate_log.specs.declared.log_errors.LogErr.TheVariants as log_err
use Rattle.gate_log.specs.declared.standings.Standing.{Standing}
use Rattle.gate_log.specs.declared.standings.Standing.TheVariants as standing
use Rattle.gate_log.specs.Reading.{Reading, parts_from, parts_of, behind_parts, walk_from, reading_of_walk}
use Rattle.gate_log.specs.Reading.Reading.{Damaged, Opened}
use Rattle.gate_log.specs.Windows.{WindowsState, rest_of, windows_in}

-- what contracts see of a reading: how many parts were given, the last of them, the octets of its batch that are still
-- to be given, how far the disk was read, and whether the end was reached
pub record ReaderState : Type 0 where
  pub given : ℕ
  pub part : List ℕ
  pub batch : List ℕ
  pub windows : WindowsState
  pub standing : Standing

-- the end of the log was reached, or a batch that is damaged
abbrev pub ended_at : Standing → Bool
ended_at standing.Going = false
ended_at standing.Closed = true
ended_at standing.Damaged = true

abbrev pub has_ended : ReaderState → Bool
has_ended reader = ended_at reader.standing

-- how many octets are still to be gone over
abbrev pub octets_left : ReaderState → ℕ
octets_left reader = length reader.batch + length reader.windows.ahead + (reader.windows.long - reader.windows.read)

-- parts, and what is read behind them
abbrev pub in_front : List (List ℕ) → Reading → Reading
in_front parts (Opened more behind) = Opened (parts ++ more) behind
in_front parts (Damaged more) = Damaged (parts ++ more)
in_front parts read = read

-- the parts in whole octets of them
abbrev pub parts_in : List ℕ → List (List ℕ)
parts_in octets = unwrap_or (parts_from 0 octets) []

-- what is still to be given of this text, and how it then ends
abbrev pub left_at : Standing → List ℕ → List ℕ → Reading
left_at standing.Going batch rest = reading_of_walk (behind_parts (parts_in batch) (walk_from 0 rest))
left_at standing.Closed batch rest = Opened [] rest
left_at standing.Damaged batch rest = Damaged []

abbrev pub left : ReaderState → List ℕ → Reading
left reader text = left_at reader.standing reader.batch (rest_of text reader.windows)

-- the parts that were given, and those that are still to be given, are what the text holds
pub record IsReading (head text : List ℕ) (parts : List (List ℕ)) (reader : ReaderState) : Type 0 where
  pub long : reader.windows.long ≡ length text
  pub number : reader.given ≡ length parts
  pub all : in_front parts (left reader text) ≡ parts_of head text

-- these parts are all, up to the gate that ends the log or up to a batch that is damaged
abbrev pub IsReadTo : List (List ℕ) → Reading → Type 0
IsReadTo parts read = ((behind : List ℕ) × (read ≡ Opened parts behind)) ⊎ (read ≡ Damaged parts)

-- one part more was given, or there is none
abbrev pub IsReadOn : List ℕ → List ℕ → List (List ℕ) → Bool → ReaderState → Type 0
IsReadOn head text parts true reader = IsReading head text (parts ++ reader.part ∷ []) reader
IsReadOn head text parts false reader = IsReading head text parts reader × IsReadTo parts (parts_of head text)

-- all parts were given
abbrev pub IsReadUp : List ℕ → List ℕ → ReaderState → Type 0
IsReadUp head text reader = (parts : List (List ℕ)) × IsReading head text parts reader × IsReadTo parts (parts_of head text)

-- a part more was given, and fewer octets are left, or the end was reached
abbrev pub IsCounted : ReaderState → Bool → ReaderState → Type 0
IsCounted old true new = (new.given ≡ old.given + 1) × (octets_left new < octets_left old)
IsCounted old false new = (new.given ≡ old.given) × (octets_left new ≤ octets_left old) × (has_ended new ≡ true)

-- a log was opened that has these parts: what lay behind its gate is cut off
pub record IsOpenedWith (head old new : List ℕ) (parts : List (List ℕ)) (len : ℕ) : Type 0 where
  pub behind : List ℕ
  pub was : parts_of head old ≡ Opened parts behind
  pub is : parts_of head new ≡ Opened parts []
  pub cut : new ≡ take len old
  pub long : len + length behind ≡ length old

-- the answer at the end of a reading that gave these parts
abbrev pub FinishAnswer : List ℕ → List ℕ → List ℕ → List (List ℕ) → Result ℕ LogErr → Type 0
FinishAnswer head old new parts (Ok len) = IsOpenedWith head old new parts len
FinishAnswer head old new parts (Err (log_err.DiskFault fault)) = Unit {0}
FinishAnswer head old new parts (Err (log_err.Damaged number)) = (parts_of head old ≡ Damaged parts) × (number ≡ length parts + 1)
FinishAnswer head old new parts (Err other) = ⊥

-- the errors at the end of a reading that gave so many parts
abbrev pub IsFinishErr : ℕ → LogErr → Type 0
IsFinishErr given (log_err.DiskFault fault) = Unit {0}
IsFinishErr given (log_err.Damaged number) = number ≡ given + 1
IsFinishErr given other = ⊥

-- How far reading on takes the clock: at Ok by as many calls as windows were read, and else by no more than were left.
abbrev pub ReadOnTicks : {T : Type 0} → ℕ → ℕ → ReaderState → ReaderState → Result T LogErr → Type 0
ReadOnTicks before now old new (Ok value) = now + windows_in old.windows.read ≡ before + windows_in new.windows.read
ReadOnTicks before now old new (Err error) = now + windows_in old.windows.read ≤ before + windows_in old.windows.long
