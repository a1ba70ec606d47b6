-- What is read from a gate on.
use Rattle.std.specs.Prelude.{◌≡◌, ℕ, ◌+◌, ◌<◌, ◌≤◌, Bool, true, nat_lt, ◌&&◌, is_some, Some, None, List, [], length, take, drop}
use Rattle.gate_log.specs.declared.standings.Standing.{Standing}
use Rattle.gate_log.specs.declared.standings.Standing.TheVariants.{Going, Closed, Damaged}
use Rattle.gate_log.specs.Reading.{parts_from, batch_of, behind_parts, walk_from}
use Rattle.gate_log.specs.Reading.Walk.{Ended, Broken}
use Rattle.gate_log.specs.Windows.{WindowsState, rest_of}

-- the octets are parts, one at least
abbrev pub is_framed : List ℕ → Bool
is_framed octets = nat_lt 0 (length octets) && is_some (parts_from 0 octets)

-- the room holds a gate, a length, and parts
pub record IsFramed (room : List ℕ) : Type 0 where
  pub long : 5 ≤ length room
  pub framed : is_framed (drop 5 room) ≡ true

abbrev pub IsHeld : Standing → List ℕ → Type 0
IsHeld Going room = IsFramed room
IsHeld Closed room = 1 ≤ length room
IsHeld Damaged room = Unit {0}

-- what was read behind a length that says this size
abbrev pub IsBody : Standing → List ℕ → ℕ → List ℕ → WindowsState → WindowsState → Type 0
IsBody Going text size room was now =
    (size < length (rest_of text was)) × (drop 5 room ≡ take size (rest_of text was)) × (is_framed (take size (rest_of text was)) ≡ true) × (rest_of text now ≡ drop size (rest_of text was))
IsBody Closed text size room was now = ⊥
IsBody Damaged text size room was now = size < length (rest_of text was) → is_framed (take size (rest_of text was)) ≡ true → ⊥

-- what was read behind an open gate
abbrev pub IsBatchRead : Standing → List ℕ → List ℕ → WindowsState → WindowsState → Type 0
IsBatchRead Going text room was now =
    (parts : List (List ℕ)) × (size : ℕ) × (parts_from 0 (drop 5 room) ≡ Some parts) × (batch_of (rest_of text was) ≡ Some (parts, size)) × (rest_of text now ≡ drop (4 + size) (rest_of text was))
IsBatchRead Closed text room was now = ⊥
IsBatchRead Damaged text room was now = batch_of (rest_of text was) ≡ None

-- what was read from a gate on
abbrev pub IsStepRead : Standing → List ℕ → List ℕ → WindowsState → WindowsState → Type 0
IsStepRead Going text room was now =
    (parts : List (List ℕ)) × (parts_from 0 (drop 5 room) ≡ Some parts) × (walk_from 0 (rest_of text was) ≡ behind_parts parts (walk_from 0 (rest_of text now)))
IsStepRead Closed text room was now = walk_from 0 (rest_of text was) ≡ Ended [] (rest_of text now)
IsStepRead Damaged text room was now = walk_from 0 (rest_of text was) ≡ Broken []
