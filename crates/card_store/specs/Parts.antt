-- The parts of a card's store, and how they are read.
use Rattle.std.specs.Prelude.{ℕ, ◌==◌, if◌then◌else◌, Option, Some, None, List, [], ◌∷◌, ◌++◌}
use Rattle.std.specs.Int.{w64, from_be_bytes, bytes_high_first}

-- the head of the log: OTAC, a version, and zeros
abbrev pub store_head : List ℕ
store_head = 0x4F ∷ 0x54 ∷ 0x41 ∷ 0x43 ∷ 0x01 ∷ 0x00 ∷ 0x00 ∷ 0x00 ∷ 0x00 ∷ []

pub data StorePart : Type 0 where
  -- a counter of the keyset with this key version number is used up, with a TAR and a script
  UsesCounter : ℕ → ℕ → List ℕ → List ℕ → StorePart
  -- the next command of the script that was stored last was run
  RunsCommand : StorePart

-- a counter in five octets (ETSI TS 102 225, 5.1.1)
unfoldable pub five : ℕ → List ℕ
five counter = bytes_high_first 5 counter

-- a counter, as it is written with its TAR and its script
abbrev pub counter_part : ℕ → ℕ → List ℕ → List ℕ → List ℕ
counter_part kvn counter tar body = 0x01 ∷ kvn ∷ five counter ++ tar ++ body

-- a command that was run, as it is written
abbrev pub command_part : List ℕ
command_part = 0x02 ∷ []

-- what a part says, where it has one of the two forms
abbrev pub part_in : List ℕ → Option StorePart
part_in (kind ∷ []) = if kind == 0x02 then Some RunsCommand else None
part_in (kind ∷ kvn ∷ a ∷ b ∷ c ∷ d ∷ e ∷ t ∷ u ∷ v ∷ body) =
    if kind == 0x01 then Some (UsesCounter kvn (from_be_bytes w64 (0 ∷ 0 ∷ 0 ∷ a ∷ b ∷ c ∷ d ∷ e ∷ [])) (t ∷ u ∷ v ∷ []) body) else None
part_in _ = None
