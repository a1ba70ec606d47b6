-- What a store keeps in memory.
use Rattle.std.specs.Prelude.{◌≡◌, ℕ, ◌+◌, ◌^◌, ◌<◌, ◌≤◌, ◌==◌, Bool, true, false, is_some, if◌then◌else◌, Option, Some, None, List, [], ◌∷◌, length}
use Rattle.ota_core.specs.Keyset.{Keyset, is_same_keyset}
use Rattle.ota_core.specs.declared.cards.CardFacts.{CardFacts}
use Rattle.script_engine.specs.Run.{with_mf_selected}
use Rattle.script_engine.specs.declared.card.CardState.{CardState}
use Rattle.card_store.specs.Content.{Content, keyset_named, keyset_of, after_command, left_of}
use Rattle.card_store.specs.Replay.{after_part, after_step}
use Rattle.card_store.specs.Parts.{StorePart}
use Rattle.script_engine.specs.declared.part.Part.{Part}
use Rattle.card_store.specs.Store.{Shown, Shows}
use Rattle.card_store.specs.declared.card_lines.CardLine.{CardLine}
use Rattle.card_store.specs.declared.scripts.Script.{Script}

-- the last line has executed at most so many commands
abbrev pub IsLastWithin : ℕ → List CardLine → Type 0
IsLastWithin most [] = ⊥
IsLastWithin most (line ∷ []) = line.executed ≤ most
IsLastWithin most (line ∷ other ∷ lines) = IsLastWithin most (other ∷ lines)

-- where a command is left of a script, it begins within the script, and has a line
pub record IsWithin (lines : List CardLine) (script : Script) : Type 0 where
  pub begins : script.next < length script.body
  pub fits : length script.body < 2 ^ 32
  pub last : IsLastWithin script.next lines

abbrev pub IsRunning : List CardLine → Option Script → Type 0
IsRunning lines None = Unit {0}
IsRunning lines (Some script) = IsWithin lines script

-- the next command of the script was run
abbrev pub HasAdvanced : Content → Shown → Type 0
HasAdvanced content shown = (next : Content) × (after_command content ≡ Some next) × Shows next shown

-- the part was taken, or it is bad and nothing is changed
abbrev pub IsTaken : CardFacts → Content → List ℕ → Bool → Shown → Type 0
IsTaken facts content part true shown = (next : Content) × (after_part facts content part ≡ Some next) × Shows next shown
IsTaken facts content part false shown = (after_part facts content part ≡ None) × Shows content shown

-- the same for what a part says
abbrev pub IsStepTaken : CardFacts → Content → StorePart → Bool → Shown → Type 0
IsStepTaken facts content part true shown = (next : Content) × (after_step facts content part ≡ Some next) × Shows next shown
IsStepTaken facts content part false shown = (after_step facts content part ≡ None) × Shows content shown

-- the script at its begin; none, where it isn't run or has no octets
abbrev pub begun_with : Option Part → List ℕ → Option Script
begun_with None body = None
begun_with (Some part) body = left_of part body (if length body == 0 then None else Some 0)

-- the card where such a script begins
abbrev pub card_begun : Option Part → CardState → CardState
card_begun None card = card
card_begun (Some part) card = with_mf_selected card

-- a line that is lent is of the keyset
abbrev pub is_line_of : Keyset → CardLine → Bool
is_line_of keyset line = is_same_keyset line.keyset keyset

-- the line has one command more
abbrev pub one_more : Bool → CardLine → CardLine
one_more ended line = record line { executed = line.executed + 1; finished = ended }

-- the keyset with this key version number, where the card has it
abbrev pub keyset_if : CardFacts → CardState → ℕ → Option Keyset
keyset_if facts card kvn = if is_some (keyset_of facts card kvn) then Some (keyset_named facts kvn) else None
