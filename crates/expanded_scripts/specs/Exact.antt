-- What a reading answers, by what the octets are.
use Rattle.std.specs.Prelude.{◌≡◌, ◌⊎◌, ℕ, List, Result, Ok, Err}
use Rattle.expanded_scripts.specs.declared.reading.TemplateErr.{TemplateErr}
use Rattle.expanded_scripts.specs.declared.reading.TemplateErr.TheVariants.{Memory}

-- the octets are this script: it is read, or memory is wanting
abbrev pub IsReadAs : List (List ℕ) → Result (List (List ℕ)) TemplateErr → Type 0
IsReadAs commands (Ok script) = script ≡ commands
IsReadAs commands (Err error) = error ≡ Memory

-- the octets are refused so: that is answered, or memory is wanting
abbrev pub IsRefusedAs : TemplateErr → Result (List (List ℕ)) TemplateErr → Type 0
IsRefusedAs error (Ok script) = ⊥
IsRefusedAs error (Err other) = (other ≡ error) ⊎ (other ≡ Memory)
