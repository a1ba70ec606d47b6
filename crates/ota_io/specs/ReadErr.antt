-- When a source was not read to its end.
use Rattle.std.specs.Prelude.{◌≡◌, ℕ, Result, Ok, Err}
use Rattle.ota_io.specs.Calls.{HasRisen}
use Rattle.ota_io.specs.declared.whole_text.ReadErr.{ReadErr}
use Rattle.ota_io.specs.declared.whole_text.ReadErr.TheVariants.{Fault, TooLong, Memory}

-- a fault of the source has raised its count, and every other answer leaves it
abbrev pub HasReadCause : {T : Type 0} → ℕ → ℕ → Result T ReadErr → Type 0
HasReadCause before now (Ok _) = now ≡ before
HasReadCause before now (Err Fault) = HasRisen before now
HasReadCause before now (Err TooLong) = now ≡ before
HasReadCause before now (Err Memory) = now ≡ before
