-- What a command writes, and how far.
use Rattle.std.specs.Prelude.{◌≡◌, ℕ, Option, Some, None, List, ◌++◌, codes}
use Rattle.std.specs.Fmt.{decimal}
use Rattle.ota_io.specs.Calls.{HasRisen}
use Rattle.ota_io.specs.Octets.{AddsPart}
use Rattle.ota_commands.specs.declared.writing.Written.{Written}
use Rattle.ota_commands.specs.declared.writing.Written.TheVariants.{Whole, Part, Nothing}
use Rattle.ota_commands.specs.declared.faults.Fault.{Fault}
use Rattle.ota_commands.specs.declared.faults.Fault.TheVariants.{SinkFault, Memory}

-- that the journals of so many lanes are made
unfoldable pub formatted_text : ℕ → List ℕ
formatted_text lanes = codes "formatted " ++ decimal lanes ++ codes "\n"

-- What a text left in a sink that tells: all of it, a part of it as the sink failed, or nothing as memory was wanting.
abbrev pub IsWritten : List ℕ → List ℕ → List ℕ → Written → Type 0
IsWritten text old new Whole = new ≡ old ++ text
IsWritten text old new Part = AddsPart text old new
IsWritten text old new Nothing = new ≡ old

-- a sink's fault comes only where its count rose, and otherwise the count stays
abbrev pub WriteCause : ℕ → ℕ → Written → Type 0
WriteCause before now Whole = now ≡ before
WriteCause before now Part = HasRisen before now
WriteCause before now Nothing = now ≡ before

-- The answer of a command whose first lane that stopped has this end: want of memory for the text, else that end, else the
-- fault of the sink.
abbrev pub answer_of : Written → Option Fault → Option Fault
answer_of Nothing end = Some Memory
answer_of Whole end = end
answer_of Part None = Some SinkFault
answer_of Part (Some fault) = Some fault
