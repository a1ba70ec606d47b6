-- Which part of a card a TAR asks for.
use Rattle.std.specs.Prelude.{ℕ, if◌then◌else◌, Option, Some, None, List}
use Rattle.std.specs.Str.{bytes_eq}
use Rattle.script_engine.specs.declared.part.Part.{Part}
use Rattle.script_engine.specs.declared.part.Part.TheVariants.{Files, Applets}

-- the files' under the TAR of remote file management, else the applets' under that of remote applet management
-- (ETSI TS 101 220, annex D)
abbrev pub part_of : List ℕ → List ℕ → List ℕ → Option Part
part_of tar rfm ram = if bytes_eq tar rfm then Some Files else (if bytes_eq tar ram then Some Applets else None)
