-- Which commands of a script may want memory: on the files CREATE FILE, on the registry INSTALL, LOAD and PUT KEY.
use Rattle.std.specs.Prelude.{ℕ, Bool, false, Option, Some, None, List}
use Rattle.apdu_codec.specs.declared.apdu.Apdu.{Apdu}
use Rattle.apdu_codec.specs.declared.apdu.Next.{Next}
use Rattle.apdu_codec.specs.declared.apdu.Next.TheVariants as Nexts
use Rattle.apdu_codec.specs.Apdu.{next_of}
use Rattle.script_engine.specs.declared.part.Part.{Part}
use Rattle.script_engine.specs.declared.part.Part.TheVariants as Parts
use Rattle.script_engine.specs.declared.file_command.FileCommand.{FileCommand}
use Rattle.script_engine.specs.declared.applet_command.AppletCommand.{AppletCommand}
use Rattle.script_engine.specs.FileCommand as file
use Rattle.script_engine.specs.AppletCommand as applet

-- what isn't in the table of its part wants none
abbrev pub file_wants : Option FileCommand → Bool
file_wants (Some command) = file.wants_memory command
file_wants None = false

abbrev pub applet_wants : Option AppletCommand → Bool
applet_wants (Some command) = applet.wants_memory command
applet_wants None = false

-- a command of a part may want memory
abbrev pub command_wants : Part → Apdu → Bool
command_wants Parts.Files apdu = file_wants (file.file_command_of apdu.ins)
command_wants Parts.Applets apdu = applet_wants (applet.applet_command_of apdu.ins)

-- what stands in a script may want memory: never a rest that is no whole command
abbrev pub next_wants : Part → Next → Bool
next_wants part (Nexts.Command apdu next) = command_wants part apdu
next_wants part _ = false

-- the command at a place of a script may want memory
abbrev pub step_wants : Part → List ℕ → ℕ → Bool
step_wants part script at = next_wants part (next_of script at)
