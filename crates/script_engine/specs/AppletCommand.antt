-- The table of applet commands: the instruction, the class, which commands may stand only last in a script,
-- and what each one does. All have P3 octets of data. GlobalPlatform Card Specification 2.1.1, 9; ETSI TS
-- 102 226, 5.2.1.1.
use Rattle.std.specs.Prelude.{ℕ, Bool, true, false, ◌==◌, if◌then◌else◌, Option, Some, None, List}
use Rattle.apdu_codec.specs.Reply.{Answer}
use Rattle.applet_registry.specs.State.{State}
use Rattle.applet_registry.specs.Commands as command
use Rattle.script_engine.specs.declared.applet_command.AppletCommand.{AppletCommand}
use Rattle.script_engine.specs.declared.applet_command.AppletCommand.TheVariants.{Install, Load, DeleteObject, SetStatus, GetStatus, PutKey}

-- the command of an instruction
abbrev pub applet_command_of : ℕ → Option AppletCommand
applet_command_of ins =
    if ins == 0xE6 then Some Install
    else if ins == 0xE8 then Some Load
    else if ins == 0xE4 then Some DeleteObject
    else if ins == 0xF0 then Some SetStatus
    else if ins == 0xF2 then Some GetStatus
    else if ins == 0xD8 then Some PutKey
    else None

-- the class of all of them
abbrev pub class : ℕ
class = 0x80

-- it may stand only last in a script
abbrev pub is_output : AppletCommand → Bool
is_output GetStatus = true
is_output _ = false

-- what it does: from the registry, P1, P2, P3 and the data to its answer
abbrev pub applet_command : AppletCommand → State → ℕ → ℕ → ℕ → List ℕ → Answer State
applet_command Install = command.install
applet_command Load = command.load
applet_command DeleteObject = command.delete_object
applet_command SetStatus = command.set_status
applet_command GetStatus = command.get_status
applet_command PutKey = command.put_key

-- it may want memory: it begins an application, a load file or a keyset
abbrev pub wants_memory : AppletCommand → Bool
wants_memory Install = true
wants_memory Load = true
wants_memory PutKey = true
wants_memory _ = false
