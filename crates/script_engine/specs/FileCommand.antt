-- The table of file commands: the instruction, the class, which commands may stand only last in a script,
-- and what each one does. ETSI TS 102 221, 10.1.2; ETSI TS 102 226, 5.2.1.1.
use Rattle.std.specs.Prelude.{ℕ, Bool, true, false, ◌==◌, if◌then◌else◌, Option, Some, None, List}
use Rattle.apdu_codec.specs.Reply.{Answer}
use Rattle.card_files.specs.State.{State}
use Rattle.card_files.specs.Commands as command
use Rattle.script_engine.specs.declared.file_command.FileCommand.{FileCommand}
use Rattle.script_engine.specs.declared.file_command.FileCommand.TheVariants.{Select, ReadBinary, UpdateBinary, ReadRecord, UpdateRecord, SearchRecord, Increase, Deactivate, Activate, Create, Delete}

-- the command of an instruction
abbrev pub file_command_of : ℕ → Option FileCommand
file_command_of ins =
    if ins == 0xA4 then Some Select
    else if ins == 0xB0 then Some ReadBinary
    else if ins == 0xD6 then Some UpdateBinary
    else if ins == 0xB2 then Some ReadRecord
    else if ins == 0xDC then Some UpdateRecord
    else if ins == 0xA2 then Some SearchRecord
    else if ins == 0x32 then Some Increase
    else if ins == 0x04 then Some Deactivate
    else if ins == 0x44 then Some Activate
    else if ins == 0xE0 then Some Create
    else if ins == 0xE4 then Some Delete
    else None

abbrev pub class_of : FileCommand → ℕ
class_of Increase = 0x80
class_of _ = 0x00

-- it may stand only last in a script
abbrev pub is_output : FileCommand → Bool
is_output ReadBinary = true
is_output ReadRecord = true
is_output SearchRecord = true
is_output _ = false

-- how many octets of data it has
abbrev pub data_len : FileCommand → ℕ → ℕ
data_len ReadBinary p3 = 0
data_len ReadRecord p3 = 0
data_len _ p3 = p3

-- what it does: from the files, P1, P2, P3 and the data to its answer
abbrev pub file_command : FileCommand → State → ℕ → ℕ → ℕ → List ℕ → Answer State
file_command Select = command.select
file_command ReadBinary = command.read_binary
file_command UpdateBinary = command.update_binary
file_command ReadRecord = command.read_record
file_command UpdateRecord = command.update_record
file_command SearchRecord = command.search_record
file_command Increase = command.increase
file_command Deactivate = command.deactivate
file_command Activate = command.activate
file_command Create = command.create
file_command Delete = command.delete

-- it may want memory: it makes a file
abbrev pub wants_memory : FileCommand → Bool
wants_memory Create = true
wants_memory _ = false
