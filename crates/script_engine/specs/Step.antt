-- One command of a script on a card. ETSI TS 102 226, 5.2.1.
--
-- Before what each command tests itself, these are tested in this order: that the instruction is in the
-- table of the part (6D00), that the class is the instruction's (6E00), and that a command that may stand
-- only last does so (6985).
use Rattle.std.specs.Prelude.{◌≡◌, ℕ, Bool, not, ◌==◌, ◌&&◌, nat_lt, if◌then◌else◌, Option, Some, None, List, [], length, take, drop}
use Rattle.apdu_codec.specs.declared.apdu.Apdu.{Apdu}
use Rattle.apdu_codec.specs.declared.apdu.Next.{Next}
use Rattle.apdu_codec.specs.declared.apdu.Next.TheVariants as Nexts
use Rattle.apdu_codec.specs.declared.refusal.Refusal.{Refusal}
use Rattle.apdu_codec.specs.declared.refusal.Refusal.TheVariants.{WrongLength, ConditionsNotMet, UnknownInstruction, UnknownClass}
use Rattle.apdu_codec.specs.Refusal.{status_word_of}
use Rattle.apdu_codec.specs.Apdu.{next_of}
use Rattle.apdu_codec.specs.Reply.{Answer}
use Rattle.card_files.specs.State as files
use Rattle.applet_registry.specs.State as registry
use Rattle.script_engine.specs.declared.card.CardState.{CardState}
use Rattle.script_engine.specs.declared.part.Part.{Part}
use Rattle.script_engine.specs.declared.part.Part.TheVariants as Parts
use Rattle.script_engine.specs.declared.file_command.FileCommand.{FileCommand}
use Rattle.script_engine.specs.declared.applet_command.AppletCommand.{AppletCommand}
use Rattle.script_engine.specs.FileCommand as file
use Rattle.script_engine.specs.AppletCommand as applet

-- a command that is refused changes nothing and gives no data
abbrev pub refused : CardState → Refusal → Answer CardState
refused card refusal = record { after = card; sw = status_word_of refusal; out = [] }

-- why a command is refused before what it tests itself: it has another class than its own, or may stand only
-- last and doesn't
abbrev pub refusal_before : Apdu → Bool → ℕ → Bool → Option Refusal
refusal_before apdu last class output =
    if not (apdu.cla == class) then Some UnknownClass
    else if output && not last then Some ConditionsNotMet
    else None

-- a command is refused so, or it does what it does
abbrev pub unless_refused : CardState → Answer CardState → Option Refusal → Answer CardState
unless_refused card made (Some refusal) = refused card refusal
unless_refused card made None = made

-- a command on the files changes nothing else of the card, and one on the registry neither
abbrev pub on_files : CardState → Answer files.State → Answer CardState
on_files card made = record { after = record card { files = made.after }; sw = made.sw; out = made.out }

abbrev pub on_registry : CardState → Answer registry.State → Answer CardState
on_registry card made = record { after = record card { registry = made.after }; sw = made.sw; out = made.out }

-- what isn't the part's is as it was
abbrev pub LeavesTheOther : Part → CardState → CardState → Type 0
LeavesTheOther Parts.Files before after = after.registry ≡ before.registry
LeavesTheOther Parts.Applets before after = after.files ≡ before.files

-- a command on the files, by its place in their table
abbrev pub file_step : CardState → Apdu → Bool → List ℕ → Option FileCommand → Answer CardState
file_step card apdu last octets None = refused card UnknownInstruction
file_step card apdu last octets (Some command) =
    unless_refused card
    (on_files card (file.file_command command card.files apdu.p1 apdu.p2 apdu.p3 octets))
    (refusal_before apdu last (file.class_of command) (file.is_output command))

-- a command on the registry, by its place in the table of the applets
abbrev pub applet_step : CardState → Apdu → Bool → List ℕ → Option AppletCommand → Answer CardState
applet_step card apdu last octets None = refused card UnknownInstruction
applet_step card apdu last octets (Some command) =
    unless_refused card
    (on_registry card (applet.applet_command command card.registry apdu.p1 apdu.p2 apdu.p3 octets))
    (refusal_before apdu last applet.class (applet.is_output command))

-- a command of a part of the card, which is the last one of its script or not
abbrev pub command_step : CardState → Part → Apdu → Bool → List ℕ → Answer CardState
command_step card Parts.Files apdu last octets = file_step card apdu last octets (file.file_command_of apdu.ins)
command_step card Parts.Applets apdu last octets = applet_step card apdu last octets (applet.applet_command_of apdu.ins)

-- the octets of a command's data
abbrev pub data_of : List ℕ → Apdu → List ℕ
data_of script apdu = take apdu.len (drop apdu.from script)

-- where a script goes on that answered so, and whose next command would begin at `next`: it ends behind its
-- last command, and at the first status word other than 9000
abbrev pub goes_on : List ℕ → ℕ → ℕ → Option ℕ
goes_on script sw next = if sw == 0x9000 && nat_lt next (length script) then Some next else None

-- what stands in a script is run: the answer, and where the next command begins. A rest that is no whole
-- command counts as one, is answered 6700, and ends the script
abbrev pub next_step : CardState → Part → List ℕ → Next → Answer CardState × Option ℕ
next_step card part script (Nexts.Command apdu next) =
    let made = command_step card part apdu (next == length script) (data_of script apdu) in
    (made, goes_on script made.sw next)
next_step card part script _ = (refused card WrongLength, None)

-- the command at a place of a script
abbrev pub script_step : CardState → Part → List ℕ → ℕ → Answer CardState × Option ℕ
script_step card part script at = next_step card part script (next_of script at)
