-- What the words of a command say.
use Rattle.std.specs.Prelude.{ℕ, Bool, true, false, ◌==◌, if◌then◌else◌, Option, Some, None, option_map, List, [], ◌∷◌, codes, string_bytes}
use Rattle.std.specs.Option.{option_and_then}
use Rattle.std.specs.Str.{bytes_eq}
use Rattle.clap.specs.Words.{Row}
use Rattle.plan_reader.specs.Text.{◌>>=◌}
use Rattle.command_words.specs.Options.{app_for, rows_by, value_of, has_flag, path_in}
use Rattle.command_words.specs.Values.{number_from, number_or, name_or}
use Rattle.command_words.specs.declared.commands.Command.{Command}
use Rattle.command_words.specs.declared.commands.Command.TheVariants.{Format, Reserve, Send, Report, Close, Cards, Packet}
use Rattle.command_words.specs.declared.commands.Reserving.{Reserving}
use Rattle.command_words.specs.declared.commands.Sending.{Sending}
use Rattle.command_words.specs.declared.commands.Shown.{Shown}
use Rattle.command_words.specs.declared.commands.Shown.TheVariants as shown
use Rattle.command_words.specs.declared.kinds.Kind.{Kind}
use Rattle.command_words.specs.declared.kinds.Kind.TheVariants as kind
use Rattle.command_words.specs.declared.reading.Words.{Words}
use Rattle.command_words.specs.declared.places.Found.{Found}
use Rattle.command_words.specs.declared.places.Paths.{Paths}

-- the number that a required option says
abbrev pub required_number : (least greatest : ℕ) → List ℕ → List Row → Option ℕ
required_number least greatest name rows = option_and_then (number_from least greatest) (value_of name rows)

-- the number that an option says, or this one where it is missing
abbrev pub usual_number : (missing least greatest : ℕ) → List ℕ → List Row → Option ℕ
usual_number missing least greatest name rows = number_or missing least greatest (value_of name rows)

-- the number of lanes: 1 to 64
abbrev pub lanes_in : List Row → Option ℕ
lanes_in rows = required_number 1 64 (codes "lanes") rows

-- ---- the paths

-- where a command finds its files; a path that it has no option for is empty
pub record Places : Type 0 where
  pub store : List ℕ
  pub plan : List ℕ
  pub jobs : List ℕ

abbrev pub places_of : Paths → Places
places_of paths = record { store = string_bytes paths.store; plan = string_bytes paths.plan; jobs = string_bytes paths.jobs }

abbrev pub found_places : Found → Places
found_places found = record { store = found.store.now; plan = found.plan.now; jobs = found.jobs.now }

abbrev pub has_plan : Kind → Bool
has_plan kind.Format = false
has_plan kind.Close = false
has_plan _ = true

abbrev pub has_jobs : Kind → Bool
has_jobs kind.Format = false
has_jobs kind.Close = false
has_jobs kind.Cards = false
has_jobs _ = true

abbrev pub path_if : Bool → List ℕ → List Row → Option (List ℕ)
path_if there name rows = if there then path_in name rows else Some []

abbrev pub places_in : Kind → List Row → Option Places
places_in kind rows = do
  store ← path_in (codes "store") rows
  plan ← path_if (has_plan kind) (codes "plan") rows
  jobs ← path_if (has_jobs kind) (codes "jobs") rows
  Some (record { store = store; plan = plan; jobs = jobs })

-- ---- the commands

abbrev pub reserving_in : List Row → Option Reserving
reserving_in rows = option_map (λ name. record { retry = has_flag (codes "retry") rows; name = name }) (name_or (value_of (codes "name") rows))

-- 4 senders, 2 resends, 4 polls and batches of one job, unless the words say otherwise
abbrev pub sending_in : List Row → Option Sending
sending_in rows = do
  senders ← usual_number 4 1 64 (codes "senders") rows
  resends ← usual_number 2 0 16 (codes "resends") rows
  polls ← usual_number 4 1 1000 (codes "polls") rows
  batch ← usual_number 1 1 16 (codes "batch") rows
  Some (record { senders = senders; batch = batch; resends = resends; polls = polls; summary = has_flag (codes "summary") rows })

abbrev pub send_in : List Row → Option Command
send_in rows = do
  reserving ← reserving_in rows
  sending ← sending_in rows
  Some (Send reserving sending)

-- the report, unless the words ask for one of the other texts
abbrev pub shown_by : (summary times : Bool) → Option Shown
shown_by false false = Some shown.Lines
shown_by true false = Some shown.Summary
shown_by false true = Some shown.Times
shown_by true true = None

abbrev pub shown_in : List Row → Option Shown
shown_in rows = shown_by (has_flag (codes "summary") rows) (has_flag (codes "times") rows)

-- the greatest number of a card
abbrev pub LAST_CARD : ℕ
LAST_CARD = 999999999999999999

abbrev pub close_in : List Row → Option Command
close_in rows = do
  card ← required_number 0 LAST_CARD (codes "card") rows
  kvn ← required_number 1 15 (codes "kvn") rows
  Some (Close (record { card = record { 0 = card }; kvn = kvn }))

abbrev pub command_in : Kind → List Row → Option Command
command_in kind.Format rows = Some Format
command_in kind.Reserve rows = option_map Reserve (reserving_in rows)
command_in kind.Send rows = send_in rows
command_in kind.Report rows = option_map Report (shown_in rows)
command_in kind.Close rows = close_in rows
command_in kind.Cards rows = Some Cards
command_in kind.Packet rows = Some Packet

-- ---- the words

-- the command that a first word names
abbrev pub kind_of : List ℕ → Option Kind
kind_of name =
    if bytes_eq name (codes "format") then Some kind.Format
    else (if bytes_eq name (codes "reserve") then Some kind.Reserve
    else (if bytes_eq name (codes "send") then Some kind.Send
    else (if bytes_eq name (codes "report") then Some kind.Report
    else (if bytes_eq name (codes "close") then Some kind.Close
    else (if bytes_eq name (codes "cards") then Some kind.Cards
    else (if bytes_eq name (codes "packet") then Some kind.Packet
    else None))))))

-- what a command's words say: the command, for how many lanes, and where its files are
pub record Said : Type 0 where
  pub command : Command
  pub lanes : ℕ
  pub places : Places

abbrev pub said_of : Words → Said
said_of words = record { command = words.command; lanes = words.lanes; places = places_of words.paths }

-- what the options of a command say
abbrev pub said_in : Kind → List Row → Option Said
said_in kind rows = do
  lanes ← lanes_in rows
  places ← places_in kind rows
  command ← command_in kind rows
  Some (record { command = command; lanes = lanes; places = places })

abbrev pub said_by : List (List ℕ) → Kind → Option Said
said_by words kind = option_and_then (said_in kind) (rows_by (app_for kind) words)

-- what the words say: None where they are no command's
abbrev pub words_of : List (List ℕ) → Option Said
words_of [] = None
words_of (name ∷ rest) = option_and_then (said_by (name ∷ rest)) (kind_of name)

-- the command, where the words say this number of lanes
abbrev pub command_on : ℕ → Said → Option Command
command_on sites said = if said.lanes == sites then Some said.command else None

-- the command that the words say for so many sites
abbrev pub command_for : List (List ℕ) → ℕ → Option Command
command_for words sites = option_and_then (command_on sites) (words_of words)
