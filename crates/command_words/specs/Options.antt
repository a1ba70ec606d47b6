-- The options of the commands. A command's words are its name and its options, in any order and each at most once, with a
-- value as the next word or behind `=`. The walk over such words is that of the command lines' crate.
use Rattle.std.specs.Prelude.{ℕ, Bool, true, false, if◌then◌else◌, Option, Some, None, List, [], ◌∷◌, ◌++◌, codes}
use Rattle.std.specs.Str.{bytes_eq}
use Rattle.clap.specs.Words.{App, Row, Rule, first_of, fault_of, found_of, rows_of, matches_of, new_app, new_rule}
use Rattle.clap.specs.declared.builder.action.ArgAction.TheVariants.{Set, SetTrue}
use Rattle.clap.specs.declared.parser.matches.ArgMatches.{ArgMatches}
use Rattle.clap.specs.Kinds.{Kinds}
use Rattle.command_words.specs.Values.{is_value, has_no_end}
use Rattle.command_words.specs.declared.kinds.Kind.{Kind}
use Rattle.command_words.specs.declared.kinds.Kind.TheVariants as kind

-- an option with a value
abbrev pub option : List ℕ → Bool → Rule
option name required = record (new_rule name) { long = Some name; action = Some Set; required = required }

-- an option without one
abbrev pub flag : List ℕ → Rule
flag name = record (new_rule name) { long = Some name; action = Some SetTrue }

-- a command with these options, and no words that ask for help
abbrev pub app : List ℕ → List Rule → App
app name rules = let bare = new_app name in record bare { top = record bare.top { rules = rules; disable_help_flag = true } }

abbrev pub place_options : List Rule
place_options = option (codes "lanes") true ∷ option (codes "store") true ∷ []

abbrev pub input_options : List Rule
input_options = place_options ++ option (codes "plan") true ∷ option (codes "jobs") true ∷ []

abbrev pub reserving_options : List Rule
reserving_options = input_options ++ flag (codes "retry") ∷ option (codes "name") false ∷ []

abbrev pub resending_options : List Rule
resending_options = reserving_options ++ option (codes "senders") false ∷ option (codes "resends") false ∷ option (codes "polls") false ∷ []

abbrev pub sending_options : List Rule
sending_options = resending_options ++ option (codes "batch") false ∷ flag (codes "summary") ∷ []

abbrev pub report_options : List Rule
report_options = input_options ++ flag (codes "summary") ∷ flag (codes "times") ∷ []

abbrev pub close_options : List Rule
close_options = place_options ++ option (codes "card") true ∷ option (codes "kvn") true ∷ []

abbrev pub cards_options : List Rule
cards_options = place_options ++ option (codes "plan") true ∷ []

abbrev pub campaign_options : List Rule
campaign_options = option (codes "number") true ∷ option (codes "cards") true ∷ option (codes "count") true ∷ []

abbrev pub drill_options : List Rule
drill_options = campaign_options ++ option (codes "lanes") true ∷ option (codes "senders") true ∷ []

abbrev pub drill_app : App
drill_app = app (codes "drill") drill_options

-- each command with its options
abbrev pub app_for : Kind → App
app_for kind.Format = app (codes "format") place_options
app_for kind.Reserve = app (codes "reserve") reserving_options
app_for kind.Send = app (codes "send") sending_options
app_for kind.Report = app (codes "report") report_options
app_for kind.Close = app (codes "close") close_options
app_for kind.Cards = app (codes "cards") cards_options
app_for kind.Packet = app (codes "packet") input_options

-- ---- what was given

-- the options that the words of a command give
abbrev pub rows_in : ArgMatches → List Row
rows_in matches = rows_of (found_of matches)

abbrev pub has_no_fault : Kinds → Bool
has_no_fault [] = true
has_no_fault (fault ∷ faults) = false

-- the options with their values, where nothing is wrong with them
unfoldable pub rows_read : App → List (List ℕ) → Option (List Row)
rows_read app words = if has_no_fault (fault_of app words) then Some (matches_of app words) else None

-- the same, where no word ends the options
unfoldable pub rows_by : App → List (List ℕ) → Option (List Row)
rows_by app words = if has_no_end words then rows_read app words else None

-- the value of an option
unfoldable pub value_of : List ℕ → List Row → Option (List ℕ)
value_of name rows = first_of name rows

abbrev pub is_true : Option (List ℕ) → Bool
is_true None = false
is_true (Some text) = bytes_eq text (codes "true")

-- the option without a value is given
abbrev pub has_flag : List ℕ → List Row → Bool
has_flag name rows = is_true (value_of name rows)

abbrev pub path_of : Option (List ℕ) → Option (List ℕ)
path_of None = None
path_of (Some path) = if is_value path then Some path else None

-- the path that an option names
abbrev pub path_in : List ℕ → List Row → Option (List ℕ)
path_in name rows = path_of (value_of name rows)
