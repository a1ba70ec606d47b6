-- The words of `try`: `--part rfm` or `--part ram`, and `--script` with hexadecimal digits.
use Rattle.std.specs.Prelude.{◌≡◌, ℕ, Bool, true, false, not, ◌==◌, ◌&&◌, ◌||◌, nat_lt, nat_le, if◌then◌else◌, Option, Some, None, Result, Ok, Err, List, [], ◌∷◌, length, codes}
use Rattle.std.specs.List.{list_all}
use Rattle.std.specs.Str.{bytes_eq}
use Rattle.clap.specs.declared.builder.action.ArgAction.TheVariants.{Set}
use Rattle.clap.specs.declared.parser.matches.ArgMatches.{ArgMatches}
use Rattle.clap.specs.Words.{App, Kinds, Rule, fault_of, first_of, first_value, found_of, matches_of, new_app, new_rule, with_rule}
use Rattle.hex.specs.Hex.{decode_of}
use Rattle.script_engine.specs.declared.part.Part.{Part}
use Rattle.script_engine.specs.declared.part.Part.TheVariants.{Files, Applets}
use Rattle.ota_commands.specs.declared.trials.Trial.{Trial}

-- an option with one value, which must be given
abbrev pub required_option : List ℕ → Rule
required_option name = record (new_rule name) { long = Some name; action = Some Set; required = true }

abbrev pub no_help : App → App
no_help app = record app { top = record app.top { disable_help_flag = true } }

-- the command's options, in any order, each once, with its value as the next word or after `=`, and no others
abbrev pub try_app : App
try_app = with_rule (with_rule (no_help (new_app (codes "try"))) (required_option (codes "part"))) (required_option (codes "script"))

-- why the words are refused: for nothing, where they are these options
unfoldable pub faults_in : List (List ℕ) → Kinds
faults_in words = fault_of try_app words

-- the text behind an option
unfoldable pub text_behind : List ℕ → List (List ℕ) → Option (List ℕ)
text_behind name words = first_of name (matches_of try_app words)

-- what a parse of the words gave: where they are these options, the text behind each
pub record Says (words : List (List ℕ)) (matches : ArgMatches) : Type 0 where
  pub faultless : faults_in words ≡ []
  pub part : first_value (found_of matches) (codes "part") ≡ text_behind (codes "part") words
  pub script : first_value (found_of matches) (codes "script") ≡ text_behind (codes "script") words

abbrev pub IsParsed : List (List ℕ) → Option ArgMatches → Type 0
IsParsed words (Some matches) = Says words matches
IsParsed words None = faults_in words ≡ [] → ⊥

abbrev pub both : Option (List ℕ) → Option (List ℕ) → Option (List ℕ × List ℕ)
both (Some first) (Some second) = Some (first, second)
both _ _ = None

abbrev pub texts_unless : Kinds → Option (List ℕ × List ℕ) → Option (List ℕ × List ℕ)
texts_unless [] texts = texts
texts_unless (_ ∷ _) texts = None

-- the texts behind the two options
abbrev pub options_of : List (List ℕ) → Option (List ℕ × List ℕ)
options_of words = texts_unless (faults_in words) (both (text_behind (codes "part") words) (text_behind (codes "script") words))

abbrev pub is_named : List (List ℕ) → Bool
is_named [] = false
is_named (name ∷ _) = bytes_eq name (codes "try")

abbrev pub is_no_dashes : List ℕ → Bool
is_no_dashes word = not (bytes_eq word (codes "--"))

-- the first word is the command's name, and none is `--`
abbrev pub are_tried : List (List ℕ) → Bool
are_tried words = is_named words && list_all is_no_dashes words

-- the part that runs the script: remote file management, or remote applet management
abbrev pub part_named : List ℕ → Option Part
part_named name = if bytes_eq name (codes "rfm") then Some Files else if bytes_eq name (codes "ram") then Some Applets else None

-- an expanded script begins with the tag AA. ETSI TS 101 220, 7.2
abbrev pub is_expanded : List ℕ → Bool
is_expanded [] = false
is_expanded (tag ∷ _) = tag == 0xAA

-- a script that is tried: an expanded one, or a compact one of 1 to 4,096 octets
abbrev pub is_tried : List ℕ → Bool
is_tried script = is_expanded script || (nat_lt 0 (length script) && nat_le (length script) 4096)

abbrev pub only_tried : List ℕ → Option (List ℕ)
only_tried script = if is_tried script then Some script else None

abbrev pub script_in : {E : Type 0} → Result (List ℕ) E → Option (List ℕ)
script_in (Ok script) = only_tried script
script_in (Err _) = None

-- the script that hexadecimal digits say
unfoldable pub script_of : List ℕ → Option (List ℕ)
script_of digits = script_in (decode_of digits)

abbrev pub trial_from : Option Part → Option (List ℕ) → Option Trial
trial_from (Some part) (Some script) = Some (record { part = part; script = script })
trial_from _ _ = None

abbrev pub trial_by : Option (List ℕ × List ℕ) → Option Trial
trial_by None = None
trial_by (Some texts) = trial_from (part_named texts.0) (script_of texts.1)

-- what the words ask for
abbrev pub trial_of : List (List ℕ) → Option Trial
trial_of words = if are_tried words then trial_by (options_of words) else None
