-- The words of the commands.
use Rattle.std.specs.Prelude.{ℕ, Bool, false, not, nat_le, ◌==◌, ◌&&◌, if◌then◌else◌, Option, Some, None, option_map, List, [], ◌∷◌, codes}
use Rattle.std.specs.Option.{option_and_then, option_or}
use Rattle.std.specs.Str.{bytes_eq}
use Rattle.plan_reader.specs.Number.{number_of}
use Rattle.ota_commands.specs.declared.words.Command.{Command}
use Rattle.ota_commands.specs.declared.words.Command.TheVariants.{Format, Reserve, Packet}
use Rattle.ota_commands.specs.declared.words.Words.{Words}

-- a word that can be a path: it isn't empty and doesn't begin as an option does
abbrev pub is_path : List ℕ → Bool
is_path [] = false
is_path (first ∷ rest) = not (first == 45)

-- the name of a command, and behind it the option of the number of lanes
unfoldable pub has_front : List ℕ → List ℕ → List ℕ → Bool
has_front name command lanes = bytes_eq command name && bytes_eq lanes (codes "--lanes")

-- an option of this name with a path
unfoldable pub is_option : List ℕ → List ℕ → List ℕ → Bool
is_option option name path = bytes_eq option name && is_path path

-- the greatest number of lanes
abbrev pub MOST_LANES : ℕ
MOST_LANES = 64

-- a number of lanes: 1 to 64, in 1 to 18 decimal digits
abbrev pub lanes_in : List ℕ → Option ℕ
lanes_in digits = option_and_then (λ lanes. if nat_le 1 lanes then Some lanes else None) (number_of 18 MOST_LANES digits)

-- what the words of this command say, where they are those
abbrev pub said_by : Command → Bool → List ℕ → Option Words
said_by command are count = if are then option_map (λ lanes. record { command = command; lanes = lanes }) (lanes_in count) else None

-- the paths of a store, a plan and jobs, each behind its option
unfoldable pub has_paths : List ℕ → List ℕ → List ℕ → List ℕ → List ℕ → List ℕ → Bool
has_paths store store_path plan plan_path jobs jobs_path =
    is_option store (codes "--store") store_path && is_option plan (codes "--plan") plan_path && is_option jobs (codes "--jobs") jobs_path

-- what the words of a command say that reads a plan and jobs, where the paths are those
abbrev pub said_reading : List ℕ → List ℕ → Bool → List ℕ → Option Words
said_reading command lanes are count =
    option_or (said_by Reserve (has_front (codes "reserve") command lanes && are) count) (said_by Packet (has_front (codes "packet") command lanes && are) count)

-- `format --lanes N --store PATH`, or `reserve` or `packet` with `--lanes N --store PATH --plan PATH --jobs PATH`, in that order
abbrev pub words_of : List (List ℕ) → Option Words
words_of (command ∷ lanes ∷ count ∷ store ∷ path ∷ []) =
    said_by Format (has_front (codes "format") command lanes && is_option store (codes "--store") path) count
words_of (command ∷ lanes ∷ count ∷ store ∷ store_path ∷ plan ∷ plan_path ∷ jobs ∷ jobs_path ∷ []) =
    said_reading command lanes (has_paths store store_path plan plan_path jobs jobs_path) count
words_of _ = None

-- the command, where the words say this number of lanes
abbrev pub command_of : ℕ → Words → Option Command
command_of sites said = if said.lanes == sites then Some said.command else None

-- the command that the words say for so many sites
abbrev pub command_for : List (List ℕ) → ℕ → Option Command
command_for words sites = option_and_then (command_of sites) (words_of words)
