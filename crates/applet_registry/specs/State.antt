-- The load files and the applications of a card, the load under way, and the keysets. GlobalPlatform Card
-- Specification 2.1.1, 5 and 6; ETSI TS 102 225, 5.1.2.
use Rattle.std.specs.Prelude.{ℕ, ◌+◌, Bool, false, not, ◌||◌, ◌&&◌, ◌==◌, nat_lt, nat_eq, if◌then◌else◌, Option, None, option_map, List, ◌++◌, length, map, filter, find, sum_by, bytes_eq}
use Rattle.std.specs.List.{list_any}
use Rattle.std.specs.Option.{option_map_or}
use Rattle.applet_registry.specs.declared.application.Application.{Application}
use Rattle.applet_registry.specs.declared.application.NewState.{NewState}
use Rattle.applet_registry.specs.declared.load.Load.{Load}
use Rattle.applet_registry.specs.declared.load_file.LoadFile.{LoadFile}
use Rattle.ota_core.specs.declared.keysets.KeysetFacts.{KeysetFacts}

-- the load files and the applications, each in order of registration, and the load under way; the numbers of
-- the keysets with which the card was issued, and the keysets that were put, each with its number
pub record State : Type 0 where
  pub load_files : List LoadFile
  pub applications : List Application
  pub load : Option Load
  pub issued : List ℕ
  pub put : List (ℕ × KeysetFacts)

-- the card was issued with a keyset of this number
abbrev pub is_issued : State → ℕ → Bool
is_issued s kvn = list_any (λ issued. nat_eq issued kvn) s.issued

-- the keyset of this number among others
abbrev pub keyset_in : List (ℕ × KeysetFacts) → ℕ → Option KeysetFacts
keyset_in keysets kvn = option_map (λ keyset. keyset.1) (find (λ keyset. nat_eq keyset.0 kvn) keysets)

-- the keyset that was put with this number
abbrev pub put_of : State → ℕ → Option KeysetFacts
put_of s kvn = keyset_in s.put kvn

-- there is a load file, or an application, with this AID
abbrev pub has_load_file : State → List ℕ → Bool
has_load_file s aid = list_any (λ file. bytes_eq file.aid aid) s.load_files

abbrev pub has_application : State → List ℕ → Bool
has_application s aid = list_any (λ application. bytes_eq application.aid aid) s.applications

-- the load under way has this AID
abbrev pub is_loading : State → List ℕ → Bool
is_loading s aid = option_map_or (λ load. bytes_eq load.aid aid) s.load false

-- a known AID: that of a load file, of an application, or of the load under way
abbrev pub is_known : State → List ℕ → Bool
is_known s aid = has_load_file s aid || has_application s aid || is_loading s aid

-- the state of the application with this AID
abbrev pub state_of : List Application → List ℕ → Option ℕ
state_of applications aid = option_map (λ application. application.state) (find (λ application. bytes_eq application.aid aid) applications)

-- an application comes from the load file with this AID
abbrev pub is_in_use : State → List ℕ → Bool
is_in_use s aid = list_any (λ application. bytes_eq application.load_file aid) s.applications

-- the application with an AID has a new state
abbrev pub with_state_of : NewState → Application → Application
with_state_of new application = if bytes_eq application.aid new.aid then record application { state = new.state } else application

abbrev pub with_state : State → NewState → State
with_state s new = record s { applications = map (with_state_of new) s.applications }

-- an application goes; a load file goes, with the applications that come from it
abbrev pub without_application : State → List ℕ → State
without_application s aid = record s { applications = filter (λ application. not (bytes_eq application.aid aid)) s.applications }

abbrev pub without_load_file : State → List ℕ → State
without_load_file s aid = record s {
  load_files = filter (λ file. not (bytes_eq file.aid aid)) s.load_files;
  applications = filter (λ application. not (bytes_eq application.load_file aid)) s.applications;
}

-- the load under way is dropped
abbrev pub without_load : State → State
without_load s = record s { load = None }

-- the octets that load files hold
abbrev pub total_of : List LoadFile → ℕ
total_of files = sum_by (λ (file : LoadFile). length file.octets) files

-- the octets of the load under way
abbrev pub under_way : State → ℕ
under_way s = option_map_or (λ load. length load.blocks) s.load 0

-- the room that is taken: by the octets of all load files, and by the blocks of the load under way
abbrev pub room_of : State → ℕ
room_of s = total_of s.load_files + under_way s

-- the block with this number, from 0, is the next one of a load; there are at most 256
abbrev pub awaits_block : Load → ℕ → Bool
awaits_block load number = number == load.count && nat_lt load.count 256

-- a load has taken one block more
abbrev pub with_block : Load → List ℕ → Load
with_block load block = record load { blocks = load.blocks ++ block; count = load.count + 1 }
