-- What holds of the registry of every card. GlobalPlatform Card Specification 2.1.1, 5 and 6.
use Rattle.std.specs.Prelude.{◌≡◌, ℕ, ◌<◌, ◌≤◌, Bool, true, false, IfSome, is_some, List, [], ◌∷◌, length, bytes_eq}
use Rattle.std.specs.List.{list_any}
use Rattle.ota_core.specs.KeysetList.{IsKeysetList}
use Rattle.applet_registry.specs.declared.application.Application.{Application}
use Rattle.applet_registry.specs.declared.load_file.LoadFile.{LoadFile}
use Rattle.applet_registry.specs.State.{State, has_load_file, has_application, is_loading, is_known, is_in_use, room_of, is_issued, put_of}

-- one of these has this AID, where each has the one that a function tells
abbrev pub has : {X : Type 0} → (X → List ℕ) → List X → List ℕ → Bool
has aid_in xs aid = list_any (λ x. bytes_eq (aid_in x) aid) xs

-- no AID stands twice among them
abbrev pub AreDistinct : {X : Type 0} → (X → List ℕ) → List X → Type 0
AreDistinct aid_in [] = Unit {0}
AreDistinct aid_in (x ∷ xs) = (has aid_in xs (aid_in x) ≡ false) × AreDistinct aid_in xs

pub record IsSound (s : State) : Type 0 where
  -- no AID is known twice: neither among the load files, nor among the applications, nor by two of them and the
  -- load under way
  pub load_files : AreDistinct (λ (file : LoadFile). file.aid) s.load_files
  pub applications : AreDistinct (λ (application : Application). application.aid) s.applications
  pub apart : (aid : List ℕ) → has_load_file s aid ≡ true → has_application s aid ≡ false
  pub loading : (aid : List ℕ) → is_loading s aid ≡ true → (has_load_file s aid ≡ false) × (has_application s aid ≡ false)
  -- each application comes from a load file that is there
  pub comes_from : (aid : List ℕ) → is_in_use s aid ≡ true → has_load_file s aid ≡ true
  -- there are at most 32 load files, with the one that a load under way is to make, and 64 applications; a load has
  -- at most 256 blocks; and 65,536 octets have room
  pub few_files : length s.load_files ≤ 32
  pub few_blocks : IfSome s.load (λ load. (load.count ≤ 256) × (length s.load_files < 32))
  pub few_applications : length s.applications ≤ 64
  pub room : room_of s ≤ 65536
  -- no number stands twice among the keysets that were put, and none is that of an issued one
  pub put : IsKeysetList s.put
  pub not_issued : (kvn : ℕ) → is_some (put_of s kvn) ≡ true → is_issued s kvn ≡ false

-- an application may be registered beside the others: its load file is there, its AID isn't known, and there is room
pub record IsNew (s : State) (new : Application) : Type 0 where
  pub from : has_load_file s new.load_file ≡ true
  pub unknown : is_known s new.aid ≡ false
  pub few : length s.applications < 64
