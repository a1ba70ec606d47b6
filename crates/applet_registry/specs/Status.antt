-- What GET STATUS gives. GlobalPlatform Card Specification 2.1.1, 9.4.3.
use Rattle.std.specs.Prelude.{ℕ, ◌-◌, nat_le, nat_eq, if◌then◌else◌, List, [], ◌∷◌, ◌++◌, length, map, filter}
use Rattle.std.specs.List.{starts_with}
use Rattle.applet_registry.specs.declared.application.Application.{Application}
use Rattle.applet_registry.specs.declared.load_file.LoadFile.{LoadFile}

-- the entry of one of them: the length of its AID, the AID, its state and its privileges
abbrev pub entry_of : List ℕ → ℕ → ℕ → List ℕ
entry_of aid state privileges = length aid ∷ (aid ++ (state ∷ privileges ∷ []))

-- the entries of the applications whose AID begins so, in their order
abbrev pub application_entries : List ℕ → List Application → List (List ℕ)
application_entries prefix applications =
    map (λ application. entry_of application.aid application.state application.privileges)
    (filter (λ application. starts_with nat_eq application.aid prefix) applications)

-- the entries of the load files whose AID begins so, in their order; the state of each is 01, loaded, and it
-- has no privileges
abbrev pub load_file_entries : List ℕ → List LoadFile → List (List ℕ)
load_file_entries prefix files =
    map (λ file. entry_of file.aid 0x01 0) (filter (λ file. starts_with nat_eq file.aid prefix) files)

-- the first entries, one after the other, as many whole ones as the room holds
abbrev pub fitting : ℕ → List (List ℕ) → List ℕ
fitting room [] = []
fitting room (entry ∷ entries) =
    if nat_le (length entry) room then entry ++ fitting (room - length entry) entries else []
