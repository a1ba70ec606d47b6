-- Tables of a document and what references to them say.
use Rattle.std.proofs.Common.{◌≡◌, refl, not, ℕ, Bor, Bool, List, [], ◌∷◌, ◌++◌, append_assoc, map, bytes_eq, string_bytes, String, Global, Option, Some, None, option_map}
use Rattle.std.specs.Prelude.{option_and_then}
use Rattle.toml.specs.Data.{Members}
use Rattle.std.specs.List.{list_any}
use Rattle.std.specs.Map.{keys_of}
use Rattle.toml.specs.View.{members_view}
use Rattle.toml.specs.declared.value.Value.{Value}
use Rattle.plan_reader.specs.FieldValue.{has_other_name}

-- a test of the images of a list
pub list_any-map : {A B : Type 0} (p : B → Bool) (f : A → B) (xs : List A) → list_any p (map f xs) ≡ list_any (λ x. p (f x)) xs
list_any-map p f [] = refl
list_any-map p f (x ∷ xs) = rw (list_any-map p f xs) refl

-- the names of a table, asked one after the other
pub other_name-any : (names : List (Bor (List ℕ))) (entries : List (String Global × Value))
    → list_any (λ key. not (list_any (λ other. bytes_eq (string_bytes key) other.now) names)) (keys_of entries)
    ≡ has_other_name (map (λ name. name.now) names) (members_view entries)
unfolding has_other_name
other_name-any names [] = refl
other_name-any names (entry ∷ entries) =
    rw (list_any-map (bytes_eq (string_bytes entry.0)) (λ (name : Bor (List ℕ)). name.now) names, ← other_name-any names entries) refl

-- one more table is read
pub tables-more : (said : List Members) (entry : Members) (rest : Option (List Members))
    → option_map (λ entries. said ++ entries) (option_and_then (λ entries. Some (entry ∷ entries)) rest)
    ≡ option_map (λ entries. (said ++ entry ∷ []) ++ entries) rest
tables-more said entry None = refl
tables-more said entry (Some entries) = rw (append_assoc said (entry ∷ []) entries) refl
