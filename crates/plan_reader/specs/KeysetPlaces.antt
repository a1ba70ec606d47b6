-- Which keysets and keys a list has.
use Rattle.std.specs.Prelude.{◌≡◌, ℕ, ◌&&◌, nat_eq, not, Bool, true, IsTrue, bytes_eq, List, [], ◌∷◌, Vec}
use Rattle.std.specs.HashSet.{HashSet, contains, contains_by}
use Rattle.std.specs.declared.alloc.Global.{Global}
use Rattle.ota_core.specs.Keyset.{Keyset}
use Rattle.plan_reader.specs.PlanTable.{lists_keyset, has_kid}
use Rattle.plan_reader.specs.declared.keyset_table.Listing.{Listing}

-- two pairs of numbers are equal
abbrev pub same_pair : ℕ × ℕ → ℕ × ℕ → Bool
same_pair first second = nat_eq first.0 second.0 && nat_eq first.1 second.1

-- no two keysets have one number on one card
abbrev pub have_own_ids : List Listing → Bool
have_own_ids [] = true
have_own_ids (listing ∷ listings) = not (lists_keyset listing.id listings) && have_own_ids listings

-- the sets have the keysets and the keys for the checksum, and no two keysets have one number on one card
pub record IsListed {S : Type 0} (ids : HashSet (ℕ × ℕ) S) (kids : HashSet (Vec ℕ Global) S) (listings : List Listing) : Type 0 where
  pub found : (id : Keyset) → contains same_pair ids (id.card.0, id.kvn) ≡ lists_keyset id listings
  pub found_kid : (kid : List ℕ) → contains_by (λ key. bytes_eq kid key.items) kids ≡ has_kid kid listings
  pub distinct : IsTrue (have_own_ids listings)
