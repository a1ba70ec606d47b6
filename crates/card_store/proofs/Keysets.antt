-- The numbers of a card's keysets.
use Rattle.std.proofs.Common.{◌≡◌, ℕ, ◌≤◌, Bool, true, false, cond, nat_eq, find, is_some, option_map, Option, Some, None, List, [], ◌∷◌, refl, sym, subst}
use Rattle.std.specs.Option.{option_or}
use Rattle.std.proofs.lemmas.Bool.{eqb-true}
use Rattle.ota_core.specs.declared.cards.CardFacts.{CardFacts}
use Rattle.ota_core.specs.declared.keysets.KeysetFacts.{KeysetFacts}
use Rattle.ota_core.specs.KeysetList.{IsKeysetList}
use Rattle.script_engine.specs.declared.card.CardState.{CardState}
use Rattle.world_core.specs.Card.{facts_under}
use Rattle.card_store.specs.Content.{keyset_of}

abbrev Keysets : Type 0
Keysets = List (ℕ × KeysetFacts)

abbrev pub IsInRange : ℕ → Type 0
IsInRange kvn = (1 ≤ kvn) × (kvn ≤ 15)

-- a keyset that is found in a list has a number of 1 to 15
pub found_range : (kvn : ℕ) (keysets : Keysets) → IsKeysetList keysets → is_some (facts_under kvn keysets) ≡ true → IsInRange kvn
found_range kvn [] all found = cc
found_range kvn (keyset ∷ keysets) all found =
    elim (nat_eq keyset.0 kvn) as (λ b. nat_eq keyset.0 kvn ≡ b → is_some (option_map (λ (k : ℕ × KeysetFacts). k.1) (cond b (Some keyset) (find (λ (k : ℕ × KeysetFacts). nat_eq k.0 kvn) keysets))) ≡ true → IsInRange kvn) [
      | true ↦ λ same e. subst IsInRange (eqb-true keyset.0 kvn same) (all.0, all.1)
      | false ↦ λ other e. found_range kvn keysets all.3 e
    ] refl found

-- and so has one that was found in either list
pub either_range : (kvn : ℕ) (issued put : Keysets) → IsKeysetList issued → IsKeysetList put → is_some (option_or (facts_under kvn issued) (facts_under kvn put)) ≡ true → IsInRange kvn
either_range kvn issued put all others found =
    elim (facts_under kvn issued) as (λ f. facts_under kvn issued ≡ f → is_some (option_or f (facts_under kvn put)) ≡ true → IsInRange kvn) [
      | Some facts ↦ λ is e. found_range kvn issued all (subst (λ (f : Option KeysetFacts). is_some f ≡ true) (sym is) refl)
      | None ↦ λ is e. found_range kvn put others e
    ] refl found
