-- The place of a card among those of a site.
use Rattle.std.proofs.Common.{cond, sym, ◌∙◌, ◌≡◌, ◌<◌, ◌+◌, ℕ, zero, suc, Bool, true, false, List, [], ◌∷◌, length, Option, Some, None, refl, ap, subst, inl, inr, arith, get_or, nat_lt, set}
use Rattle.std.specs.List.{position, position_or_len}
use Rattle.std.specs.Prelude.{◌==◌}
use Rattle.std.proofs.lemmas.Bool.{cases_lt, eq-eqb}
use Rattle.std.proofs.lemmas.Bool.Decides.{nat_tests}
use Rattle.std.proofs.lemmas.List.Quantifiers.{position-Some}
use Rattle.receiving_entity.specs.Card.{CardValue}
use Rattle.air_sim.specs.Cards.{card_of, number_of, place_in, with_card}

module _ {D : Type 0} where
  abbrev has : ℕ → CardValue D → Bool
  has number = λ (card : CardValue D). number_of card == number

  -- no place, no card
  pub not_there : (number : ℕ) (cards : List (CardValue D)) → place_in number cards ≡ None → card_of number cards ≡ None
  not_there number [] none = refl
  not_there number (card ∷ cards) none = go (number_of card == number) refl (λ rest. not_there number cards rest)
    where
      go : (t : Bool) → (number_of card == number) ≡ t → (position (has number) cards ≡ None → card_of number cards ≡ None) → card_of number (card ∷ cards) ≡ None
      go true e rec =
          let t : nat_lt 0 (suc (length cards)) ≡ true = grind (arith, nat_tests) in
          let shown : position (has number) (card ∷ cards) ≡ cond (nat_lt 0 (suc (length cards))) (Some 0) None = rw e refl in
          let bad : Some 0 ≡ None = sym (rw t at shown) ∙ none in
          absurd cc
      go false e rec =
          let n = position_or_len (has number) cards in
          elim (cases_lt n (length cards)) [
            | inl under ↦
                let t : nat_lt (1 + n) (suc (length cards)) ≡ true = grind (arith, nat_tests) in
                let shown : position (has number) (card ∷ cards) ≡ cond (nat_lt (1 + n) (suc (length cards))) (Some (1 + n)) None = rw e refl in
                let bad : Some (1 + n) ≡ None = sym (rw t at shown) ∙ none in
                absurd cc
            | inr over ↦
                let t : nat_lt n (length cards) ≡ false = grind (arith, nat_tests) in
                let rest : position (has number) cards ≡ None = rw t refl in
                rw e (rec rest)
          ]

  -- the first card with the number
  first_at : (number : ℕ) (cards : List (CardValue D)) (i : ℕ) (d : CardValue D) → i < length cards → (number_of (get_or cards i d) == number) ≡ true
      → ((k : ℕ) → k < i → (number_of (get_or cards k d) == number) ≡ false) → card_of number cards ≡ Some (get_or cards i d)
  first_at number [] i d lt hit before = absurd (omega arith)
  first_at number (card ∷ cards) zero d lt hit before = rw hit refl
  first_at number (card ∷ cards) (suc i) d lt hit before =
      let head : (number_of card == number) ≡ false = before 0 (omega arith) in
      rw head (first_at number cards i d (omega arith) hit (λ k low. before (suc k) (omega arith)))

  -- a card with the same number in its place
  put_at : (cards : List (CardValue D)) (i : ℕ) (d after : CardValue D) → i < length cards → (number_of (get_or cards i d) == number_of after) ≡ true
      → ((k : ℕ) → k < i → (number_of (get_or cards k d) == number_of after) ≡ false) → set cards i after ≡ with_card after cards
  put_at [] i d after lt hit before = absurd (omega arith)
  put_at (card ∷ cards) zero d after lt hit before = rw hit refl
  put_at (card ∷ cards) (suc i) d after lt hit before =
      let head : (number_of card == number_of after) ≡ false = before 0 (omega arith) in
      rw head (ap (λ (l : List (CardValue D)). card ∷ l) (put_at cards i d after (omega arith) hit (λ k low. before (suc k) (omega arith))))

  module _ (number : ℕ) (cards : List (CardValue D)) (place : ℕ) (at : place_in number cards ≡ Some place) where
    pub place_within : (d : CardValue D) → place < length cards
    place_within d = (position-Some (has number) cards place d at).0

    pub found_at : (d : CardValue D) → card_of number cards ≡ Some (get_or cards place d)
    found_at d =
        let it = position-Some (has number) cards place d at in
        first_at number cards place d it.0 it.1 it.2

    pub set_there : (d after : CardValue D) → number_of after ≡ number → set cards place after ≡ with_card after cards
    set_there d after same =
        let it = position-Some (has number) cards place d at in
        put_at cards place d after it.0
        (subst (λ (n : ℕ). (number_of (get_or cards place d) == n) ≡ true) (sym same) it.1)
        (subst (λ (n : ℕ). (k : ℕ) → k < place → (number_of (get_or cards k d) == n) ≡ false) (sym same) it.2)
