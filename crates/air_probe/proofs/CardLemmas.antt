-- Cards whose numbers count up.
use Rattle.std.specs.Prelude.{◌≡◌, ◌≤◌, ℕ, ◌+◌, ◌==◌, ◌&&◌, not, Bool, true, false, List, [], ◌∷◌, ◌++◌, map, refl}
use Rattle.std.proofs.Common.{arith, ap, ◌∙◌}
use Rattle.std.proofs.lemmas.Bool.{and_parts, eqb-true}
use Rattle.receiving_entity.specs.Card.{CardValue}
use Rattle.air_sim.specs.Cards.{are_distinct, facts_of, is_free, number_of}

both_hold : (a b : Bool) → a ≡ true → b ≡ true → (a && b) ≡ true
both_hold true b one other = other
both_hold false b one other = absurd cc

module _ {D : Type 0} where
  -- no number is above this one
  abbrev pub AreWithin : ℕ → List (CardValue D) → Type 0
  AreWithin last [] = Unit {0}
  AreWithin last (card ∷ cards) = (number_of card ≤ last) × AreWithin last cards

  pub within_more : (last : ℕ) (cards : List (CardValue D)) (card : CardValue D) → AreWithin last cards → number_of card ≡ last + 1 → AreWithin (last + 1) (cards ++ card ∷ [])
  within_more last [] card within is = (omega (arith, is), tt)
  within_more last (other ∷ cards) card within is = (omega (arith, within.0), within_more last cards card within.1 is)

  differs : (number last : ℕ) (card : CardValue D) → number ≤ last → number_of card ≡ last + 1 → not (number_of card == number) ≡ true
  differs number last card le is =
      elim (number_of card == number) as (λ b. (number_of card == number) ≡ b → not b ≡ true) [
        | true ↦ λ same. absurd (omega (arith, le, is, eqb-true (number_of card) number same))
        | false ↦ λ differ. refl
      ] refl

  free_more : (number last : ℕ) (cards : List (CardValue D)) (card : CardValue D) → number ≤ last → number_of card ≡ last + 1
      → is_free number (map facts_of cards) ≡ true → is_free number (map facts_of (cards ++ card ∷ [])) ≡ true
  free_more number last [] card le is free = both_hold (not (number_of card == number)) true (differs number last card le is) refl
  free_more number last (other ∷ cards) card le is free =
      let both = and_parts (not (number_of other == number)) (is_free number (map facts_of cards)) free in
      both_hold (not (number_of other == number)) (is_free number (map facts_of (cards ++ card ∷ []))) both.0 (free_more number last cards card le is both.1)

  pub distinct_more : (last : ℕ) (cards : List (CardValue D)) (card : CardValue D) → AreWithin last cards → number_of card ≡ last + 1
      → are_distinct (map facts_of cards) ≡ true → are_distinct (map facts_of (cards ++ card ∷ [])) ≡ true
  distinct_more last [] card within is distinct = refl
  distinct_more last (other ∷ cards) card within is distinct =
      let both = and_parts (is_free (number_of other) (map facts_of cards)) (are_distinct (map facts_of cards)) distinct in
      both_hold (is_free (number_of other) (map facts_of (cards ++ card ∷ []))) (are_distinct (map facts_of (cards ++ card ∷ [])))
      (free_more (number_of other) last cards card within.0 is both.0) (distinct_more last cards card within.1 is both.1)
