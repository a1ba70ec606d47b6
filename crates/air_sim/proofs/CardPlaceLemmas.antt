-- The map of the cards' places, card by card.
use Rattle.std.proofs.Common.{◌≡◌, ◌∙◌, refl, sym, ap, subst, cond, ℕ, zero, suc, ◌+◌, ◌<◌, ◌==◌, Bool, true, false, List, [], ◌∷◌, ◌++◌, length, get_or, take, Option, Some, None, is_some, arith, add-zero, zero-add, add_assoc, inl, inr}
use Rattle.std.specs.BTreeMap.{BTreeMap, get, Updates}
use Rattle.std.specs.List.{position_from}
use Rattle.std.specs.Option.{option_or}
use Rattle.std.specs.Ordering.{nat_cmp, is_eq}
use Rattle.std.proofs.Math.Seq.{take-suc}
use Rattle.std.proofs.lemmas.Bool.{cases_Bool, eqb-true}
use Rattle.std.proofs.lemmas.Bool.Decides.{nat_tests}
use Rattle.std.proofs.lemmas.Iterator.Adapters.{position_from-zero}
use Rattle.std.proofs.lemmas.List.{length-take}
use Rattle.receiving_entity.specs.Card.{CardValue}
use Rattle.air_sim.specs.Cards.{number_of}
use Rattle.air_sim.specs.SiteCards.{HasPlaces}

-- the first place in a list with one more element
push : {A : Type 0} (p : A → Bool) (i : ℕ) (xs : List A) (x : A) → position_from p i (xs ++ x ∷ []) ≡ option_or (position_from p i xs) (cond (p x) (Some (i + length xs)) None)
push p i [] x = rw (add-zero i) refl
push p i (y ∷ xs) x =
    elim (cases_Bool (p y)) [
      | inl passes ↦ rw passes refl
      | inr fails ↦ rw (fails, push p (i + 1) xs x, add_assoc i 1 (length xs)) (grind arith)
    ]

-- the order of numbers says whether they are equal
is_eq-nat_cmp : (m n : ℕ) → is_eq (nat_cmp m n) ≡ (m == n)
is_eq-nat_cmp m n = grind (arith, nat_tests)

or_none : (o : Option ℕ) → o ≡ option_or o None
or_none None = refl
or_none (Some n) = refl

or_more : (o more : Option ℕ) → is_some o ≡ true → o ≡ option_or o more
or_more None more there = absurd cc
or_more (Some n) more there = refl

module _ {D : Type 0} where
  abbrev has : ℕ → CardValue D → Bool
  has number = λ (card : CardValue D). number_of card == number

  -- the map has the first place of each number
  abbrev pub HasFirst : BTreeMap ℕ ℕ → List (CardValue D) → Type 0
  HasFirst places cards = (number : ℕ) → get nat_cmp places number ≡ position_from (has number) 0 cards

  pub first_places : (places : BTreeMap ℕ ℕ) (cards : List (CardValue D)) → HasFirst places cards → HasPlaces places cards
  first_places places cards first = λ number. first number ∙ sym (position_from-zero (has number) cards)

  -- one more card, whose number is new
  placed_more : (places new : BTreeMap ℕ ℕ) (cards : List (CardValue D)) (card : CardValue D) → HasFirst places cards → is_some (get nat_cmp places (number_of card)) ≡ false
      → Updates nat_cmp places new (number_of card) (Some (length cards)) → HasFirst new (cards ++ card ∷ [])
  placed_more places new cards card first none updates = λ number.
      updates.0 number ∙ ap (λ (b : Bool). cond b (Some (length cards)) (get nat_cmp places number)) (is_eq-nat_cmp (number_of card) number) ∙ by number ∙ sym (push (has number) 0 cards card)
    where
      by : (number : ℕ) → cond (number_of card == number) (Some (length cards)) (get nat_cmp places number) ≡ option_or (position_from (has number) 0 cards) (cond (number_of card == number) (Some (0 + length cards)) None)
      by number =
          elim (cases_Bool (number_of card == number)) [
            | inl same ↦
                let is : number_of card ≡ number = eqb-true (number_of card) number same in
                let no : position_from (has number) 0 cards ≡ None = sym (first number) ∙ ap (get nat_cmp places) (sym is) ∙ none_is (get nat_cmp places (number_of card)) none in
                rw (same, no, zero-add (length cards)) refl
            | inr other ↦ rw (other, first number) (or_none (position_from (has number) 0 cards))
          ]
        where
          none_is : (o : Option ℕ) → is_some o ≡ false → o ≡ None
          none_is None e = refl
          none_is (Some n) e = absurd cc

  -- one more card, with a number that was there
  placed_still : (places : BTreeMap ℕ ℕ) (cards : List (CardValue D)) (card : CardValue D) → HasFirst places cards → is_some (get nat_cmp places (number_of card)) ≡ true → HasFirst places (cards ++ card ∷ [])
  placed_still places cards card first there = λ number. first number ∙ by number ∙ sym (push (has number) 0 cards card)
    where
      by : (number : ℕ) → position_from (has number) 0 cards ≡ option_or (position_from (has number) 0 cards) (cond (number_of card == number) (Some (0 + length cards)) None)
      by number =
          elim (cases_Bool (number_of card == number)) [
            | inl same ↦
                let is : number_of card ≡ number = eqb-true (number_of card) number same in
                or_more (position_from (has number) 0 cards) (cond (number_of card == number) (Some (0 + length cards)) None)
                (ap is_some (sym (first number) ∙ ap (get nat_cmp places) (sym is)) ∙ there)
            | inr other ↦ rw other (or_none (position_from (has number) 0 cards))
          ]

  -- ---- the card at an index

  module _ (places : BTreeMap ℕ ℕ) (cards : List (CardValue D)) (i : ℕ) (card : CardValue D) (lt : i < length cards) (is : card ≡ get_or cards i card) (number : ℕ) (own : number ≡ number_of card) (first : HasFirst places (take i cards)) where
    more : take (i + 1) cards ≡ take i cards ++ card ∷ []
    more =
        let step : i + 1 ≡ suc i = omega arith in
        ap (λ (n : ℕ). take n cards) step ∙ take-suc cards i card lt ∙ ap (λ (c : CardValue D). take i cards ++ c ∷ []) (sym is)

    pub first_more : (new : BTreeMap ℕ ℕ) → is_some (get nat_cmp places number) ≡ false → Updates nat_cmp places new number (Some i) → HasFirst new (take (i + 1) cards)
    first_more new none updates =
        let long : length (take i cards) ≡ i = grind (arith, length-take i cards, lt) in
        subst (HasFirst new) (sym more)
        (placed_more places new (take i cards) card first (subst (λ (n : ℕ). is_some (get nat_cmp places n) ≡ false) own none)
        (subst (λ (n : ℕ). Updates nat_cmp places new (number_of card) (Some n)) (sym long) (subst (λ (n : ℕ). Updates nat_cmp places new n (Some i)) own updates)))

    pub first_still : is_some (get nat_cmp places number) ≡ true → HasFirst places (take (i + 1) cards)
    first_still there = subst (HasFirst places) (sym more) (placed_still places (take i cards) card first (subst (λ (n : ℕ). is_some (get nat_cmp places n) ≡ true) own there))
