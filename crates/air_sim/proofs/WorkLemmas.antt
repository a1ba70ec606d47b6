-- What a card at work leaves to choose, and what it kept.
use Rattle.std.specs.Prelude.{◌≡◌, ◌⊎◌, ◌≤◌, ℕ, ◌==◌, min, Bool, true, false, cond, IsTrue, Option, Some, None, unwrap_or, IfSome, List, [], ◌∷◌, map, refl}
use Rattle.std.proofs.Common.{inl, inr, ⊎_elim, arith, sym, ◌∙◌, ap, subst}
use Rattle.std.proofs.lemmas.Bool.{eqb-true, eqb-false, eq-eqb}
use Rattle.disk_model.specs.Disk.{Meaning, Tells, image_now}
use Rattle.ota_core.specs.declared.cards.CardFacts.{CardFacts}
use Rattle.receiving_entity.specs.Card.{CardValue}
use Rattle.site_model.specs.Cards.{GoesOn, Grows}
use Rattle.world_core.specs.Members.{In}
use Rattle.world_core.specs.declared.lines.Line.{Line}
use Rattle.air_sim.specs.CardRuns.{LogGrows}
use Rattle.air_sim.specs.Cards.{card_of, facts_of, number_of, with_card}
use Rattle.air_sim.specs.Lines.{LinesByCard, lines_for}
use Rattle.air_sim.specs.Logged.{logged}
use Rattle.air_sim.specs.Told.{Leaves, MayLeave, WhereTold}
use Rattle.air_sim.proofs.FindLemmas.{found_new, found_other}
use Rattle.air_sim.proofs.LogLemmas.{grown_goes}
use Rattle.air_sim.proofs.RestLemmas.{goes_same, grows_same}

false_not : IsTrue false → ⊥
false_not e = cc

-- what lines go on from: the same, or where they are those of the card, what a stop might have left of its disk
pub record ComeFrom {D B C : Type 0} (told : Meaning D B C) (card : CardValue D) (lines : List Line) : Type 0 where
  pub before : List Line
  pub may : WhereTold told card card before
  pub grows : Grows card.store.facts before lines
  pub is : (lines ≡ before) ⊎ ((image : List ℕ) × (lines ≡ logged card.store.facts image))

module _ {D B C : Type 0} (told : Meaning D B C) (card after : CardValue D) (cards : List (CardValue D)) (found : card_of (number_of after) cards ≡ Some card)
    (same_tells : told.tells after.store.disk ≡ told.tells card.store.disk) (grows : Tells told card.store.disk → LogGrows told card after) (facts : after.store.facts ≡ card.store.facts) where
  abbrev pub number : ℕ
  number = number_of after

  abbrev pub new : List (CardValue D)
  new = with_card after cards

  -- the lines that the card may leave while it is at work
  pub come_from : (lines : List Line) → WhereTold told card after lines → ComeFrom told card lines
  come_from lines may = by_tells (told.tells card.store.disk) refl
    where
      by_tells : (b : Bool) → told.tells card.store.disk ≡ b → ComeFrom told card lines
      by_tells false silent = record { before = lines; may = λ tells. absurd (false_not (subst IsTrue silent tells)); grows = grows_same card.store.facts lines; is = inl refl }
      by_tells true tells_is =
          let tells : Tells told card.store.disk = subst IsTrue (sym tells_is) refl in
          let left : MayLeave told card after lines = may (subst IsTrue (sym same_tells) tells) in
          let run = grows tells in
          let start = run.each left.moment left.image (omega (arith, left.not_before, run.past.later)) left.not_after left.at in
          let lines_are : lines ≡ logged card.store.facts left.image = left.opens ∙ ap (λ (f : CardFacts). logged f left.image) facts in
          record {
            before = logged card.store.facts start.0;
            may = λ _. record { moment = told.clock card.store.disk; image = start.0; not_before = omega arith; not_after = omega arith; at = start.1; opens = refl };
            grows = subst (λ (l : List Line). Grows card.store.facts (logged card.store.facts start.0) l) (sym lines_are) start.2;
            is = inr (left.image, lines_are);
          }

  -- what is found of a number: of the card's own, or of another
  pub at_own : (choice : LinesByCard) → Leaves told cards new choice → WhereTold told card after (lines_for choice number)
  at_own choice leaves =
      subst (λ (o : Option (CardValue D)). WhereTold told (unwrap_or o after) after (lines_for choice number)) found
      (subst (λ (o : Option (CardValue D)). IfSome o (λ c. WhereTold told (unwrap_or (card_of number cards) c) c (lines_for choice number))) (found_new card after cards found) (leaves number))

  abbrev pub come : (choice : LinesByCard) → Leaves told cards new choice → ComeFrom told card (lines_for choice number)
  come choice leaves = come_from (lines_for choice number) (at_own choice leaves)

  abbrev pub put : (choice : LinesByCard) → Leaves told cards new choice → LinesByCard
  put choice leaves = (number, (come choice leaves).before) ∷ choice

  -- while it is at work, the lines go on from those that might have been left before
  pub work_began : (choice : LinesByCard) (leaves : Leaves told cards new choice) → Leaves told cards cards (put choice leaves)
  work_began choice leaves other =
      elim (number == other) as (λ b. (number == other) ≡ b → IfSome (card_of other cards) (λ c. WhereTold told (unwrap_or (card_of other cards) c) c (cond b (come choice leaves).before (lines_for choice other)))) [
        | true ↦ λ same.
            subst (λ (n : ℕ). IfSome (card_of n cards) (λ c. WhereTold told (unwrap_or (card_of n cards) c) c (come choice leaves).before)) (eqb-true number other same)
            (subst (λ (o : Option (CardValue D)). IfSome o (λ c. WhereTold told (unwrap_or o c) c (come choice leaves).before)) (sym found) (come choice leaves).may)
        | false ↦ λ apart.
            own_from other choice (subst (λ (o : Option (CardValue D)). IfSome o (λ c. WhereTold told (unwrap_or (card_of other cards) c) c (lines_for choice other))) (found_other other after cards apart) (leaves other))
      ] refl
    where
      own_from : (n : ℕ) (chosen : LinesByCard) → IfSome (card_of n cards) (λ c. WhereTold told (unwrap_or (card_of n cards) c) c (lines_for chosen n)) → IfSome (card_of n cards) (λ c. WhereTold told (unwrap_or (card_of n cards) c) c (lines_for chosen n))
      own_from n chosen h = h

  pub began_goes : (choice : LinesByCard) (leaves : Leaves told cards new choice) (other : ℕ) → GoesOn (lines_for (put choice leaves) other) (lines_for choice other)
  began_goes choice leaves other =
      elim (number == other) as (λ b. (number == other) ≡ b → GoesOn (cond b (come choice leaves).before (lines_for choice other)) (lines_for choice other)) [
        | true ↦ λ same. subst (λ (n : ℕ). GoesOn (come choice leaves).before (lines_for choice n)) (eqb-true number other same) (grown_goes card.store.facts (come choice leaves).before (lines_for choice number) (come choice leaves).grows)
        | false ↦ λ apart. goes_same (lines_for choice other)
      ] refl

  -- of a card's facts: they are this card's, or of another number
  pub began_grows : (choice : LinesByCard) (leaves : Leaves told cards new choice) (of : CardFacts) → (of.card.0 ≡ number → of ≡ facts_of card) → Grows of (lines_for (put choice leaves) of.card.0) (lines_for choice of.card.0)
  began_grows choice leaves of own =
      elim (number == of.card.0) as (λ b. (number == of.card.0) ≡ b → Grows of (cond b (come choice leaves).before (lines_for choice of.card.0)) (lines_for choice of.card.0)) [
        | true ↦ λ same.
            let is = eqb-true number of.card.0 same in
            subst (λ (f : CardFacts). Grows f (come choice leaves).before (lines_for choice of.card.0)) (sym (own (sym is)))
            (subst (λ (n : ℕ). Grows card.store.facts (come choice leaves).before (lines_for choice n)) is (come choice leaves).grows)
        | false ↦ λ apart. grows_same of (lines_for choice of.card.0)
      ] refl

  pub began_is : (choice : LinesByCard) (leaves : Leaves told cards new choice) (other : ℕ)
      → (lines_for choice other ≡ lines_for (put choice leaves) other) ⊎ ((other ≡ number) × ((image : List ℕ) × (lines_for choice other ≡ logged card.store.facts image)))
  began_is choice leaves other =
      elim (number == other) as (λ b. (number == other) ≡ b → (lines_for choice other ≡ cond b (come choice leaves).before (lines_for choice other)) ⊎ ((other ≡ number) × ((image : List ℕ) × (lines_for choice other ≡ logged card.store.facts image)))) [
        | true ↦ λ same.
            let is = eqb-true number other same in
            ⊎_elim
            (λ (e : lines_for choice number ≡ (come choice leaves).before). inl (subst (λ (n : ℕ). lines_for choice n ≡ (come choice leaves).before) is e))
            (λ (e : (image : List ℕ) × (lines_for choice number ≡ logged card.store.facts image)). inr (sym is, (e.0, subst (λ (n : ℕ). lines_for choice n ≡ logged card.store.facts e.0) is e.1)))
            (come choice leaves).is
        | false ↦ λ apart. inl refl
      ] refl

  -- what it leaves at the end it might have left while it was at work
  pub work_ended : (choice : LinesByCard) → Leaves told new new choice → Leaves told cards new choice
  work_ended choice leaves other =
      elim (number == other) as (λ b. (number == other) ≡ b → IfSome (card_of other new) (λ c. WhereTold told (unwrap_or (card_of other cards) c) c (lines_for choice other))) [
        | true ↦ λ same. subst (λ (n : ℕ). IfSome (card_of n new) (λ c. WhereTold told (unwrap_or (card_of n cards) c) c (lines_for choice n))) (eqb-true number other same) own
        | false ↦ λ apart.
            subst (λ (o : Option (CardValue D)). IfSome (card_of other new) (λ c. WhereTold told (unwrap_or o c) c (lines_for choice other))) (found_other other after cards apart) (leaves other)
      ] refl
    where
      -- at the end its disk leaves what it leaves at its last moment
      last : (lines : List Line) → WhereTold told after after lines → WhereTold told card after lines
      last lines may tells =
          let left = may tells in record {
            moment = left.moment;
            image = left.image;
            not_before = omega (arith, left.not_before);
            not_after = left.not_after;
            at = left.at;
            opens = left.opens;
          }

      own : IfSome (card_of number new) (λ c. WhereTold told (unwrap_or (card_of number cards) c) c (lines_for choice number))
      own =
          subst (λ (o : Option (CardValue D)). IfSome o (λ c. WhereTold told (unwrap_or (card_of number cards) c) c (lines_for choice number))) (sym (found_new card after cards found))
          (subst (λ (o : Option (CardValue D)). WhereTold told (unwrap_or o after) after (lines_for choice number)) (sym found)
          (last (lines_for choice number)
          (subst (λ (o : Option (CardValue D)). IfSome o (λ c. WhereTold told (unwrap_or o c) c (lines_for choice number))) (found_new card after cards found) (leaves number))))
