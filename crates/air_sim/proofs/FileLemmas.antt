-- The cards of a lane, and the facts of a card once more.
use Rattle.std.specs.Prelude.{◌≡◌, ◌≢◌, ◌≤◌, ◌<◌, ℕ, zero, suc, ◌+◌, ◌%◌, ◌==◌, ◌&&◌, ◌||◌, not, Bool, true, false, cond, IsTrue, List, [], ◌∷◌, ◌++◌, get_or, length, map, nat_eq, take, Result, Ok, Err, refl}
use Rattle.std.specs.List.{filter}
use Rattle.std.proofs.Common.{inl, inr, arith, sym, ◌∙◌, ap, subst}
use Rattle.std.proofs.Math.Seq.{take-suc}
use Rattle.std.proofs.lemmas.Bool.{and_parts, eq-eqb, eqb-true}
use Rattle.std.proofs.lemmas.Bool.Decides.{nat_tests}
use Rattle.std.proofs.lemmas.List.{append-nil}
use Rattle.std.proofs.lemmas.List.Elements.{filter-append}
use Rattle.ota_core.specs.KeysetList.{IsKeysetList, has_kvn}
use Rattle.ota_core.specs.declared.cards.CardFacts.{CardFacts}
use Rattle.ota_core.specs.declared.keysets.KeysetFacts.{KeysetFacts}
use Rattle.plan_reader.specs.CardPlaces.{have_own_numbers}
use Rattle.plan_reader.specs.PlanTable.{has_number}
use Rattle.site_model.specs.declared.site_faults.SiteFault.{SiteFault}
use Rattle.site_model.specs.declared.site_faults.SiteFault.TheVariants.{Failed, Memory}
use Rattle.world_core.specs.Members.{In}
use Rattle.air_sim.specs.declared.sim_site.SimSite.{SimSite}
use Rattle.air_sim.specs.Cards.{are_distinct, is_free}
use Rattle.air_sim.specs.Files.{AreFileSites, IsFileSite, RefusedBy, cards_of}

-- ---- the cards of a lane

module _ (lanes lane : ℕ) where
  abbrev is_here : CardFacts → Bool
  is_here card = card.card.0 % lanes == lane

  pub kept_more : (cards : List CardFacts) (i : ℕ) (card : CardFacts) (found : List CardFacts) → i < length cards → card ≡ get_or cards i card → found ≡ cards_of lanes lane (take i cards)
      → card.card.0 % lanes ≡ lane → found ++ card ∷ [] ≡ cards_of lanes lane (take (i + 1) cards)
  kept_more cards i card found lt is so_far here =
      let step : i + 1 ≡ suc i = omega arith in
      let more : take (i + 1) cards ≡ take i cards ++ card ∷ [] = ap (λ (n : ℕ). take n cards) step ∙ take-suc cards i card lt ∙ ap (λ (c : CardFacts). take i cards ++ c ∷ []) (sym is) in
      let own : filter is_here (card ∷ []) ≡ card ∷ [] = ap (λ (b : Bool). cond b (card ∷ []) []) (eq-eqb (card.card.0 % lanes) lane here) in
      ap (λ (l : List CardFacts). l ++ card ∷ []) so_far
      ∙ ap (λ (l : List CardFacts). cards_of lanes lane (take i cards) ++ l) (sym own)
      ∙ sym (filter-append is_here (take i cards) (card ∷ []))
      ∙ ap (cards_of lanes lane) (sym more)

  pub left_more : (cards : List CardFacts) (i : ℕ) (card : CardFacts) (found : List CardFacts) → i < length cards → card ≡ get_or cards i card → found ≡ cards_of lanes lane (take i cards)
      → card.card.0 % lanes ≢ lane → found ≡ cards_of lanes lane (take (i + 1) cards)
  left_more cards i card found lt is so_far elsewhere =
      let step : i + 1 ≡ suc i = omega arith in
      let more : take (i + 1) cards ≡ take i cards ++ card ∷ [] = ap (λ (n : ℕ). take n cards) step ∙ take-suc cards i card lt ∙ ap (λ (c : CardFacts). take i cards ++ c ∷ []) (sym is) in
      let none : filter is_here (card ∷ []) ≡ [] = ap (λ (b : Bool). cond b (card ∷ []) []) (apart (card.card.0 % lanes == lane) refl) in
      so_far
      ∙ sym (append-nil (cards_of lanes lane (take i cards)))
      ∙ ap (λ (l : List CardFacts). cards_of lanes lane (take i cards) ++ l) (sym none)
      ∙ sym (filter-append is_here (take i cards) (card ∷ []))
      ∙ ap (cards_of lanes lane) (sym more)
    where
      apart : (b : Bool) → (card.card.0 % lanes == lane) ≡ b → (card.card.0 % lanes == lane) ≡ false
      apart true e = absurd (elsewhere (eqb-true (card.card.0 % lanes) lane e))
      apart false e = e

  -- ---- their numbers differ

  not_has : (number : ℕ) (cards : List CardFacts) → has_number number cards ≡ false → is_free number (cards_of lanes lane cards) ≡ true
  not_has number [] none = refl
  not_has number (card ∷ cards) none =
      let apart = or_false (card.card.0 == number) (has_number number cards) none in
      elim (card.card.0 % lanes == lane) as (λ b. is_free number (cond b (card ∷ cards_of lanes lane cards) (cards_of lanes lane cards)) ≡ true) [
        | true ↦ ap (λ (b : Bool). not b && is_free number (cards_of lanes lane cards)) apart.0 ∙ not_has number cards apart.1
        | false ↦ not_has number cards apart.1
      ]
    where
      or_false : (a b : Bool) → (a || b) ≡ false → (a ≡ false) × (b ≡ false)
      or_false true b e = absurd cc
      or_false false b e = (refl, e)

  pub distinct_here : (cards : List CardFacts) → IsTrue (have_own_numbers cards) → are_distinct (cards_of lanes lane cards) ≡ true
  distinct_here [] own = refl
  distinct_here (card ∷ cards) own =
      let both = and_parts (not (has_number card.card.0 cards)) (have_own_numbers cards) own in
      elim (card.card.0 % lanes == lane) as (λ b. are_distinct (cond b (card ∷ cards_of lanes lane cards) (cards_of lanes lane cards)) ≡ true) [
        | true ↦ ap (λ (b : Bool). b && are_distinct (cards_of lanes lane cards)) (not_has card.card.0 cards (not_true (has_number card.card.0 cards) both.0)) ∙ distinct_here cards both.1
        | false ↦ distinct_here cards both.1
      ]
    where
      not_true : (b : Bool) → not b ≡ true → b ≡ false
      not_true true e = absurd cc
      not_true false e = refl

-- ---- one site more

pub sites_more : {D B C : Type 0} (cards : List CardFacts) (lanes lane : ℕ) (sites : List (SimSite D B C)) (site : SimSite D B C) → AreFileSites cards lanes lane sites → IsFileSite cards lanes (lane + length sites) site
    → AreFileSites cards lanes lane (sites ++ site ∷ [])
sites_more cards lanes lane [] site all one = (subst (λ (n : ℕ). IsFileSite cards lanes n site) (omega arith) one, tt)
sites_more cards lanes lane (first ∷ sites) site all one = (all.0, sites_more cards lanes (lane + 1) sites site all.1 (subst (λ (n : ℕ). IsFileSite cards lanes n site) (omega arith) one))

-- ---- refusals

-- of a card at an index
pub refusal_at : (cards : List CardFacts) (i : ℕ) (card : CardFacts) (fault : SiteFault) → i < length cards → card ≡ get_or cards i card → RefusedBy (card ∷ []) fault → RefusedBy cards fault
refusal_at cards i card Memory lt is refusal = tt
refusal_at cards i card Failed lt is refusal = (card, subst (λ (c : CardFacts). In c cards) (sym is) (there cards i card lt), refusal.2, refusal.3)
  where
    there : (all : List CardFacts) (k : ℕ) (d : CardFacts) → k < length all → In (get_or all k d) all
    there [] k d lt = absurd (omega (arith, lt))
    there (first ∷ all) zero d lt = inl refl
    there (first ∷ all) (suc k) d lt = inr (there all k d (omega (arith, lt)))

-- ---- the facts of a card once more

abbrev Listing : Type 0
Listing = ℕ × KeysetFacts

or_parts : (a b : Bool) → (a || b) ≡ false → (a ≡ false) × (b ≡ false)
or_parts true b e = absurd cc
or_parts false b e = (refl, e)

differ_at : (kvn : ℕ) (keysets : List Listing) (i : ℕ) (d : Listing) → has_kvn kvn keysets ≡ false → i < length keysets → nat_eq (get_or keysets i d).0 kvn ≡ false
differ_at kvn [] i d none lt = absurd (omega (arith, lt))
differ_at kvn (first ∷ keysets) zero d none lt = (or_parts (nat_eq first.0 kvn) (has_kvn kvn keysets) none).0
differ_at kvn (first ∷ keysets) (suc i) d none lt = differ_at kvn keysets i d (or_parts (nat_eq first.0 kvn) (has_kvn kvn keysets) none).1 (omega (arith, lt))

other_way : (a b : ℕ) → nat_eq a b ≡ false → nat_eq b a ≡ false
other_way a b apart = grind (arith, nat_tests)

-- a keyset of a list may be added behind those ahead of it
pub keyset_at : (keysets : List Listing) (i : ℕ) (d : Listing) → IsKeysetList keysets → i < length keysets → (1 ≤ (get_or keysets i d).0) × ((get_or keysets i d).0 ≤ 15) × (has_kvn (get_or keysets i d).0 (take i keysets) ≡ false)
keyset_at [] i d all lt = absurd (omega (arith, lt))
keyset_at (first ∷ keysets) zero d all lt = (all.0, all.1, refl)
keyset_at (first ∷ keysets) (suc i) d all lt =
    let rest = keyset_at keysets i d all.3 (omega (arith, lt)) in (
      rest.0,
      rest.1,
      ap (λ (b : Bool). b || has_kvn (get_or keysets i d).0 (take i keysets)) (other_way (get_or keysets i d).0 first.0 (differ_at first.0 keysets i d all.2 (omega (arith, lt)))) ∙ rest.2,
    )
