-- Parts that are taken, and the first that is bad.
use Rattle.std.proofs.Common.{◌≡◌, ℕ, ◌+◌, ◌&&◌, Bool, true, false, cond, is_some, nat_lt, Option, Some, None, List, [], ◌∷◌, ◌++◌, length, Result, Ok, Err, refl, sym, ap, ◌∙◌, subst, append_assoc}
use Rattle.std.specs.Prelude.{IfOk}
use Rattle.std.specs.Option.{option_and_then}
use Rattle.ota_core.specs.Keyset.{Keyset}
use Rattle.ota_core.specs.declared.cards.CardFacts.{CardFacts}
use Rattle.script_engine.specs.declared.card.CardState.{CardState}
use Rattle.card_store.specs.Content.{Content, keyset_named, keyset_of, stored, may_store, took}
use Rattle.card_store.specs.Kept.{IsTaken, IsStepTaken, keyset_if}
use Rattle.card_store.specs.Laws.{replayed_more}
use Rattle.card_store.specs.Opening.{IsShown, IsReplayed}
use Rattle.card_store.specs.Parts.{StorePart, part_in}
use Rattle.card_store.specs.Parts.StorePart.{UsesCounter}
use Rattle.card_store.specs.Replay.{after_part, after_step, replayed, StopsAt}
use Rattle.card_store.specs.Store.{Shown, Shows}

-- ---- counters

-- the card has the keyset, and the counter is higher
pub may_keyset : (facts : CardFacts) (content : Content) (card : CardState) (kvn counter stored_is : ℕ) → card ≡ content.card → stored_is ≡ stored facts content kvn → nat_lt stored_is counter ≡ true
    → keyset_if facts card kvn ≡ cond (may_store facts content kvn counter) (Some (keyset_named facts kvn)) None
may_keyset facts content card kvn counter stored_is same is higher =
    ap (λ (c : CardState). keyset_if facts c kvn) same
    ∙ with_true (is_some (keyset_of facts content.card kvn)) (nat_lt (stored facts content kvn) counter) (ap (λ (n : ℕ). nat_lt n counter) (sym is) ∙ higher)
  where
    with_true : (known above : Bool) → above ≡ true → cond known (Some (keyset_named facts kvn)) None ≡ cond (known && above) (Some (keyset_named facts kvn)) None
    with_true true true e = refl
    with_true true false e = cc
    with_true false above e = refl

pub may_not : (facts : CardFacts) (content : Content) (kvn counter stored_is : ℕ) → stored_is ≡ stored facts content kvn → nat_lt stored_is counter ≡ false
    → None ≡ cond (may_store facts content kvn counter) (Some (keyset_named facts kvn)) None
may_not facts content kvn counter stored_is is lower = without (is_some (keyset_of facts content.card kvn)) (nat_lt (stored facts content kvn) counter) (ap (λ (n : ℕ). nat_lt n counter) (sym is) ∙ lower)
  where
    without : (known above : Bool) → above ≡ false → None ≡ cond (known && above) (Some (keyset_named facts kvn)) None
    without true true e = cc
    without true false e = refl
    without false above e = refl

-- what a test of the counter that gave a keyset says
pub given_keyset : (keyset named : Keyset) (may : Bool) → Some keyset ≡ cond may (Some named) None → (may ≡ true) × (keyset ≡ named)
given_keyset keyset named true e = (refl, cc)
given_keyset keyset named false e = cc

pub given_none : (named : Keyset) (may : Bool) → None ≡ cond may (Some named) None → may ≡ false
given_none named true e = cc
given_none named false e = refl

pub counter_taken : (facts : CardFacts) (content : Content) (keyset : Keyset) (kvn counter : ℕ) (tar body : List ℕ) (shown : Shown)
    → Some keyset ≡ cond (may_store facts content kvn counter) (Some (keyset_named facts kvn)) None
    → Shows (took facts content keyset.kvn counter tar body 0) shown → IsStepTaken facts content (UsesCounter kvn counter tar body) true shown
counter_taken facts content keyset kvn counter tar body shown given shows =
    let is = given_keyset keyset (keyset_named facts kvn) (may_store facts content kvn counter) given in (
      took facts content kvn counter tar body 0,
      ap (λ (b : Bool). cond b (Some (took facts content kvn counter tar body 0)) None) is.0,
      subst (λ (k : Keyset). Shows (took facts content k.kvn counter tar body 0) shown) is.1 shows,
    )

pub counter_bad : (facts : CardFacts) (content : Content) (kvn counter : ℕ) (tar body : List ℕ) (shown : Shown)
    → None ≡ cond (may_store facts content kvn counter) (Some (keyset_named facts kvn)) None → Shows content shown → IsStepTaken facts content (UsesCounter kvn counter tar body) false shown
counter_bad facts content kvn counter tar body shown given shows =
    (ap (λ (b : Bool). cond b (Some (took facts content kvn counter tar body 0)) None) (given_none (keyset_named facts kvn) (may_store facts content kvn counter) given), shows)

-- ---- parts

-- what was taken of what a part says was taken of the part
step_taken : (facts : CardFacts) (content : Content) (part : List ℕ) (said : StorePart) (taken : Bool) (shown : Shown) → part_in part ≡ Some said → IsStepTaken facts content said taken shown
    → IsTaken facts content part taken shown
unfolding after_part
step_taken facts content part said true shown is step = (step.0, ap (λ (read : Option StorePart). option_and_then (after_step facts content) read) is ∙ step.1, step.2)
step_taken facts content part said false shown is step = (ap (λ (read : Option StorePart). option_and_then (after_step facts content) read) is ∙ step.0, step.1)

pub result_taken : {E : Type 0} (facts : CardFacts) (content : Content) (part : List ℕ) (said : StorePart) (result : Result Bool E) (shown : Shown) → part_in part ≡ Some said
    → IfOk result (λ taken. IsStepTaken facts content said taken shown) → IfOk result (λ taken. IsTaken facts content part taken shown)
result_taken facts content part said (Ok taken) shown is step = step_taken facts content part said taken shown is step
result_taken facts content part said (Err error) shown is step = tt

pub formless : (facts : CardFacts) (content : Content) (part : List ℕ) (shown : Shown) → part_in part ≡ None → Shows content shown → IsTaken facts content part false shown
unfolding after_part
formless facts content part shown is shows = (ap (λ (read : Option StorePart). option_and_then (after_step facts content) read) is, shows)

-- ---- the parts so far

pub replayed_on : (facts : CardFacts) (parts : List (List ℕ)) (old new : Shown) (part : List ℕ) → IsReplayed facts parts old
    → ((content : Content) → Shows content old → IsTaken facts content part true new) → IsReplayed facts (parts ++ part ∷ []) new
replayed_on facts parts old new part so_far takes =
    let taken = takes so_far.content so_far.shows in
    record { content = taken.0; replays = replayed_more facts so_far.content taken.0 parts part so_far.replays taken.1; shows = taken.2 }

pub stops_here : (facts : CardFacts) (first : List (List ℕ)) (old new : Shown) (part : List ℕ) (number : ℕ) → IsReplayed facts first old
    → ((content : Content) → Shows content old → IsTaken facts content part false new) → number ≡ length first + 1 → StopsAt facts (first ++ part ∷ []) number
stops_here facts first old new part number so_far bads place = record {
  content = so_far.content;
  first = first;
  part = part;
  rest = [];
  spelled = refl;
  replays = so_far.replays;
  bad = (bads so_far.content so_far.shows).0;
  place = place;
}

pub stops_on : (facts : CardFacts) (parts : List (List ℕ)) (number : ℕ) (part : List ℕ) → StopsAt facts parts number → StopsAt facts (parts ++ part ∷ []) number
stops_on facts parts number part stops = record {
  content = stops.content;
  first = stops.first;
  part = stops.part;
  rest = stops.rest ++ part ∷ [];
  spelled = ap (λ (p : List (List ℕ)). p ++ part ∷ []) stops.spelled ∙ append_assoc stops.first (stops.part ∷ stops.rest) (part ∷ []);
  replays = stops.replays;
  bad = stops.bad;
  place = stops.place;
}

-- what is kept is a card's still
pub shown_on : (facts : CardFacts) (part : List ℕ) (new : Shown) (taken : Bool) (content : Content) → IsTaken facts content part taken new → IsShown new
shown_on facts part new true content is = (is.0, is.2)
shown_on facts part new false content is = (content, is.1)
