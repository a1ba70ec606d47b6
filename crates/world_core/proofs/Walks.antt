-- Walks along a list.
use Rattle.std.proofs.Common.{◌≡◌, ℕ, ◌+◌, ◌-◌, ◌<◌, ◌≤◌, zero, suc, Bool, true, false, ◌||◌, ◌&&◌, Option, Some, None, is_some, List, [], ◌∷◌, ◌++◌, length, get_or, take, drop, reverse, slice_get, refl, arith, add-one, sub-one, drop-cons}
use Rattle.std.proofs.Math.ListN.{set}
use Rattle.std.specs.List.{list_any}
use Rattle.std.specs.Option.{option_or, option_map}
use Rattle.std.proofs.lemmas.Grind.{common_steps}
use Rattle.ota_core.specs.History.{broken, broken_batch}
use Rattle.ota_core.specs.declared.entries.Entry.{Entry}
use Rattle.world_core.specs.declared.refusals.NotAllowed.{NotAllowed}
use Rattle.world_core.specs.declared.refusals.NotAllowed.TheVariants.{Broken}
use Rattle.std.proofs.lemmas.List.{reverse-append}
use Rattle.std.proofs.lemmas.List.Folds.{list_any-append}
use Rattle.world_core.specs.Journal.{JournalState}
use Rattle.world_core.specs.Card.{CardState, is_card, logged}
use Rattle.ota_core.specs.declared.cards.CardId.{CardId}
use Rattle.world_core.specs.declared.lines.Line.{Line}

-- what is left of a list begins with its element there
pub drop_first : {X : Type 0} (xs : List X) (i : ℕ) (x : X) → i < length xs → x ≡ get_or xs i x → drop i xs ≡ x ∷ drop (i + 1) xs
drop_first xs i x within is = rw (add-one, drop-cons xs i x, ← is) refl

-- lines are added at the first card that has the number
pub logged_is_set : (cards : List CardState) (card : CardId) (lines : List Line) (i : ℕ) (state : CardState) → i < length cards
    → list_any (is_card card) (take i cards) ≡ false → state ≡ get_or cards i state → is_card card state ≡ true
    → logged cards card lines ≡ set cards i (record { facts = state.facts; log = state.log ++ lines })
logged_is_set [] card lines i state within before is number = absurd (omega arith)
logged_is_set (first ∷ cards) card lines zero state within before is number = rw (← is, number) refl
logged_is_set (first ∷ cards) card lines (suc i) state within before is number =
    grind (arith, common_steps, before, logged_is_set cards card lines i state, is, number)

-- where no card has the number, no log is longer
pub logged_nowhere : (cards : List CardState) (card : CardId) (lines : List Line) (n : ℕ) → length cards ≤ n
    → list_any (is_card card) (take n cards) ≡ false → logged cards card lines ≡ cards
logged_nowhere [] card lines n all none = refl
logged_nowhere (first ∷ cards) card lines zero all none = absurd (omega arith)
logged_nowhere (first ∷ cards) card lines (suc n) all none = grind (arith, common_steps, none, logged_nowhere cards card lines n)

-- no line is no change
pub logged_nothing : (cards : List CardState) (card : CardId) → logged cards card [] ≡ cards
logged_nothing [] card = refl
logged_nothing (first ∷ cards) card = grind (arith, common_steps, logged_nothing cards card)

or_turned : (a b : Bool) → (a || (b || false)) ≡ (b || a)
or_turned false b = refl
or_turned true false = refl
or_turned true true = refl

-- a test passes on a list as on the list turned round
pub list_any_reverse : {X : Type 0} (p : X → Bool) (xs : List X) → list_any p (reverse xs) ≡ list_any p xs
list_any_reverse p [] = refl
list_any_reverse p (x ∷ xs) =
    rw (reverse-append (x ∷ []) xs, list_any-append p (reverse xs) (x ∷ []), list_any_reverse p xs) (or_turned (list_any p xs) (p x))

-- what the first of two answers gives is kept
option_map-first : {A B : Type 0} (f : A → B) (o p : Option A) (y : B) → option_map f o ≡ Some y → option_map f (option_or o p) ≡ Some y
option_map-first f None p y is = cc
option_map-first f (Some x) p y is = is

-- a rule that an entry of a batch breaks behind those before it is the first that the batch breaks
pub first_broken_of : (past before : List Entry) (batch : List Entry) (i : ℕ) (entry : Entry) (refusal : NotAllowed)
    → i < length batch → entry ≡ get_or batch i entry → broken_batch past batch ≡ broken_batch before (drop i batch)
    → option_map Broken (broken before entry) ≡ Some refusal → option_map Broken (broken_batch past batch) ≡ Some refusal
first_broken_of past before batch i entry refusal within is same breaks =
    rw (same, drop_first batch i entry within is) (option_map-first Broken (broken before entry) (broken_batch (entry ∷ before) (drop (i + 1) batch)) refusal breaks)

-- a batch that was begun and dropped leaves the journal as it was
pub discarded : (before begun after : JournalState) (batch : List Entry) → false ≡ is_some before.batch
    → begun ≡ record { history = before.history; batch = Some batch } → after ≡ record { history = begun.history; batch = None } → after ≡ before
discarded before begun after batch none is dropped = grind (arith, common_steps, none, is, dropped)
