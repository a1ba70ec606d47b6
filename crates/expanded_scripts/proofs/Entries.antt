-- A run goes from command to command, and its entries follow one another.
use Rattle.std.proofs.Common.{◌≡◌, ℕ, suc, ◌+◌, ◌<◌, ◌==◌, true, false, Bool, cond, get_or, drop, List, [], ◌∷◌, ◌++◌, length, flat_map, Result, Ok, Err, OnErr, refl, sym, subst, ap, ◌∙◌, append_assoc, arith, length-append}
use Rattle.std.proofs.lemmas.Bool.Decides.{nat_tests}
use Rattle.std.proofs.lemmas.List.{append-nil}
use Rattle.std.proofs.lemmas.Grind.{flat_map-append}
use Rattle.std.proofs.Math.Seq.{drop-cons}
use Rattle.apdu_codec.specs.Reply.{Answer}
use Rattle.script_engine.specs.declared.card.CardState.{CardState}
use Rattle.script_engine.specs.declared.part.Part.{Part}
use Rattle.script_engine.specs.declared.part.Part.TheVariants.{Files, Applets}
use Rattle.script_engine.specs.Step.{LeavesTheOther}
use Rattle.expanded_scripts.specs.Answers.{answer_alone, answers, left_by, entry_of, HasBegun}

left-behind : (card : CardState) (first : List (Answer CardState)) (made : Answer CardState) → left_by card (first ++ made ∷ []) ≡ made.after
left-behind card [] made = refl
left-behind card (a ∷ first) made = left-behind a.after first made

-- some first commands were executed: the card behind them, their entries and their number; others follow
pub record Executed (card : CardState) (part : Part) (commands : List (List ℕ)) (others : List (Answer CardState)) (after : CardState) (entries : List ℕ) (number : ℕ) : Type 0 where
  pub first : List (Answer CardState)
  pub in_order : answers card part commands ≡ first ++ others
  pub left : after ≡ left_by card first
  pub entries_are : entries ≡ flat_map entry_of first
  pub number_is : number ≡ length first

pub executed-none : (card : CardState) (part : Part) (commands : List (List ℕ)) → Executed card part commands (answers card part commands) card [] 0
executed-none card part commands = record { first = []; in_order = refl; left = refl; entries_are = refl; number_is = refl }

executed-more : (card : CardState) (part : Part) (commands : List (List ℕ)) (made : Answer CardState) (others : List (Answer CardState)) (before after : CardState) (entries more : List ℕ) (number : ℕ) → Executed card part commands (made ∷ others) before entries number → after ≡ made.after → more ≡ entries ++ entry_of made → Executed card part commands others after more (number + 1)
executed-more card part commands made others before after entries more number e a m = record {
  first = e.first ++ made ∷ [];
  in_order = e.in_order ∙ sym (append_assoc e.first (made ∷ []) others);
  left = a ∙ sym (left-behind card e.first made);
  entries_are =
      let one : flat_map entry_of (made ∷ []) ≡ entry_of made = append-nil (entry_of made) in
      m ∙ (ap (λ (k : List ℕ). k ++ entry_of made) e.entries_are ∙ sym (flat_map-append entry_of e.first (made ∷ []) ∙ ap (λ (k : List ℕ). flat_map entry_of e.first ++ k) one));
  number_is = let size = length-append e.first (made ∷ []) in omega (arith, e.number_is, size);
}

-- what follows an answer: the run goes on, or ends
abbrev after-it : Answer CardState → Part → List (List ℕ) → List (Answer CardState)
after-it made part commands = cond (made.sw == 0x9000) (answers made.after part commands) []

goes-on : (made : Answer CardState) (part : Part) (commands : List (List ℕ)) → made.sw ≡ 0x9000 → after-it made part commands ≡ answers made.after part commands
goes-on made part commands done =
    let t : (made.sw == 0x9000) ≡ true = grind (arith, nat_tests, done) in
    let P : Bool → Type 0 = λ b. cond b (answers made.after part commands) [] ≡ answers made.after part commands in
    subst P (sym t) refl

ends : (made : Answer CardState) (part : Part) (commands : List (List ℕ)) → (made.sw ≡ 0x9000 → ⊥) → after-it made part commands ≡ []
ends made part commands other =
    let t : (made.sw == 0x9000) ≡ false = grind (arith, nat_tests, other) in
    let P : Bool → Type 0 = λ b. cond b (answers made.after part commands) [] ≡ [] in
    subst P (sym t) refl

-- the next command was answered so, left the card so, and its entry was put at the end
pub record IsNext (before after : CardState) (part : Part) (items : List (List ℕ)) (i : ℕ) (entries more : List ℕ) (made : Answer CardState) : Type 0 where
  pub item : List ℕ
  pub within : i < length items
  pub is : item ≡ get_or items i item
  pub answer : made ≡ answer_alone before part item
  pub left : after ≡ made.after
  pub entry : more ≡ entries ++ entry_of made

executed-next : {card before after : CardState} {part : Part} {items : List (List ℕ)} {i number : ℕ} {entries more : List ℕ} {made : Answer CardState}
    → IsNext before after part items i entries more made → Executed card part items (answers before part (drop i items)) before entries number
    → Executed card part items (after-it made part (drop (i + 1) items)) after more (number + 1)
executed-next {card} {before} {after} {part} {items} {i} {number} {entries} {more} {made} n e =
    let item = n.item in
    let P : List ℕ → Type 0 = λ x. drop i items ≡ x ∷ drop (suc i) items in
    let cut : drop i items ≡ item ∷ drop (suc i) items = subst P (sym n.is) (drop-cons items i item n.within) in
    let step : suc i ≡ i + 1 = omega arith in
    let Q : ℕ → Type 0 = λ k. drop i items ≡ item ∷ drop k items in
    let asked = answer_alone before part item in
    let others = drop (i + 1) items in
    let next : answers before part (drop i items) ≡ asked ∷ after-it asked part others = ap (λ (xs : List (List ℕ)). answers before part xs) (subst Q step cut) in
    let R : Answer CardState → Type 0 = λ m. answers before part (drop i items) ≡ m ∷ after-it m part others in
    let S : List (Answer CardState) → Type 0 = λ left. Executed card part items left before entries number in
    executed-more card part items made (after-it made part others) before after entries more number (subst S (subst R (sym n.answer) next) e) n.left n.entry

-- ---- where the next command is the last one, and where the run goes on

pub next-goes-on : {card before after : CardState} {part : Part} {items : List (List ℕ)} {i number : ℕ} {entries more : List ℕ} {made : Answer CardState}
    → IsNext before after part items i entries more made → Executed card part items (answers before part (drop i items)) before entries number
    → made.sw ≡ 0x9000 → Executed card part items (answers after part (drop (i + 1) items)) after more (number + 1)
next-goes-on {card} {before} {after} {part} {items} {i} {number} {entries} {more} {made} n e done =
    let P : List (Answer CardState) → Type 0 = λ left. Executed card part items left after more (number + 1) in
    let Q : CardState → Type 0 = λ state. Executed card part items (answers state part (drop (i + 1) items)) after more (number + 1) in
    subst Q (sym n.left) (subst P (goes-on made part (drop (i + 1) items) done) (executed-next n e))

-- all were executed: the card behind them, and their entries
pub record HasEnded (card : CardState) (part : Part) (items : List (List ℕ)) (after : CardState) (entries : List ℕ) : Type 0 where
  pub left : after ≡ left_by card (answers card part items)
  pub entries_are : entries ≡ flat_map entry_of (answers card part items)

pub next-ends : {card before after : CardState} {part : Part} {items : List (List ℕ)} {i number : ℕ} {entries more : List ℕ} {made : Answer CardState}
    → IsNext before after part items i entries more made → Executed card part items (answers before part (drop i items)) before entries number
    → (made.sw ≡ 0x9000 → ⊥) → HasEnded card part items after more
next-ends {card} {before} {after} {part} {items} {i} {number} {entries} {more} {made} n e other =
    let P : List (Answer CardState) → Type 0 = λ left. Executed card part items left after more (number + 1) in
    let all = subst P (ends made part (drop (i + 1) items) other) (executed-next n e) in
    let first : answers card part items ≡ all.first = all.in_order ∙ append-nil all.first in
    record {
      left = all.left ∙ ap (λ (made : List (Answer CardState)). left_by card made) (sym first);
      entries_are = all.entries_are ∙ ap (λ (made : List (Answer CardState)). flat_map entry_of made) (sym first);
    }

pub next-begun : {card before after : CardState} {part : Part} {items : List (List ℕ)} {i number : ℕ} {entries more : List ℕ} {made : Answer CardState}
    → IsNext before after part items i entries more made → Executed card part items (answers before part (drop i items)) before entries number
    → HasBegun card part items after
next-begun {card} {before} {after} {part} {items} {i} {number} {entries} {more} {made} n e =
    let all = executed-next n e in
    record { first = all.first; others = after-it made part (drop (i + 1) items); in_order = all.in_order; left = all.left }

pub on-err : {T E : Type 0} (r : Result T E) (P : Type 0) → P → OnErr r P
on-err (Ok found) P holds = tt
on-err (Err error) P holds = holds

pub both-leave : (part : Part) (card between after : CardState) → LeavesTheOther part card between → LeavesTheOther part between after → LeavesTheOther part card after
both-leave Files card between after a b = b ∙ a
both-leave Applets card between after a b = b ∙ a
