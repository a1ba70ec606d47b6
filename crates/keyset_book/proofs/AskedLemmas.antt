-- What the tables of a book answer is what its history says.
use Rattle.std.proofs.Common.{◌≡◌, ℕ, ◌+◌, Bool, true, false, if◌then◌else◌, List, [], ◌∷◌, ◌++◌, Option, None, Some, unwrap_or, is_some, reverse, find, refl, sym, ap, ◌∙◌}
use Rattle.std.specs.Option.{option_or, option_map}
use Rattle.std.specs.List.{list_any}
use Rattle.std.proofs.lemmas.List.{reverse-append}
use Rattle.ota_core.specs.Keyset.{Keyset, is_same_keyset}
use Rattle.ota_core.specs.Entry.{Reservation, facts_in, counter_in, is_open_of, is_close_of, is_reserve_of, is_settlement_of}
use Rattle.ota_core.specs.History.{first_some, last_reservation, IsLegalPast}
use Rattle.ota_core.specs.HistoryLaws.{is_same_keyset-true}
use Rattle.ota_core.specs.Questions.{state_of}
use Rattle.ota_core.specs.Outcome.{outcome_of_reservation, settled_by}
use Rattle.ota_core.specs.declared.jobs.JobId.{JobId}
use Rattle.ota_core.specs.declared.keysets.KeysetFacts.{KeysetFacts}
use Rattle.ota_core.specs.declared.questions.KeysetState.{KeysetState}
use Rattle.ota_core.specs.declared.entries.Entry.{Entry}
use Rattle.ota_core.specs.declared.entries.Entry.TheVariants.{Open, Reserve, Done, Refused, Close}
use Rattle.keyset_book.specs.Book.{known_by, known_from, standing_by, standing_of, IsBookOf}
use Rattle.keyset_book.specs.Answers.{next_where, next_by, looked_of, settled_in}
use Rattle.keyset_book.specs.Asked.{next_after, state_with, looked_at, looked_after, settled_with}
use Rattle.keyset_book.specs.declared.books.Book.{Book}
use Rattle.keyset_book.proofs.PastLemmas.{by_cases, opens_first, opened-facts, unopened_unused, unreserved_unsettled, unfound, last_reserved}
use Rattle.keyset_book.proofs.RuleLemmas.{standing-reserved}

module _ (keyset : Keyset) (past : List Entry) where
  pub next-is : next_after (known_by keyset past) ≡ next_by keyset past
  next-is = rw (opened-facts keyset past) (by_facts (first_some (facts_in keyset) past) (first_some (counter_in keyset) past) (list_any (is_close_of keyset) past))
    where
      by_facts : (facts : Option KeysetFacts) (last : Option ℕ) (closed : Bool)
          → next_after (known_from facts last closed)
          ≡ next_where (if is_some facts then (if closed then KeysetState.Closed else KeysetState.Open) else KeysetState.New) (unwrap_or last 0 + 1)
      by_facts None last closed = refl
      by_facts (Some facts) last true = refl
      by_facts (Some facts) last false = refl

  pub state-is : state_with (known_by keyset past) ≡ state_of keyset past
  state-is = rw (opened-facts keyset past) (by_facts (first_some (facts_in keyset) past) (first_some (counter_in keyset) past) (list_any (is_close_of keyset) past))
    where
      by_facts : (facts : Option KeysetFacts) (last : Option ℕ) (closed : Bool)
          → state_with (known_from facts last closed)
          ≡ (if is_some facts then (if closed then KeysetState.Closed else KeysetState.Open) else KeysetState.New)
      by_facts None last closed = refl
      by_facts (Some facts) last closed = refl

-- an opened keyset has used up a counter
pub opened_used : (keyset : Keyset) (past : List Entry) → list_any (is_open_of keyset) past ≡ true → is_some (first_some (counter_in keyset) past) ≡ true
opened_used keyset [] opened = cc
opened_used keyset (Open by moment other facts ∷ past) opened =
    by_cases (is_same_keyset other keyset) (λ same. rw same refl) (λ apart. rw apart (opened_used keyset past (rw apart at opened)))
opened_used keyset (Reserve by moment other counter job tar name body ∷ past) opened =
    by_cases (is_same_keyset other keyset) (λ same. rw same refl) (λ apart. rw apart (opened_used keyset past opened))
opened_used keyset (Done by moment other counter answer ∷ past) opened = opened_used keyset past opened
opened_used keyset (Refused by moment other counter status ∷ past) opened = opened_used keyset past opened
opened_used keyset (Close by moment other ∷ past) opened = opened_used keyset past opened

pub last-is : (keyset : Keyset) (past : List Entry) → IsLegalPast past → option_map (λ known. known.last) (known_by keyset past) ≡ first_some (counter_in keyset) past
last-is keyset past legal =
    by_facts (first_some (facts_in keyset) past) (first_some (counter_in keyset) past) (list_any (is_close_of keyset) past)
    (λ none. unopened_unused keyset past legal (opened-facts keyset past ∙ ap is_some none))
    (λ some. opened_used keyset past (opened-facts keyset past ∙ some))
  where
    by_facts : (facts : Option KeysetFacts) (last : Option ℕ) (closed : Bool) → (facts ≡ None → last ≡ None) → (is_some facts ≡ true → is_some last ≡ true)
        → option_map (λ known. known.last) (known_from facts last closed) ≡ last
    by_facts None last closed unused used = rw (unused refl) refl
    by_facts (Some facts) None closed unused used = let some : false ≡ true = used refl in cc
    by_facts (Some facts) (Some last) closed unused used = refl

pub facts-is : (keyset : Keyset) (past : List Entry) → option_map (λ known. known.facts) (known_by keyset past) ≡ first_some (facts_in keyset) past
facts-is keyset past = by_facts (first_some (facts_in keyset) past) (first_some (counter_in keyset) past) (list_any (is_close_of keyset) past)
  where
    by_facts : (facts : Option KeysetFacts) (last : Option ℕ) (closed : Bool) → option_map (λ known. known.facts) (known_from facts last closed) ≡ facts
    by_facts None last closed = refl
    by_facts (Some facts) last closed = refl

-- the first answer along a list with one more element at its end
pub first_some-push : {A B : Type 0} (f : A → Option B) (xs : List A) (x : A) → first_some f (xs ++ x ∷ []) ≡ option_or (first_some f xs) (f x)
first_some-push f [] x = at_end (f x)
  where
    at_end : {B : Type 0} (answer : Option B) → option_or answer None ≡ option_or None answer
    at_end None = refl
    at_end (Some answer) = refl
first_some-push f (y ∷ xs) x = joined (f y) (first_some f xs) (f x) (first_some f (xs ++ x ∷ [])) (first_some-push f xs x)
  where
    joined : {B : Type 0} (first second third rest : Option B) → rest ≡ option_or second third → option_or first rest ≡ option_or (option_or first second) third
    joined None second third rest is = is
    joined (Some first) second third rest is = refl

-- facts that one entry alone has are found from either end
pub first_some-alone : {A B : Type 0} (f : A → Option B) (xs : List A) (x : A) → (is_some (f x) ≡ true → first_some f xs ≡ None)
    → option_or (first_some f xs) (f x) ≡ option_or (f x) (first_some f xs)
first_some-alone f xs x alone = by_answer (f x) (first_some f xs) alone
  where
    by_answer : {B : Type 0} (answer others : Option B) → (is_some answer ≡ true → others ≡ None) → option_or others answer ≡ option_or answer others
    by_answer None None alone = refl
    by_answer None (Some other) alone = refl
    by_answer (Some answer) others alone = rw (alone refl) refl

-- an entry that opens a keyset stands behind no other that does
pub opened_alone : (keyset : Keyset) (entry : Entry) (past : List Entry) → IsLegalPast (entry ∷ past) → is_some (facts_in keyset entry) ≡ true
    → first_some (facts_in keyset) past ≡ None
opened_alone keyset (Open by moment opened facts) past legal some =
    none_some (first_some (facts_in keyset) past) (sym (opened-facts keyset past) ∙ unopened)
  where
    none_some : {B : Type 0} (found : Option B) → is_some found ≡ false → found ≡ None
    none_some None none = refl
    none_some (Some found) none = cc

    one : opened ≡ keyset
    one = by_cases (is_same_keyset opened keyset) (λ same. is_same_keyset-true opened keyset same) (λ apart. absurd (different (is_same_keyset opened keyset) apart some))
      where
        different : (same : Bool) → same ≡ false → is_some (if same then Some facts else None) ≡ true → ⊥
        different true apart found = cc
        different false apart found = cc

    unopened : list_any (is_open_of keyset) past ≡ false
    unopened = rw one at (opens_first by moment opened facts past legal)
opened_alone keyset (Reserve by moment other counter job tar name body) past legal some = cc
opened_alone keyset (Done by moment other counter answer) past legal some = cc
opened_alone keyset (Refused by moment other counter status) past legal some = cc
opened_alone keyset (Close by moment other) past legal some = cc

pub facts-reverse : (keyset : Keyset) (past : List Entry) → IsLegalPast past → first_some (facts_in keyset) (reverse past) ≡ first_some (facts_in keyset) past
facts-reverse keyset [] legal = refl
facts-reverse keyset (entry ∷ past) legal =
    ap (first_some (facts_in keyset)) (reverse-append (entry ∷ []) past) ∙ first_some-push (facts_in keyset) (reverse past) entry
    ∙ ap (λ found. option_or found (facts_in keyset entry)) (facts-reverse keyset past legal.0)
    ∙ first_some-alone (facts_in keyset) past entry (opened_alone keyset entry past legal)

pub looked-is : (job : JobId) (past : List Entry) (book : Book) → IsBookOf past book
    → looked_after book (last_reservation job past) ≡ looked_of (outcome_of_reservation past (last_reservation job past))
looked-is job past book says = by_last (last_reservation job past) refl
  where
    by_settlement : (place : Reservation) (found : Option Entry) → looked_at place (Some (standing_of found)) ≡ looked_of (settled_by place found)
    by_settlement place None = refl
    by_settlement place (Some (Open by moment keyset facts)) = refl
    by_settlement place (Some (Reserve by moment keyset counter job tar name body)) = refl
    by_settlement place (Some (Done by moment keyset counter answer)) = refl
    by_settlement place (Some (Refused by moment keyset counter status)) = refl
    by_settlement place (Some (Close by moment keyset)) = refl

    by_last : (last : Option Reservation) → last_reservation job past ≡ last → looked_after book last ≡ looked_of (outcome_of_reservation past last)
    by_last None is = refl
    by_last (Some place) is =
        rw (says.counters place, standing-reserved place past (last_reserved job place past is)) (by_settlement place (find (is_settlement_of place) past))

pub settlement_by-is : (place : Reservation) (past : List Entry) → IsLegalPast past → settled_with (standing_by place past) ≡ settled_in (find (is_settlement_of place) past)
settlement_by-is place past legal =
    by_cases (list_any (is_reserve_of place) past)
    (λ reserved. rw reserved (by_settlement (find (is_settlement_of place) past)))
    (λ free. rw (free, unfound (is_settlement_of place) past (unreserved_unsettled place past legal free)) refl)
  where
    by_settlement : (found : Option Entry) → settled_with (Some (standing_of found)) ≡ settled_in found
    by_settlement None = refl
    by_settlement (Some (Open by moment keyset facts)) = refl
    by_settlement (Some (Reserve by moment keyset counter job tar name body)) = refl
    by_settlement (Some (Done by moment keyset counter answer)) = refl
    by_settlement (Some (Refused by moment keyset counter status)) = refl
    by_settlement (Some (Close by moment keyset)) = refl

pub reserved-is : (place : Reservation) (past : List Entry) → is_some (standing_by place past) ≡ list_any (is_reserve_of place) past
reserved-is place past = by_cases (list_any (is_reserve_of place) past) (λ reserved. rw reserved refl) (λ free. rw free refl)
