-- The rules asked of a book's tables are those of its past.
use Rattle.std.proofs.Common.{◌≡◌, ℕ, nat_le, true, false, not, ◌==◌, ◌&&◌, List, [], ◌∷◌, Option, None, Some, is_some, is_none, find, refl, ap, ◌∙◌, arith}
use Rattle.std.specs.Option.{option_or}
use Rattle.std.specs.List.{list_any}
use Rattle.std.proofs.lemmas.Bool.Decides.{nat_tests}
use Rattle.ota_core.specs.Keyset.{Keyset, is_same_keyset}
use Rattle.ota_core.specs.Entry.{Reservation, moment_of, facts_in, counter_in, is_open_of, is_close_of, is_reserve_of, is_refusal_of, is_settlement_of}
use Rattle.ota_core.specs.History.{first_some, unless, broken, broken_in_order, broken_in_use, broken_job, broken_settlement, broken_moment, next_counter, last_reservation, IsLegalPast}
use Rattle.ota_core.specs.HistoryLaws.{both_hold, not-holds}
use Rattle.ota_core.specs.declared.jobs.JobId.{JobId}
use Rattle.ota_core.specs.declared.keysets.KeysetFacts.{KeysetFacts}
use Rattle.ota_core.specs.declared.entries.Entry.{Entry}
use Rattle.ota_core.specs.declared.entries.Entry.TheVariants.{Open, Reserve, Done, Refused, Close}
use Rattle.ota_core.specs.declared.entries.Illegal.{Illegal}
use Rattle.keyset_book.specs.Book.{known_by, known_from, standing_by, standing_of, IsBookOf}
use Rattle.keyset_book.specs.Rules.{rule_in_use, next_to, is_refused, rule_job, rule_settlement, rule_in_order, rule_moment, first_rule}
use Rattle.keyset_book.specs.declared.books.Book.{Book}
use Rattle.keyset_book.proofs.PastLemmas.{by_cases, opened-facts, unopened_unused, same_place, done_settles, unsettled_unrefused, last_reserved}

-- the keyset is in use, by what is known of it
pub in_use-is : (keyset : Keyset) (past : List Entry) → rule_in_use (known_by keyset past) ≡ broken_in_use keyset past
in_use-is keyset past = rw (opened-facts keyset past) (by_facts (first_some (facts_in keyset) past))
  where
    by_facts : (facts : Option KeysetFacts) → rule_in_use (known_from facts (first_some (counter_in keyset) past) (list_any (is_close_of keyset) past))
        ≡ option_or (unless (is_some facts) Illegal.NotOpened) (unless (not (list_any (is_close_of keyset) past)) Illegal.Closed)
    by_facts None = refl
    by_facts (Some facts) = refl

-- the keyset isn't opened, by what is known of it
pub opened-is : (keyset : Keyset) (past : List Entry) → is_none (known_by keyset past) ≡ not (list_any (is_open_of keyset) past)
opened-is keyset past = rw (opened-facts keyset past) (by_facts (first_some (facts_in keyset) past))
  where
    by_facts : (facts : Option KeysetFacts) → is_none (known_from facts (first_some (counter_in keyset) past) (list_any (is_close_of keyset) past)) ≡ not (is_some facts)
    by_facts None = refl
    by_facts (Some facts) = refl

-- the next counter, by what is known of the keyset
pub next_to-is : (keyset : Keyset) (past : List Entry) → IsLegalPast past → next_to (known_by keyset past) ≡ next_counter keyset past
next_to-is keyset past legal = by_facts (first_some (facts_in keyset) past) (λ none. unopened_unused keyset past legal (opened-facts keyset past ∙ ap is_some none))
  where
    by_facts : (facts : Option KeysetFacts) → (facts ≡ None → first_some (counter_in keyset) past ≡ None)
        → next_to (known_from facts (first_some (counter_in keyset) past) (list_any (is_close_of keyset) past)) ≡ next_counter keyset past
    by_facts None unused = rw (unused refl) refl
    by_facts (Some facts) unused = refl

-- a counter waits for its settlement, by how it stands
pub settled-is : (place : Reservation) (past : List Entry)
    → rule_settlement (Some (standing_of (find (is_settlement_of place) past))) ≡ unless (not (list_any (is_settlement_of place) past)) Illegal.AlreadySettled
settled-is place [] = refl
settled-is place (Open by moment keyset facts ∷ past) = settled-is place past
settled-is place (Reserve by moment keyset counter job tar name body ∷ past) = settled-is place past
settled-is place (Done by moment keyset counter answer ∷ past) =
    by_cases (is_same_keyset keyset place.keyset && (counter == place.counter)) (λ same. rw same refl) (λ other. rw other (settled-is place past))
settled-is place (Refused by moment keyset counter status ∷ past) =
    by_cases (is_same_keyset keyset place.keyset && (counter == place.counter)) (λ same. rw same refl) (λ other. rw other (settled-is place past))
settled-is place (Close by moment keyset ∷ past) = settled-is place past

pub settlement-is : (place : Reservation) (past : List Entry) → rule_settlement (standing_by place past) ≡ broken_settlement place past
settlement-is place past =
    by_cases (list_any (is_reserve_of place) past) (λ reserved. rw reserved (settled-is place past)) (λ free. rw free refl)

-- a counter without a settlement before it isn't refused before
pub settled_once : (keyset : Keyset) (counter : ℕ) (place : Reservation) (past : List Entry)
    → broken_settlement (record { keyset = keyset; counter = counter }) past ≡ None
    → (is_same_keyset keyset place.keyset && (counter == place.counter)) ≡ true → list_any (is_settlement_of place) past ≡ false
settled_once keyset counter place past rule same =
    let once = not-holds (list_any (is_settlement_of (record { keyset = keyset; counter = counter })) past) Illegal.AlreadySettled
    (both_hold (unless (list_any (is_reserve_of (record { keyset = keyset; counter = counter })) past) Illegal.NotReserved)
    (unless (not (list_any (is_settlement_of (record { keyset = keyset; counter = counter })) past)) Illegal.AlreadySettled) rule).1 in
    rw (same_place keyset counter place same) at once

-- a counter is refused, by how it stands
pub refused-is : (place : Reservation) (past : List Entry) → IsLegalPast past
    → is_refused (Some (standing_of (find (is_settlement_of place) past))) ≡ list_any (is_refusal_of place) past
refused-is place [] legal = refl
refused-is place (Open by moment keyset facts ∷ past) legal = refused-is place past legal.0
refused-is place (Reserve by moment keyset counter job tar name body ∷ past) legal = refused-is place past legal.0
refused-is place (Done by moment keyset counter answer ∷ past) legal =
    by_cases (is_same_keyset keyset place.keyset && (counter == place.counter))
    (λ same. rw (same, unsettled_unrefused place past (settled_once keyset counter place past (done_settles by moment keyset counter answer past legal) same)) refl)
    (λ other. rw other (refused-is place past legal.0))
refused-is place (Refused by moment keyset counter status ∷ past) legal =
    by_cases (is_same_keyset keyset place.keyset && (counter == place.counter))
    (λ same. rw same refl)
    (λ other. rw other (refused-is place past legal.0))
refused-is place (Close by moment keyset ∷ past) legal = refused-is place past legal.0

-- a reserved counter stands by its settlement
pub standing-reserved : (place : Reservation) (past : List Entry) → list_any (is_reserve_of place) past ≡ true
    → standing_by place past ≡ Some (standing_of (find (is_settlement_of place) past))
standing-reserved place past reserved = rw reserved refl

-- a job is free, by its last reservation
pub job-is : (job : JobId) (past : List Entry) (book : Book) → IsLegalPast past → IsBookOf past book
    → rule_job book (last_reservation job past) ≡ broken_job past (last_reservation job past)
job-is job past book legal says = by_last (last_reservation job past) refl
  where
    by_last : (last : Option Reservation) → last_reservation job past ≡ last → rule_job book last ≡ broken_job past last
    by_last None is = refl
    by_last (Some place) is =
        rw (says.counters place, standing-reserved place past (last_reserved job place past is), refused-is place past legal) refl

pub none_below : (moment : ℕ) → nat_le 0 moment ≡ true
none_below moment = grind (arith, nat_tests)

-- no entry is earlier than the last one, by the last moment
pub moment-is : (moment : ℕ) (past : List Entry) (book : Book) → IsBookOf past book → rule_moment book moment ≡ broken_moment past moment
moment-is moment [] book says = rw (says.moment, none_below moment) refl
moment-is moment (last ∷ past) book says = rw (says.moment) refl

-- the rules of keysets, counters and jobs
pub in_order-is : (entry : Entry) (past : List Entry) (book : Book) → IsLegalPast past → IsBookOf past book
    → rule_in_order book entry ≡ broken_in_order past entry
in_order-is (Open by moment keyset facts) past book legal says = rw (says.keysets keyset, opened-is keyset past) refl
in_order-is (Reserve by moment keyset counter job tar name body) past book legal says =
    rw (says.keysets keyset, in_use-is keyset past, next_to-is keyset past legal, says.jobs job, job-is job past book legal says) refl
in_order-is (Done by moment keyset counter answer) past book legal says =
    rw (says.keysets keyset, in_use-is keyset past, says.counters (record { keyset = keyset; counter = counter }), settlement-is (record { keyset = keyset; counter = counter }) past) refl
in_order-is (Refused by moment keyset counter status) past book legal says =
    rw (says.keysets keyset, in_use-is keyset past, says.counters (record { keyset = keyset; counter = counter }), settlement-is (record { keyset = keyset; counter = counter }) past) refl
in_order-is (Close by moment keyset) past book legal says = rw (says.keysets keyset, in_use-is keyset past) refl

-- the first rule that is broken
pub first_rule-is : (entry : Entry) (past : List Entry) (book : Book) → IsLegalPast past → IsBookOf past book
    → first_rule book entry ≡ broken past entry
first_rule-is entry past book legal says = rw (in_order-is entry past book legal says, moment-is (moment_of entry) past book says) refl
