-- Counts of a keyset, entry by entry.
use Rattle.std.proofs.Common.{◌≡◌, ℕ, ◌+◌, ◌^◌, ◌<◌, ◌≤◌, Bool, true, false, cond, if◌then◌else◌, Option, Some, None, List, [], ◌∷◌, ◌++◌, length, get_or, take, refl, ap, ◌∙◌, arith, length-append}
use Rattle.std.specs.List.{filter_map, count_by}
use Rattle.std.proofs.lemmas.List.{append-nil, take_more, length-take-le}
use Rattle.std.proofs.lemmas.List.Elements.{filter-append, filter_map-append}
use Rattle.std.proofs.lemmas.List.Sums.{count_by-le-length, length-filter}
use Rattle.std.proofs.lemmas.Grind.{fold-append}
use Rattle.ota_core.specs.Keyset.{Keyset, is_same_keyset}
use Rattle.ota_core.specs.Entry.{Reservation, reserved_by}
use Rattle.ota_core.specs.HistoryLaws.{is_same_keyset-true}
use Rattle.ota_core.specs.declared.jobs.JobId.{JobId}
use Rattle.ota_core.specs.declared.entries.Entry.{Entry}
use Rattle.ota_core.specs.declared.entries.Entry.TheVariants.{Open, Reserve, Done, Refused, Close}
use Rattle.keyset_book.specs.declared.answers.Settled.{Settled}
use Rattle.keyset_book.specs.declared.answers.Settled.TheVariants as settled
use Rattle.reports.specs.Cards.{counts_among, reserved_counters, settlement_in, is_done, is_refused, is_unsettled}
use Rattle.reports.specs.Counting.{counted, counted_entry, MayCount}
use Rattle.reports.specs.declared.keyset_counts.Counts.{Counts}

-- a count with one element more at the end
count_push : {X : Type 0} (test : X → Bool) (xs : List X) (x : X) → count_by test (xs ++ x ∷ []) ≡ count_by test xs + cond (test x) 1 0
count_push test xs x = fold-append (λ a y. a + cond (test y) 1 0) 0 xs (x ∷ [])

same : (n : ℕ) → n + 0 ≡ n
same n = omega arith

-- the counts with one counter more
counts_push : (past : List Entry) (counters : List Reservation) (counter : Reservation)
    → counts_among past (counters ++ counter ∷ []) ≡ counted (settlement_in past counter) (counts_among past counters)
counts_push past counters counter =
    rw (
      length-append counters (counter ∷ []),
      count_push (λ c. is_done (settlement_in past c)) counters counter,
      count_push (λ c. is_refused (settlement_in past c)) counters counter,
      count_push (λ c. is_unsettled (settlement_in past c)) counters counter,
    )
    (by_settlement (settlement_in past counter))
  where
    so_far : Counts
    so_far = counts_among past counters

    with : ℕ → ℕ → ℕ → Counts
    with done refused unsettled = record {
      reserved = so_far.reserved + 1;
      done = so_far.done + done;
      refused = so_far.refused + refused;
      unsettled = so_far.unsettled + unsettled;
    }

    by_settlement : (how : Option Settled)
        → with (cond (is_done how) 1 0) (cond (is_refused how) 1 0) (cond (is_unsettled how) 1 0) ≡ counted how so_far
    by_settlement None = λ i. record {
      reserved = so_far.reserved + 1;
      done = same so_far.done i;
      refused = same so_far.refused i;
      unsettled = so_far.unsettled + 1;
    }
    by_settlement (Some settled.Done) = λ i. record {
      reserved = so_far.reserved + 1;
      done = so_far.done + 1;
      refused = same so_far.refused i;
      unsettled = same so_far.unsettled i;
    }
    by_settlement (Some (settled.Refused status)) = λ i. record {
      reserved = so_far.reserved + 1;
      done = same so_far.done i;
      refused = so_far.refused + 1;
      unsettled = same so_far.unsettled i;
    }

-- the counters of a keyset that one entry reserves
reserved_alone : (keyset : Keyset) (entry : Entry) (past : List Entry) (counters : List Reservation)
    → counts_among past (counters ++ reserved_counters keyset (entry ∷ [])) ≡ counted_entry past keyset entry (counts_among past counters)
reserved_alone keyset (Reserve by moment reserved counter job tar name body) past counters = by_test (is_same_keyset reserved keyset)
  where
    there : Reservation
    there = record { keyset = reserved; counter = counter }

    by_test : (same : Bool) → counts_among past (counters ++ cond same (there ∷ []) []) ≡ (if same then counted (settlement_in past there) (counts_among past counters) else counts_among past counters)
    by_test true = counts_push past counters there
    by_test false = ap (counts_among past) (append-nil counters)
reserved_alone keyset (Open by moment opened facts) past counters = ap (counts_among past) (append-nil counters)
reserved_alone keyset (Done by moment settled counter answer) past counters = ap (counts_among past) (append-nil counters)
reserved_alone keyset (Refused by moment settled counter status) past counters = ap (counts_among past) (append-nil counters)
reserved_alone keyset (Close by moment closed) past counters = ap (counts_among past) (append-nil counters)

-- the counts of a keyset with one entry more
pub counts_more : (past entries : List Entry) (i : ℕ) (entry : Entry) (keyset : Keyset) → i < length entries → entry ≡ get_or entries i entry
    → counts_among past (reserved_counters keyset (take (i + 1) entries))
    ≡ counted_entry past keyset entry (counts_among past (reserved_counters keyset (take i entries)))
counts_more past entries i entry keyset within is =
    rw (
      take_more entries i entry within,
      ← is,
      filter_map-append reserved_by (take i entries) (entry ∷ []),
      filter-append (λ counter. is_same_keyset counter.keyset keyset) (filter_map reserved_by (take i entries)) (filter_map reserved_by (entry ∷ [])),
    )
    (reserved_alone keyset entry past (reserved_counters keyset (take i entries)))

-- no more counters are reserved than there are entries
few_reserved : (entries : List Entry) → length (filter_map reserved_by entries) ≤ length entries
few_reserved [] = omega arith
few_reserved (Reserve by moment keyset counter job tar name body ∷ entries) = omega (arith, few_reserved entries)
few_reserved (Open by moment keyset facts ∷ entries) = omega (arith, few_reserved entries)
few_reserved (Done by moment keyset counter answer ∷ entries) = omega (arith, few_reserved entries)
few_reserved (Refused by moment keyset counter status ∷ entries) = omega (arith, few_reserved entries)
few_reserved (Close by moment keyset ∷ entries) = omega (arith, few_reserved entries)

few_of_keyset : (keyset : Keyset) (entries : List Entry) → length (reserved_counters keyset entries) ≤ length entries
few_of_keyset keyset entries =
    let all = filter_map reserved_by entries in
    let among = count_by-le-length (λ counter. is_same_keyset counter.keyset keyset) all in
    let kept = length-filter (λ counter. is_same_keyset counter.keyset keyset) all in
    omega (arith, few_reserved entries, among, kept)

-- one more may be counted where there are fewer entries than the greatest number
pub may_count : (past entries : List Entry) (i : ℕ) (keyset : Keyset) (counts : Counts) → i < length entries → length entries < 2 ^ 64
    → counts ≡ counts_among past (reserved_counters keyset (take i entries)) → MayCount counts
may_count past entries i keyset counts within small is = rw is (record {
  reserved = omega (arith, few, taken, within, small);
  done = omega (arith, few, taken, within, small, count_by-le-length (λ counter. is_done (settlement_in past counter)) counters);
  refused = omega (arith, few, taken, within, small, count_by-le-length (λ counter. is_refused (settlement_in past counter)) counters);
  unsettled = omega (arith, few, taken, within, small, count_by-le-length (λ counter. is_unsettled (settlement_in past counter)) counters);
})
  where
    counters : List Reservation
    counters = reserved_counters keyset (take i entries)

    few : length counters ≤ length (take i entries)
    few = few_of_keyset keyset (take i entries)

    taken : length (take i entries) ≡ i
    taken = length-take-le i entries (omega (arith, within))

-- a table in which the counts of one keyset are put anew
pub counted_put : (past : List Entry) (by moment : ℕ) (reserved : Keyset) (counter : ℕ) (job : JobId) (tar name body : List ℕ) (old new : Keyset → Counts)
    → ((other : Keyset) → new other
    ≡ (if is_same_keyset reserved other then counted (settlement_in past (record { keyset = reserved; counter = counter })) (old reserved) else old other))
    → (keyset : Keyset) → new keyset ≡ counted_entry past keyset (Reserve by moment reserved counter job tar name body) (old keyset)
counted_put past by moment reserved counter job tar name body old new put keyset = put keyset ∙ by_test (is_same_keyset reserved keyset) refl
  where
    by_test : (same : Bool) → is_same_keyset reserved keyset ≡ same
        → (if same then counted (settlement_in past (record { keyset = reserved; counter = counter })) (old reserved) else old keyset)
        ≡ (if same then counted (settlement_in past (record { keyset = reserved; counter = counter })) (old keyset) else old keyset)
    by_test true one = rw (is_same_keyset-true reserved keyset one) refl
    by_test false apart = refl
