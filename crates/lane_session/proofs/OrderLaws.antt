-- Laws of the order in which rows are reserved.
use Rattle.std.proofs.Common.{◌≡◌, ◌≢◌, ℕ, suc, ◌+◌, ◌%◌, ◌<◌, Bool, true, false, eqb, if◌then◌else◌, List, [], ◌∷◌, ◌++◌, length, reverse, get_or, set, drop, Some, Ok, Err, refl, inl, inr, sym, ap, subst, ◌∙◌, append_assoc, arith, None}
use Rattle.std.proofs.Math.Seq.{drop-cons}
use Rattle.std.proofs.lemmas.Bool.{eq-eqb, eqb-true, eqb-false}
use Rattle.std.proofs.lemmas.List.{get_or-set_same, get_or-set_other, get_or_default, append-nil}
use Rattle.disk_model.specs.Counts.{Counts}
use Rattle.disk_model.specs.Disk.{Meaning}
use Rattle.gate_log.specs.declared.log_errors.LogErr.{LogErr}
use Rattle.gate_log.specs.declared.log_errors.LogErr.TheVariants as log_err
use Rattle.ota_core.specs.History.{next_counter}
use Rattle.ota_core.specs.declared.jobs.Job.{Job}
use Rattle.ota_core.specs.declared.entries.Entry.{Entry}
use Rattle.lane_session.specs.Due.{is_served, due_counter, reservation_for}
use Rattle.lane_session.specs.Run.{IsFullFor, IsRowStep, IsAddition}
use Rattle.lane_session.specs.Order.{rows_of_lane, reserved_for, reserved_for_rows, IsFrontOf, IsInOrder, AllInOrder}
use Rattle.lane_session.specs.declared.lanes.Lane.{Lane}
use Rattle.lane_session.proofs.RowLaws.{none_if, entries_after, not_both}

-- the row is the first that is left
pub left_is : (jobs : List Job) (i : ℕ) (job : Job) → i < length jobs → job ≡ get_or jobs i job → drop i jobs ≡ job ∷ drop (i + 1) jobs
left_is jobs i job within is = drop-cons jobs i job within ∙ ap (λ (row : Job). row ∷ drop (suc i) jobs) (sym is) ∙ ap (λ (m : ℕ). job ∷ drop m jobs) next
  where
    next : suc i ≡ i + 1
    next = omega arith

-- nothing is due to a row that is served
rows_after_served : (past : List Entry) (job : Job) (rows : List Job) → is_served past job ≡ true → reserved_for_rows past (job ∷ rows) ≡ reserved_for_rows past rows
rows_after_served past job rows served = ap (λ (due : List Entry). due ++ reserved_for_rows (due ++ past) rows) none_due
  where
    none_due : reserved_for past job ≡ []
    none_due = rw served refl

-- the next counter of its keyset is due to any other
rows_after_due : (past : List Entry) (job : Job) (counter : ℕ) (rows : List Job) → due_counter past job ≡ Some counter
    → reserved_for_rows past (job ∷ rows) ≡ reservation_for past job counter ∷ reserved_for_rows (reservation_for past job counter ∷ past) rows
rows_after_due past job counter rows due = ap (λ (d : List Entry). d ++ reserved_for_rows (d ++ past) rows) one_due
  where
    tests : (is_served past job ≡ false) × (next_counter job.keyset past ≡ counter)
    tests = none_if (is_served past job) (next_counter job.keyset past) counter due

    one_due : reserved_for past job ≡ reservation_for past job counter ∷ []
    one_due = rw (tests.0, tests.1) refl

-- the first row that is left is of the lane, or is not
rows_by : (k n : ℕ) (job : Job) (rows : List Job) (here : Bool) → eqb (job.keyset.card.0 % n) k ≡ here → rows_of_lane k n (job ∷ rows) ≡ (if here then job ∷ rows_of_lane k n rows else rows_of_lane k n rows)
rows_by k n job rows here is = rw is refl

pub rows_here : (k n : ℕ) (job : Job) (rows : List Job) → job.keyset.card.0 % n ≡ k → rows_of_lane k n (job ∷ rows) ≡ job ∷ rows_of_lane k n rows
rows_here k n job rows of = rows_by k n job rows true (ap (λ (m : ℕ). eqb m k) of ∙ eq-eqb k k refl)

pub rows_there : (k n : ℕ) (job : Job) (rows : List Job) → job.keyset.card.0 % n ≢ k → rows_of_lane k n (job ∷ rows) ≡ rows_of_lane k n rows
rows_there k n job rows differs = by (eqb (job.keyset.card.0 % n) k) refl
  where
    by : (here : Bool) → eqb (job.keyset.card.0 % n) k ≡ here → rows_of_lane k n (job ∷ rows) ≡ rows_of_lane k n rows
    by true is = absurd (differs (eqb-true (job.keyset.card.0 % n) k is))
    by false is = rows_by k n job rows false is

-- ---- a lane that is full

-- a lane that goes on isn't full
pub not_full : (rest : List Entry) (now : Lane) → now.end ≡ None → IsFullFor (IsFrontOf rest) now.journal now.end
not_full rest now goes_on = subst (IsFullFor (IsFrontOf rest) now.journal) (sym goes_on) tt

-- want of memory isn't want of room
pub wants_memory : (rest : List Entry) (now : Lane) → now.end ≡ Some log_err.Memory → IsFullFor (IsFrontOf rest) now.journal now.end
wants_memory rest now end_is = subst (IsFullFor (IsFrontOf rest) now.journal) (sym end_is) tt

-- an addition that had no room was of the next batch
pub full_by : {D B C : Type 0} (told : Meaning D B C) (counts : D → Counts) (old new : D) (now after : Lane) (more rest : List Entry) → IsFrontOf rest more → (error : LogErr) → IsAddition told counts old new now after more (Err error)
    → IsFullFor (IsFrontOf rest) after.journal after.end
full_by told counts old new now after more rest front error a = subst (IsFullFor (IsFrontOf rest) after.journal) (sym a.end_is) (by error a)
  where
    by : (error : LogErr) → IsAddition told counts old new now after more (Err error) → IsFullFor (IsFrontOf rest) after.journal (Some error)
    by log_err.Memory a = tt
    by (log_err.DiskFault fault) a = tt
    by log_err.Unformatted a = tt
    by log_err.NotALog a = tt
    by (log_err.OtherHead head) a = tt
    by (log_err.Damaged number) a = tt
    by (log_err.Full size need) a = (a.answer.1 ∙ sym a.err.length, omega (arith, a.answer.0, a.answer.1, a.answer.2), more, front, a.answer.2)

module _ {D B C : Type 0} (told : Meaning D B C) (counts : D → Counts) where
  -- what is left to add begins with what is due to the row
  rest_at : (k n : ℕ) (jobs left : List Job) (before now : Lane) (job : Job) (counter : ℕ) → job.keyset.card.0 % n ≡ k → (kept : IsInOrder k n jobs (job ∷ left) before now) → now.end ≡ None
      → due_counter (reverse now.journal.entries) job ≡ Some counter
      → kept.rest ≡ reservation_for (reverse now.journal.entries) job counter ∷ reserved_for_rows (reservation_for (reverse now.journal.entries) job counter ∷ reverse now.journal.entries) (rows_of_lane k n left)
  rest_at k n jobs left before now job counter of kept goes_on due =
      kept.whole goes_on ∙ ap (reserved_for_rows (reverse now.journal.entries)) (rows_here k n job left of) ∙ rows_after_due (reverse now.journal.entries) job counter (rows_of_lane k n left) due

  -- a row of the lane
  row_in_order : (k n : ℕ) (jobs left : List Job) (before now after : Lane) (old new : D) (job : Job) → job.keyset.card.0 % n ≡ k → IsInOrder k n jobs (job ∷ left) before now
      → IsRowStep told counts old new now after job → IsInOrder k n jobs left before after
  row_in_order k n jobs left before now after old new job of kept (inl same) = subst (IsInOrder k n jobs left before) (sym same.1) (record {
    added = kept.added;
    rest = kept.rest;
    entries = kept.entries;
    order = kept.order;
    whole = λ goes_on. kept.whole goes_on ∙ ap (reserved_for_rows (reverse now.journal.entries)) (rows_here k n job left of) ∙ rows_after_served (reverse now.journal.entries) job (rows_of_lane k n left) (same.2 goes_on);
    full = kept.full;
  })
  row_in_order k n jobs left before now after old new job of kept (inr (inl wants)) = record {
    added = kept.added;
    rest = kept.rest;
    entries = ap (λ j. j.entries) wants.2 ∙ kept.entries;
    order = kept.order;
    whole = λ goes_on. absurd (not_both log_err.Memory after.end wants.3 goes_on);
    full = λ began. wants_memory kept.rest after wants.3;
  }
  row_in_order k n jobs left before now after old new job of kept (inr (inr (goes_on, counter, due, Err error, a))) = record {
    added = kept.added;
    rest = kept.rest;
    entries = a.err.entries ∙ kept.entries;
    order = kept.order;
    whole = λ open_end. absurd (not_both error after.end a.end_is open_end);
    full = λ began. full_by told counts old new now after (reservation_for (reverse now.journal.entries) job counter ∷ []) kept.rest
        (reserved_for_rows (reservation_for (reverse now.journal.entries) job counter ∷ reverse now.journal.entries) (rows_of_lane k n left), rest_at k n jobs left before now job counter of kept goes_on due) error a;
  }
  row_in_order k n jobs left before now after old new job of kept (inr (inr (goes_on, counter, due, Ok done, a))) = record {
    added = kept.added ++ reservation ∷ [];
    rest = later;
    entries = a.added ∙ ap (λ (e : List Entry). e ++ reservation ∷ []) kept.entries ∙ append_assoc before.journal.entries kept.added (reservation ∷ []);
    order = append_assoc kept.added (reservation ∷ []) later ∙ ap (λ (r : List Entry). kept.added ++ r) (sym rest_is) ∙ kept.order;
    whole = λ open_end. ap (λ (past : List Entry). reserved_for_rows past (rows_of_lane k n left)) (sym (entries_after now after (reservation ∷ []) a.added reservation refl));
    full = λ began. not_full later after a.end_is;
  }
    where
      reservation : Entry
      reservation = reservation_for (reverse now.journal.entries) job counter

      past : List Entry
      past = reverse now.journal.entries

      later : List Entry
      later = reserved_for_rows (reservation ∷ past) (rows_of_lane k n left)

      rest_is : kept.rest ≡ reservation ∷ later
      rest_is = rest_at k n jobs left before now job counter of kept goes_on due

  -- a row of another lane
  other_in_order : (k n : ℕ) (jobs left : List Job) (before now : Lane) (job : Job) → job.keyset.card.0 % n ≢ k → IsInOrder k n jobs (job ∷ left) before now → IsInOrder k n jobs left before now
  other_in_order k n jobs left before now job differs kept = record {
    added = kept.added;
    rest = kept.rest;
    entries = kept.entries;
    order = kept.order;
    whole = λ goes_on. kept.whole goes_on ∙ ap (reserved_for_rows (reverse now.journal.entries)) (rows_there k n job left differs);
    full = kept.full;
  }

  module _ (jobs left : List Job) (befores lanes : List Lane) (old new : D) (at : ℕ) (after : Lane) (job : Job) (l : Lane)
      (same_lanes : length lanes ≡ length befores) (of_lane : job.keyset.card.0 % length befores ≡ at) (kept : AllInOrder jobs (job ∷ left) befores lanes) (step : IsRowStep told counts old new (get_or lanes at l) after job) where
    order_at : (k : ℕ) (before now : Lane) → k < length befores → (same : Bool) → eqb k at ≡ same → IsInOrder k (length befores) jobs left (get_or befores k before) (get_or (set lanes at after) k now)
    order_at k before now below true same =
        let is : k ≡ at = eqb-true k at same in
        let lane-is : get_or (set lanes at after) k now ≡ after = ap (λ (m : ℕ). get_or (set lanes m after) k now) (sym is) ∙ get_or-set_same lanes k after now (omega (arith, below, same_lanes)) in
        subst (IsInOrder k (length befores) jobs left (get_or befores k before)) (sym lane-is)
        (row_in_order k (length befores) jobs left (get_or befores k before) (get_or lanes k l) after old new job (of_lane ∙ sym is) (kept k before l below)
        (subst (λ (m : ℕ). IsRowStep told counts old new (get_or lanes m l) after job) (sym is) step))
    order_at k before now below false same =
        let other : k ≢ at = eqb-false k at same in
        subst (IsInOrder k (length befores) jobs left (get_or befores k before)) (sym (get_or-set_other lanes at k after now other))
        (other_in_order k (length befores) jobs left (get_or befores k before) (get_or lanes k now) job (λ of. other (sym of ∙ of_lane)) (kept k before now below))

    pub order_set : AllInOrder jobs left befores (set lanes at after)
    order_set k before now below = order_at k before now below (eqb k at) refl

-- before the first row
pub order_start : (jobs : List Job) (lanes : List Lane) → AllInOrder jobs jobs lanes lanes
order_start jobs lanes k before now below = subst (IsInOrder k (length lanes) jobs jobs (get_or lanes k before)) (get_or_default lanes k before now below) (record {
  added = [];
  rest = reserved_for_rows (reverse (get_or lanes k before).journal.entries) (rows_of_lane k (length lanes) jobs);
  entries = sym (append-nil (get_or lanes k before).journal.entries);
  order = refl;
  whole = λ goes_on. refl;
  full = λ began. not_full (reserved_for_rows (reverse (get_or lanes k before).journal.entries) (rows_of_lane k (length lanes) jobs)) (get_or lanes k before) began;
})
