-- What both parts of a session add, one behind the other, is the front of what is due.
use Rattle.std.proofs.Common.{◌≡◌, ◌≢◌, ℕ, ◌<◌, List, [], ◌++◌, length, reverse, get_or, Option, None, Some, refl, inl, inr, sym, ap, subst, ◌∙◌, append_assoc, arith}
use Rattle.std.proofs.lemmas.List.{append-nil, reverse-append}
use Rattle.disk_model.specs.Counts.{Counts}
use Rattle.disk_model.specs.Disk.{Meaning}
use Rattle.gate_log.specs.declared.log_errors.LogErr.{LogErr}
use Rattle.ota_core.specs.declared.entries.Entry.{Entry}
use Rattle.ota_core.specs.declared.jobs.Job.{Job}
use Rattle.plan_reader.specs.declared.plans.Plan.{Plan}
use Rattle.lane_session.specs.Run.{IsFullFor, IsPassed}
use Rattle.lane_session.specs.Lanes.{ArePassed}
use Rattle.lane_session.specs.Order.{IsFrontOf, rows_of_lane, reserved_for_rows, opens_for_rows, IsInOrder, AllInOrder, IsOpenedInOrder, AllOpenedInOrder, IsFrontOfDue, AreFrontsOfDue}
use Rattle.lane_session.specs.declared.lanes.Lane.{Lane}
use Rattle.lane_session.proofs.RowLaws.{not_both, full_for}

module _ (plan : Plan) (k n : ℕ) (jobs : List Job) (before mid now : Lane) (first : IsOpenedInOrder plan k n jobs [] before mid []) (second : IsInOrder k n jobs [] mid now) where
  abbrev past : List Entry
  past = reverse before.journal.entries

  abbrev rows : List Job
  rows = rows_of_lane k n jobs

  abbrev opens : List Entry
  opens = opens_for_rows plan past rows

  abbrev reservations : List Entry
  reservations = reserved_for_rows (reverse opens ++ past) rows

  -- the Opens went whole: the reservations stand behind them
  both : mid.end ≡ None → IsFrontOfDue plan k n jobs before now
  both goes_on = record {
    added = first.added ++ second.added;
    rest = second.rest;
    entries = second.entries ∙ ap (λ (e : List Entry). e ++ second.added) first.entries ∙ append_assoc before.journal.entries first.added second.added;
    order = append_assoc first.added second.added second.rest ∙ ap (λ (r : List Entry). first.added ++ r) (second.order ∙ ap (λ (p : List Entry). reserved_for_rows p rows) past_is)
        ∙ ap (λ (o : List Entry). o ++ reservations) all_opens;
    whole = second.whole;
    full = λ began. second.full goes_on;
  }
    where
      all_opens : first.added ≡ opens
      all_opens = sym (append-nil first.added) ∙ ap (λ (r : List Entry). first.added ++ r) (sym (first.whole goes_on)) ∙ first.order

      past_is : reverse mid.journal.entries ≡ reverse opens ++ past
      past_is = ap reverse first.entries ∙ reverse-append before.journal.entries first.added ∙ ap (λ (o : List Entry). reverse o ++ past) all_opens

  -- the lane stopped at its Opens
  opens_alone : (error : LogErr) → mid.end ≡ Some error → now ≡ mid → IsFrontOfDue plan k n jobs before now
  opens_alone error stopped same = record {
    added = first.added;
    rest = first.rest ++ reservations;
    entries = ap (λ (l : Lane). l.journal.entries) same ∙ first.entries;
    order = sym (append_assoc first.added first.rest reservations) ∙ ap (λ (o : List Entry). o ++ reservations) first.order;
    whole = λ goes_on. absurd (not_both error mid.end stopped (ap (λ (l : Lane). l.end) (sym same) ∙ goes_on));
    full = λ began. subst (λ (l : Lane). IsFullFor (IsFrontOf (first.rest ++ reservations)) l.journal l.end) (sym same)
        (full_for (IsFrontOf first.rest) (IsFrontOf (first.rest ++ reservations)) mid.journal mid.end longer (first.full began));
  }
    where
      longer : (next : List Entry) → IsFrontOf first.rest next → IsFrontOf (first.rest ++ reservations) next
      longer next (behind, is) = (behind ++ reservations, ap (λ (r : List Entry). r ++ reservations) is ∙ append_assoc next behind reservations)

  front_by : (end : Option LogErr) → mid.end ≡ end → (mid.end ≢ None → now ≡ mid) → IsFrontOfDue plan k n jobs before now
  front_by None is same = both is
  front_by (Some error) is same = opens_alone error is (same (λ none. not_both error mid.end is none))

-- so it is on each lane
pub fronts : {D B C : Type 0} (told : Meaning D B C) (counts : D → Counts) (plan : Plan) (jobs : List Job) (mids news : List D) (befores middles lanes : List Lane) → length middles ≡ length befores → (s : D)
    → AllOpenedInOrder plan jobs befores middles → AllInOrder jobs [] middles lanes → ArePassed told counts plan jobs mids middles news lanes → AreFrontsOfDue plan jobs befores lanes
fronts told counts plan jobs mids news befores middles lanes same_lanes s opened reserved passed k before now below =
    let within : k < length middles = omega (arith, below, same_lanes) in
    front_by plan k (length befores) jobs (get_or befores k before) (get_or middles k before) (get_or lanes k now) (opened k before before below)
    (subst (λ (n : ℕ). IsInOrder k n jobs [] (get_or middles k before) (get_or lanes k now)) same_lanes (reserved k before now within)) (get_or middles k before).end refl
    (still (passed.each k s s before now within))
  where
    still : IsPassed told counts plan jobs k (length middles) (get_or mids k s) (get_or middles k before) (get_or news k s) (get_or lanes k now) → (get_or middles k before).end ≢ None → get_or lanes k now ≡ get_or middles k before
    still (inl same) ended = same.2
    still (inr run) ended = absurd (ended run.0)
