-- What the work leaves of a lane: what was added while it was shared, and then by its one sender.
use Rattle.std.proofs.Common.{◌≡◌, inl, inr, ℕ, ◌≤◌, true, Option, Some, None, List, [], ◌∷◌, ◌++◌, refl, sym, ◌∙◌, ap, subst, arith, append-nil, append_assoc, ⊎_elim}
use Rattle.disk_model.specs.Counts.{Counts}
use Rattle.disk_model.specs.Disk.{Meaning}
use Rattle.ota_core.specs.Entry.{by_of}
use Rattle.ota_core.specs.declared.entries.Entry.{Entry}
use Rattle.ota_core.specs.declared.jobs.JobId.{JobId}
use Rattle.site_model.specs.Port.{PortState}
use Rattle.world_core.specs.declared.lines.Line.{Line}
use Rattle.lane_lock.specs.declared.views.Key.{Key}
use Rattle.lane_lock.specs.declared.views.Part.{Part}
use Rattle.lane_lock.specs.Numbers.{total, Each, IsIn}
use Rattle.lane_lock.specs.Views.{weigh_parts}
use Rattle.lane_lock.specs.Grown.{IsGrown, IsAsHeavy, IsNumber}
use Rattle.lane_lock.proofs.Sights.{behind_from}
use Rattle.lane_lock.proofs.Counting.{Each_append, Each_map, total_append}
use Rattle.lane_engine.specs.Adding.{is_settlement}
use Rattle.lane_engine.specs.Ends.{IsFounded}
use Rattle.lane_engine.specs.Keeping.{IsAtHome, lane_meaning}
use Rattle.lane_engine.specs.KeepingLaws.{later_chain}
use Rattle.lane_engine.specs.LaneValue.{LaneValue}
use Rattle.lane_engine.specs.Reserving.{JobsDiffer}
use Rattle.lane_engine.specs.declared.answers.LaneErr.{LaneErr}
use Rattle.senders.specs.Alone.{IsWorkedAlone, sender_of}
use Rattle.senders.specs.Desks.{LaneView, IsKnown}
use Rattle.senders.specs.Pieces.{IsPiece, MayBeWorked, all_jobs, jobs_at}
use Rattle.senders.specs.Served.{IsMadeFor, weigh_entry, with_lost}
use Rattle.senders.specs.Worked.{IsNeedLeft, IsShared, IsUntouched, IsWorked, times_reserved}
use Rattle.senders.specs.declared.pieces.Work.{Work}
use Rattle.senders.specs.declared.settings.Settings.{Settings}
use Rattle.senders.proofs.ClosingLemmas.{Added, made, once, each_once, need_left, times_weigh}
use Rattle.senders.proofs.RefusalLemmas.{of_job}
use Rattle.senders.proofs.ServingLemmas.{settling_made, settling_weigh}

some_none : {A : Type 0} (x : A) → Some x ≡ None → ⊥
some_none x e = cc

-- ---- while it was shared

module _ {D B C : Type 0} (told : Meaning D B C) (counts : D → Counts) (port : B → PortState) (lines : C → ℕ → List Line) (key : Key (LaneValue D))
    (batch senders lanes place : ℕ) (works taken undone : List Work) (v : LaneView D) (lane : LaneValue D)
    (grown : IsGrown (lane_meaning told counts port lines) key v lane) (heavy : IsAsHeavy (lane_meaning told counts port lines) key v lane)
    (known : IsKnown place key.put.value taken undone v) (among : (work : Work) → IsIn work undone → IsIn work taken) (given : Each (λ work. IsIn work works) taken)
    (whole : (h : Work → ℕ) → total h works ≡ total h taken) (may : MayBeWorked told counts port lines batch lanes works place key.put.value)
    (pieces : Each (IsPiece batch lanes) works) (differ : JobsDiffer (all_jobs works)) (paced : key.pace ≡ batch) (seated : key.seats ≡ senders) where
  pub shared_of : IsShared told counts port lines batch senders works place key.put.value lane
  shared_of = record {
    later = grown.later;
    at_home = subst (λ (n : ℕ). IsAtHome told counts port lines n lane) paced grown.at_home;
    kept_end = grown.kept;
    added = Added told counts port lines key lane;
    entries = grown.entries;
    by_senders = Each_map (λ entry. IsNumber key (by_of entry)) (λ entry. (1 ≤ by_of entry) × (by_of entry ≤ senders)) (Added told counts port lines key lane)
        (λ entry number. (number.0, subst (λ (n : ℕ). by_of entry ≤ n) seated number.1)) grown.seats;
    made = made told counts port lines key batch lanes place works taken undone v lane grown heavy known among given whole may pieces differ;
    once = once told counts port lines key batch lanes place works taken undone v lane grown heavy known among given whole may pieces differ;
    each = each_once told counts port lines key batch lanes place works taken undone v lane grown heavy known among given whole may pieces differ;
    need = need_left told counts port lines key batch lanes place works taken undone v lane grown heavy known among given whole may pieces differ;
  }

-- ---- and then with one sender

module _ {D B C : Type 0} (told : Meaning D B C) (counts : D → Counts) (port : B → PortState) (lines : C → ℕ → List Line) (settings : Settings) (place : ℕ) (works : List Work)
    (watch : List (ℕ × JobId)) (old shared new : LaneValue D) (first : IsShared told counts port lines settings.batch settings.senders works place old shared)
    (some_senders : 1 ≤ settings.senders) (alone : IsWorkedAlone told counts port lines settings place watch shared new) where
  abbrev then_added : List Entry
  then_added = alone.all.added

  settles : Each (λ entry. is_settlement entry ≡ true) then_added
  settles = Each_map (λ entry. (is_settlement entry ≡ true) × (by_of entry ≡ sender_of settings.senders place)) (λ entry. is_settlement entry ≡ true) then_added (λ entry both. both.0) alone.all.settle

  -- what was settled is no reservation
  times_first : (id : JobId) → times_reserved id (first.added ++ then_added) ≡ times_reserved id first.added
  times_first id =
      let a = times_weigh id (first.added ++ then_added) in
      let b = times_weigh id first.added in
      let c = total_append (weigh_entry (of_job id)) first.added then_added in
      let d = settling_weigh (of_job id) then_added settles in
      omega (arith, a, b, c, d)

  by_end : {P : Type 0} → (shared.end ≡ None → P) → ((end : LaneErr) → shared.end ≡ Some end → P) → P
  by_end {P = P} without with_end = cases shared.end refl
    where
      cases : (o : Option LaneErr) → shared.end ≡ o → P
      cases None is = without is
      cases (Some end) is = with_end end is

  no_end_before : new.end ≡ None → shared.end ≡ None
  no_end_before none = by_end (λ is. is) (λ end is. absurd (some_none end (sym is ∙ (ap (λ (l : LaneValue D). l.end) (sym (alone.ended end is)) ∙ none))))

  last_number : sender_of settings.senders place ≤ settings.senders
  last_number = let below = Rattle.std.proofs.Math.Nat.mod-lt place {m = settings.senders} (omega (arith, some_senders)) in omega (arith, below)

  pub worked : IsWorked told counts port lines settings works watch place old new
  worked = record {
    later = later_chain told counts port lines old shared new first.later alone.later;
    founded = λ end q. by_end
        (λ none. alone.founded end none q)
        (λ other is. subst (λ (l : LaneValue D). IsFounded counts l.opened.counts l end) (sym (alone.ended other is))
        (first.at_home.founded end (ap (λ (l : LaneValue D). l.end) (sym (alone.ended other is)) ∙ q)));
    kept_end = λ end q. ap (λ (l : LaneValue D). l.end) (alone.ended end (first.kept_end end q)) ∙ first.kept_end end q;
    live = alone.live;
    whole = alone.whole;
    added = first.added ++ then_added;
    entries = alone.all.entries ∙ (ap (λ (l : List Entry). l ++ then_added) first.entries ∙ append_assoc (with_lost old) first.added then_added);
    senders = Each_append (λ entry. (1 ≤ by_of entry) × (by_of entry ≤ settings.senders)) first.added then_added first.by_senders
        (Each_map (λ entry. (is_settlement entry ≡ true) × (by_of entry ≡ sender_of settings.senders place)) (λ entry. (1 ≤ by_of entry) × (by_of entry ≤ settings.senders)) then_added
        (λ entry both. let is = both.1 in let most = last_number in (omega (arith, is), omega (arith, is, most))) alone.all.settle);
    made = Each_append (IsMadeFor old.name (jobs_at place works)) first.added then_added first.made (settling_made old.name (jobs_at place works) then_added settles);
    once = λ id. let a = times_first id in let b = first.once id in omega (arith, a, b);
    each = λ none job there. times_first job.id ∙ first.each (no_end_before none) job there;
    need = λ len need q none. by_end
        (λ no_end. inl (alone.need len need no_end q))
        (λ other is. longer need (first.need len need (ap (λ (l : LaneValue D). l.end) (sym (alone.ended other is)) ∙ q) none));
    course = record { shared = shared; before = first.later; at_home = first.at_home; alone = alone };
  }
    where
      longer : (need : ℕ) → IsNeedLeft place works old.name first.added need → IsNeedLeft place works old.name (first.added ++ then_added) need
      longer need (inl longest) = inl longest
      longer need (inr (work, there, at, need_of, none)) = inr (work, there, at, need_of, λ job here. times_first job.id ∙ none job here)

-- where nothing was lost before, what was added is what came to the history, and behind it what was lost
pub added_apart : {D B C : Type 0} (told : Meaning D B C) (counts : D → Counts) (port : B → PortState) (lines : C → ℕ → List Line) (settings : Settings) (works : List Work) (watch : List (ℕ × JobId))
    (place : ℕ) (old new : LaneValue D) (worked : IsWorked told counts port lines settings works watch place old new) → old.lost ≡ []
    → (more : List Entry) × (new.journal.entries ≡ old.journal.entries ++ more) × (more ++ new.lost ≡ worked.added)
added_apart told counts port lines settings works watch place old new worked none =
    let more = worked.later.later.entries.0 in
    let longer = worked.later.later.entries.1 in
    let front = old.journal.entries in (
      more,
      longer,
      sym (behind_from front (with_lost new) (more ++ new.lost) (ap (λ (l : List Entry). l ++ new.lost) longer ∙ append_assoc front more new.lost))
          ∙ behind_from front (with_lost new) worked.added
          (worked.entries ∙ ap (λ (l : List Entry). l ++ worked.added) (ap (λ (l : List Entry). front ++ l) none ∙ append-nil front)),
    )

-- ---- a lane on which nothing was done

module _ {D B C : Type 0} (told : Meaning D B C) (counts : D → Counts) (port : B → PortState) (lines : C → ℕ → List Line) (key : Key (LaneValue D)) (batch place : ℕ) (undone : List Work)
    (v : LaneView D) (lane : LaneValue D) (grown : IsGrown (lane_meaning told counts port lines) key v lane) (heavy : IsAsHeavy (lane_meaning told counts port lines) key v lane)
    (known : IsKnown place key.put.value [] undone v) (paced : key.pace ≡ batch) where
  empty_weighs : (parts : List (Part Entry)) → Each (λ p. p.added ≡ []) parts → weigh_parts (λ (e : Entry). 1) parts ≡ 0
  empty_weighs [] all = refl
  empty_weighs (p ∷ ps) all = let a = ap (total (λ (e : Entry). 1)) all.0 in let b = empty_weighs ps all.1 in omega (arith, a, b)

  none_there : (entries : List Entry) → total (λ (e : Entry). 1) entries ≡ 0 → entries ≡ []
  none_there [] none = refl
  none_there (e ∷ es) none = absurd (omega (arith, none))

  pub untouched : IsUntouched told counts port lines batch place key.put.value lane
  untouched = record {
    later = grown.later;
    at_home = subst (λ (n : ℕ). IsAtHome told counts port lines n lane) paced grown.at_home;
    entries = grown.entries ∙ (ap (λ (l : List Entry). with_lost key.put.value ++ l) nothing ∙ append-nil (with_lost key.put.value));
    end = by_end key.put.value.end lane.end refl refl;
  }
    where
      nothing : Added told counts port lines key lane ≡ []
      nothing = none_there (Added told counts port lines key lane) (heavy (λ (e : Entry). 1) ∙ empty_weighs v.parts (known.idle refl).0)

      by_end : (before now : Option LaneErr) → key.put.value.end ≡ before → lane.end ≡ now → lane.end ≡ key.put.value.end
      by_end (Some x) now was is = grown.kept x was ∙ sym was
      by_end None None was is = is ∙ sym was
      by_end None (Some x) was is = absurd (⊎_elim (λ old. some_none x (sym old ∙ was)) (λ set. subst (IsIn x) (known.idle refl).1 set) (grown.set x is))
