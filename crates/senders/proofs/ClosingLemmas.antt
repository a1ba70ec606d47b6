-- What is known of a lane once all senders have joined their seats, all pieces were taken, and its lock is closed.
use Rattle.std.proofs.Common.{◌≡◌, inl, inr, ℕ, suc, ◌+◌, ◌<◌, ◌≤◌, ◌==◌, cond, Bool, true, false, Option, Some, None, List, [], ◌∷◌, ◌++◌, length, reverse, filter, refl, sym, ◌∙◌, ap, subst, arith, append-nil, append_assoc, ⊎_elim, eq-eqb}
use Rattle.std.proofs.lemmas.Bool.Decides.{nat_tests}
use Rattle.std.proofs.lemmas.List.{reverse-append}
use mathlib.Core.Logic.{dite}
use native.Mathlib.Decide.{ℕ_discrete}
use Rattle.disk_model.specs.Counts.{Counts}
use Rattle.disk_model.specs.Disk.{Meaning}
use Rattle.ota_core.specs.Entry.{by_of}
use Rattle.ota_core.specs.History.{IsLegalPast}
use Rattle.ota_core.specs.Job.{is_same_job}
use Rattle.ota_core.specs.declared.entries.Entry.{Entry}
use Rattle.ota_core.specs.declared.entries.Entry.TheVariants.{Open, Reserve, Done, Refused, Close}
use Rattle.ota_core.specs.declared.jobs.Job.{Job}
use Rattle.ota_core.specs.declared.jobs.JobId.{JobId}
use Rattle.site_model.specs.Port.{PortState}
use Rattle.world_core.specs.declared.lines.Line.{Line}
use Rattle.lane_lock.specs.declared.views.Key.{Key}
use Rattle.lane_lock.specs.declared.views.Part.{Part}
use Rattle.lane_lock.specs.Numbers.{total, Each, IsIn, behind}
use Rattle.lane_lock.specs.Meaning.{own}
use Rattle.lane_lock.specs.Views.{numbered}
use Rattle.lane_lock.specs.Grown.{IsGrown, IsAsHeavy, IsNumber, added_since}
use Rattle.lane_lock.proofs.Counting.{same_found, total_append, Each_map, within_here}
use Rattle.lane_lock.proofs.Sights.{behind_from}
use Rattle.lane_engine.specs.Keeping.{lane_meaning}
use Rattle.lane_engine.specs.LaneValue.{LaneValue}
use Rattle.lane_engine.specs.Reserving.{AreOthers, JobsDiffer}
use Rattle.lane_engine.specs.declared.answers.LaneErr.{LaneErr}
use Rattle.lane_engine.specs.declared.answers.LaneErr.TheVariants as lane_err
use Rattle.senders.specs.Pieces.{IsPiece, MayReserve, MayBeWorked, all_jobs, jobs_at}
use Rattle.senders.specs.Served.{weigh_entry, with_lost, IsMadeFor}
use Rattle.senders.specs.Desks.{weigh_at, LaneView, WasRefused, IsKnown}
use Rattle.senders.specs.Worked.{IsNeedLeft, reserves_job, times_reserved}
use Rattle.senders.specs.declared.pieces.Work.{Work}
use Rattle.senders.proofs.KnownLemmas.{in_left, in_right, in_either, jobs_here, made_all_among}
use Rattle.senders.proofs.RefusalLemmas.{of_job, still_ready, ready_unrefused}

module _ {A : Type 0} where
  pub each_in : (P : A → Type 0) (x : A) (xs : List A) → Each P xs → IsIn x xs → P x
  each_in P x [] all there = absurd there
  each_in P x (y ∷ ys) all (inl e) = subst P e all.0
  each_in P x (y ∷ ys) all (inr there) = each_in P x ys all.1 there

  pub each_from : (P : A → Type 0) (xs : List A) → ((x : A) → IsIn x xs → P x) → Each P xs
  each_from P [] all = tt
  each_from P (x ∷ xs) all = (all x (inl refl), each_from P xs (λ y there. all y (inr there)))

  in_filter : (test : A → Bool) (x : A) (xs : List A) → IsIn x xs → test x ≡ true → IsIn x (filter test xs)
  in_filter test x [] there passes = absurd there
  in_filter test x (y ∷ ys) (inl e) passes =
      subst (λ (b : Bool). IsIn x (cond b (y ∷ filter test ys) (filter test ys))) (sym (ap test e ∙ passes)) (inl e)
  in_filter test x (y ∷ ys) (inr there) passes = by_test (test y) (in_filter test x ys there passes)
    where
      by_test : (b : Bool) → IsIn x (filter test ys) → IsIn x (cond b (y ∷ filter test ys) (filter test ys))
      by_test true rest = inr rest
      by_test false rest = rest

  total_in : (f : A → ℕ) (x : A) (xs : List A) → IsIn x xs → f x ≤ total f xs
  total_in f x [] there = absurd there
  total_in f x (y ∷ ys) (inl e) = let is = ap f e in omega (arith, is)
  total_in f x (y ∷ ys) (inr there) = let rest = total_in f x ys there in omega (arith, rest)

  total_most : (f g : A → ℕ) (xs : List A) → ((x : A) → f x ≤ g x) → total f xs ≤ total g xs
  total_most f g [] le = omega arith
  total_most f g (x ∷ xs) le = let first = le x in let rest = total_most f g xs le in omega (arith, first, rest)

-- ---- jobs of pieces

-- pieces weigh at a lane what their jobs there weigh
weigh_jobs : (place : ℕ) (h : Job → ℕ) (works : List Work) → total (weigh_at place h) works ≡ total h (jobs_at place works)
weigh_jobs place h [] = refl
weigh_jobs place h (work ∷ works) = by_test (work.lane == place) (weigh_jobs place h works)
  where
    by_test : (b : Bool) → total (weigh_at place h) works ≡ total h (jobs_at place works)
        → cond b (total h work.jobs) 0 + total (weigh_at place h) works ≡ total h (cond b work.jobs [] ++ jobs_at place works)
    by_test true rest = let a = total_append h work.jobs (jobs_at place works) in omega (arith, a, rest)
    by_test false rest = omega (arith, rest)

weigh_all : (place : ℕ) (h : Job → ℕ) (works : List Work) → total h (jobs_at place works) ≤ total h (all_jobs works)
weigh_all place h [] = omega arith
weigh_all place h (work ∷ works) = by_test (work.lane == place) (weigh_all place h works)
  where
    by_test : (b : Bool) → total h (jobs_at place works) ≤ total h (all_jobs works) → total h (cond b work.jobs [] ++ jobs_at place works) ≤ total h (work.jobs ++ all_jobs works)
    by_test true rest = let a = total_append h work.jobs (jobs_at place works) in let b = total_append h work.jobs (all_jobs works) in omega (arith, a, b, rest)
    by_test false rest = let b = total_append h work.jobs (all_jobs works) in omega (arith, b, rest)

-- a job of a lane's pieces is one of a piece
jobs_from : (place : ℕ) (works : List Work) (job : Job) → IsIn job (jobs_at place works) → (work : Work) × IsIn work works × (work.lane ≡ place) × IsIn job work.jobs
jobs_from place [] job there = absurd there
jobs_from place (work ∷ works) job there = by_test (work.lane == place) refl there (λ rest. jobs_from place works job rest)
  where
    by_test : (b : Bool) → (work.lane == place) ≡ b → IsIn job (cond b work.jobs [] ++ jobs_at place works)
        → (IsIn job (jobs_at place works) → (other : Work) × IsIn other works × (other.lane ≡ place) × IsIn job other.jobs)
        → (other : Work) × IsIn other (work ∷ works) × (other.lane ≡ place) × IsIn job other.jobs
    by_test true is own later =
        ⊎_elim (λ here. (work, inl refl, grind (arith, nat_tests, is), here)) (λ rest. let r = later rest in (r.0, inr r.1, r.2, r.3)) (in_either job work.jobs (jobs_at place works) own)
    by_test false is rest later = let r = later rest in (r.0, inr r.1, r.2, r.3)

-- jobs with different numbers: each number stands once at most
others_none : (id : JobId) (jobs : List Job) → AreOthers id jobs → total (of_job id) jobs ≡ 0
others_none id [] others = refl
others_none id (job ∷ jobs) others =
    let first = ap {B = ℕ} (λ (b : Bool). cond b 1 0) others.0 in let rest = others_none id jobs others.1 in omega (arith, first, rest)

others_as : (a b : JobId) (jobs : List Job) → is_same_job a b ≡ true → AreOthers a jobs → AreOthers b jobs
others_as a b jobs is others = subst (λ (id : JobId). AreOthers id jobs) (Rattle.ota_core.specs.HistoryLaws.is_same_job-true a b is) others

pub differ_once : (id : JobId) (jobs : List Job) → JobsDiffer jobs → total (of_job id) jobs ≤ 1
differ_once id [] differ = omega arith
differ_once id (job ∷ jobs) differ = by_test (is_same_job job.id id) refl (differ_once id jobs differ.1)
  where
    by_test : (b : Bool) → is_same_job job.id id ≡ b → total (of_job id) jobs ≤ 1 → cond (is_same_job job.id id) 1 0 + total (of_job id) jobs ≤ 1
    by_test true is rest =
        let one = ap {B = ℕ} (λ (t : Bool). cond t 1 0) is in let none = others_none id jobs (others_as job.id id jobs is differ.0) in omega (arith, one, none)
    by_test false is rest = let zero = ap {B = ℕ} (λ (t : Bool). cond t 1 0) is in omega (arith, zero, rest)

-- ---- how often a job is reserved

pub times_weigh : (id : JobId) (entries : List Entry) → times_reserved id entries ≡ total (weigh_entry (of_job id)) entries
times_weigh id [] = refl
times_weigh id (Open by moment keyset facts ∷ entries) = let rest = times_weigh id entries in omega (arith, rest)
times_weigh id (Reserve by moment keyset counter job tar name body ∷ entries) = by_test (is_same_job job id) (times_weigh id entries)
  where
    by_test : (b : Bool) → times_reserved id entries ≡ total (weigh_entry (of_job id)) entries
        → length (cond b (Reserve by moment keyset counter job tar name body ∷ filter (reserves_job id) entries) (filter (reserves_job id) entries)) ≡ cond b 1 0 + total (weigh_entry (of_job id)) entries
    by_test true rest = omega (arith, rest)
    by_test false rest = omega (arith, rest)
times_weigh id (Done by moment keyset counter answer ∷ entries) = let rest = times_weigh id entries in omega (arith, rest)
times_weigh id (Refused by moment keyset counter status ∷ entries) = let rest = times_weigh id entries in omega (arith, rest)
times_weigh id (Close by moment keyset ∷ entries) = let rest = times_weigh id entries in omega (arith, rest)

total_reverse : (f : Entry → ℕ) (entries : List Entry) → total f (reverse entries) ≡ total f entries
total_reverse f [] = refl
total_reverse f (entry ∷ entries) =
    let a = ap (total f) (reverse-append (entry ∷ []) entries) in
    let b = total_append f (reverse entries) (entry ∷ []) in
    let c = total_reverse f entries in
    omega (arith, a, b, c)

each_reverse : (P : Entry → Type 0) (entries : List Entry) → Each P entries → Each P (reverse entries)
each_reverse P [] all = tt
each_reverse P (entry ∷ entries) all =
    subst (Each P) (sym (reverse-append (entry ∷ []) entries))
    (Rattle.lane_lock.proofs.Counting.Each_append P (reverse entries) (entry ∷ []) (each_reverse P entries all.1) (all.0, tt))

module _ {D B C : Type 0} (told : Meaning D B C) (counts : D → Counts) (port : B → PortState) (lines : C → ℕ → List Line) (key : Key (LaneValue D)) where
  abbrev pub Added : LaneValue D → List Entry
  Added lane = added_since (lane_meaning told counts port lines) key (with_lost lane)

  -- each entry that was added stands in the list of its number
  from_parts : (P : Entry → Type 0) (added : List Entry) (parts : List (Part Entry)) (entry : Entry) → IsIn entry added → 0 < numbered (by_of entry) parts
      → Each (λ (p : Part Entry). p.added ≡ own (lane_meaning told counts port lines) p.number added) parts → Each (λ (p : Part Entry). Each P p.added) parts → P entry
  from_parts P added [] entry there some lists all = absurd (omega arith)
  from_parts P added (p ∷ ps) entry there some lists all = dite (ℕ_discrete (by_of entry) p.number)
      (λ e. each_in P entry p.added all.0 (subst (IsIn entry) (sym lists.0) (in_filter (λ x. by_of x == p.number) entry added there (eq-eqb (by_of entry) p.number e))))
      (λ ne. let none = Rattle.lane_lock.proofs.Counting.same_apart (by_of entry) p.number ne in from_parts P added ps entry there (omega (arith, some, none)) lists.1 all.1)

  module _ (batch lanes place : ℕ) (works taken undone : List Work) (v : LaneView D) (lane : LaneValue D)
      (grown : IsGrown (lane_meaning told counts port lines) key v lane) (heavy : IsAsHeavy (lane_meaning told counts port lines) key v lane)
      (known : IsKnown place key.put.value taken undone v) (among : (work : Work) → IsIn work undone → IsIn work taken) (given : Each (λ work. IsIn work works) taken)
      (whole : (h : Work → ℕ) → total h works ≡ total h taken) (may : MayBeWorked told counts port lines batch lanes works place key.put.value)
      (pieces : Each (IsPiece batch lanes) works) (differ : JobsDiffer (all_jobs works)) where
    abbrev added : List Entry
    added = Added lane

    in_works : (work : Work) → IsIn work undone → IsIn work works
    in_works work there = each_in (λ w. IsIn w works) work taken given (among work there)

    -- what was added, and what wasn't served, weighs what the pieces of the lane weigh
    balance : (h : Job → ℕ) → total (weigh_entry h) added + total (weigh_at place h) undone ≡ total h (jobs_at place works)
    balance h =
        let a = heavy (weigh_entry h) in
        let b = known.weighs h in
        let c = whole (weigh_at place h) in
        let d = weigh_jobs place h works in
        omega (arith, a, b, c, d)

    -- a piece that wasn't served weighs beside what was added
    beside : (h : Job → ℕ) (work : Work) → IsIn work undone → work.lane ≡ place → total (weigh_entry h) added + total h work.jobs ≤ total h (jobs_at place works)
    beside h work there at =
        let a = balance h in
        let b = total_in (weigh_at place h) work undone there in
        let c = ap {B = ℕ} (λ (t : Bool). cond t (total h work.jobs) 0) (eq-eqb work.lane place at) in
        omega (arith, a, b, c)

    pub made : Each (IsMadeFor key.put.value.name (jobs_at place works)) added
    made = each_from (IsMadeFor key.put.value.name (jobs_at place works)) added (λ entry there.
        let number = each_in (λ e. IsNumber key (by_of e)) entry added grown.seats there in
        let low = number.0 in
        let high = number.1 in
        let one = grown.numbers (by_of entry) ∙ within_here 1 (suc key.seats) (by_of entry) low (omega (arith, high)) in
        from_parts (IsMadeFor key.put.value.name (jobs_at place works)) added v.parts entry there (omega (arith, one)) grown.parts
        (Each_map (λ (p : Part Entry). Each (IsMadeFor key.put.value.name (jobs_at place taken)) p.added) (λ (p : Part Entry). Each (IsMadeFor key.put.value.name (jobs_at place works)) p.added) v.parts
        (λ p all. made_all_among key.put.value.name (jobs_at place taken) (jobs_at place works)
        (λ job here. let w = jobs_from place taken job here in jobs_here place w.0 works (each_in (λ x. IsIn x works) w.0 taken given w.1) w.2 job w.3) p.added all) known.made))

    -- no piece was refused
    pub none_refused : (work : Work) → IsIn work undone → work.lane ≡ place → WasRefused key.put.value v work → ⊥
    none_refused work there at was = clash (sym unrefused ∙ was.refused.3)
      where
        clash : {e : LaneErr} → None ≡ Some e → ⊥
        clash h = cc

        front : List Entry
        front = with_lost key.put.value

        early : List Entry
        early = behind front was.seen

        late : List Entry
        late = behind was.seen (with_lost lane)

        -- what was seen, and what came after it
        splits : added ≡ early ++ late
        splits =
            behind_from front (with_lost lane) (early ++ late)
            (ends ∙ ap (λ (l : List Entry). l ++ late) was.since ∙ append_assoc front early late)
          where
            ends : with_lost lane ≡ was.seen ++ late
            ends = Rattle.lane_lock.proofs.Sights.begins_chain was.seen v.seen.entries (with_lost lane) was.before grown.seen

        less : (h : Job → ℕ) → total (weigh_entry h) (reverse early) + total h work.jobs ≤ total h (jobs_at place works)
        less h =
            let a = beside h work there at in
            let b = ap (total (weigh_entry h)) splits ∙ total_append (weigh_entry h) early late in
            let c = total_reverse (weigh_entry h) early in
            omega (arith, a, b, c)

        early_made : Each (IsMadeFor key.put.value.name (jobs_at place works)) early
        early_made = first_each early late (subst (Each (IsMadeFor key.put.value.name (jobs_at place works))) splits made)
          where
            first_each : (xs ys : List Entry) → Each (IsMadeFor key.put.value.name (jobs_at place works)) (xs ++ ys) → Each (IsMadeFor key.put.value.name (jobs_at place works)) xs
            first_each [] ys all = tt
            first_each (x ∷ xs) ys all = (all.0, first_each xs ys all.1)

        turned : reverse was.seen ≡ reverse early ++ reverse front
        turned = ap reverse was.since ∙ reverse-append front early

        may_now : MayReserve (reverse front) (jobs_at place works)
        may_now = by_end key.put.value.end refl
          where
            by_end : (end : Option LaneErr) → key.put.value.end ≡ end → MayReserve (reverse front) (jobs_at place works)
            by_end None is =
                subst (λ (l : List Entry). MayReserve (reverse l) (jobs_at place works))
                (sym (ap (λ (l : List Entry). key.put.value.journal.entries ++ l) (may.whole is) ∙ append-nil key.put.value.journal.entries)) may.may
            by_end (Some end) is = subst (λ (jobs : List Job). MayReserve (reverse front) jobs) (sym (may.ended end is)) (record {
              in_use = λ job there'. absurd there';
              free = λ job there'. absurd there';
              counters = λ job there'. absurd there';
            })

        piece : IsPiece batch lanes work
        piece = each_in (IsPiece batch lanes) work works pieces (in_works work there)

        unrefused : Rattle.lane_engine.specs.Reserving.jobs_refusal was.refused.0 was.refused.1 was.refused.2 (reverse was.seen) work.jobs ≡ None
        unrefused =
            ap (λ (l : List Entry). Rattle.lane_engine.specs.Reserving.jobs_refusal was.refused.0 was.refused.1 was.refused.2 l work.jobs) turned
            ∙ ready_unrefused was.refused.0 was.refused.1 was.refused.2 (reverse early ++ reverse front) work.jobs
            (still_ready key.put.value.name (jobs_at place works) work.jobs (reverse early) (reverse front) may_now piece.differ
            (λ job here. jobs_here place work works (in_works work there) at job here) less
            (λ id. let a = differ_once id (all_jobs works) differ in let b = weigh_all place (of_job id) works in omega (arith, a, b))
            (each_reverse (IsMadeFor key.put.value.name (jobs_at place works)) early early_made)
            (subst IsLegalPast turned was.legal))

    -- each job was reserved once at most
    pub once : (id : JobId) → times_reserved id added ≤ 1
    once id =
        let a = times_weigh id added in
        let b = balance (of_job id) in
        let c = weigh_all place (of_job id) works in
        let d = differ_once id (all_jobs works) differ in
        omega (arith, a, b, c, d)

    -- a piece that wasn't served ended the lane, so where it has no end all were
    pub all_served : lane.end ≡ None → (h : Job → ℕ) → total (weigh_entry h) added ≡ total h (jobs_at place works)
    all_served no_end h = let a = balance h in let b = none_left undone (λ work there. there) in omega (arith, a, b)
      where
        clash : (x : LaneErr) → None ≡ Some x → ⊥
        clash x e = cc

        done_or : (work : Work) → IsIn work undone → work.lane ≡ place → ⊥
        done_or work there at = ⊎_elim (λ ended. clash ended.0 (sym no_end ∙ grown.found ended.0 ended.1)) (λ was. none_refused work there at was) (known.reasons work there at)

        none_left : (rest : List Work) → ((work : Work) → IsIn work rest → IsIn work undone) → total (weigh_at place h) rest ≡ 0
        none_left [] within' = refl
        none_left (work ∷ rest) within' = dite (ℕ_discrete work.lane place)
            (λ at. absurd (done_or work (within' work (inl refl)) at))
            (λ apart. let a = Rattle.senders.proofs.KnownLemmas.weigh_elsewhere place h work apart in let b = none_left rest (λ w there. within' w (inr there)) in omega (arith, a, b))

    pub each_once : lane.end ≡ None → (job : Job) → IsIn job (jobs_at place works) → times_reserved job.id added ≡ 1
    each_once no_end job there =
        let a = times_weigh job.id added in
        let b = all_served no_end (of_job job.id) in
        let c = total_in (of_job job.id) job (jobs_at place works) there in
        let d = ap {B = ℕ} (λ (t : Bool). cond t 1 0) (Rattle.ota_core.specs.HistoryLaws.is_same_job-refl job.id) in
        let e = once job.id in
        omega (arith, a, b, c, d, e)

    -- the need of want of room that was set
    pub need_left : (len need : ℕ) → lane.end ≡ Some (lane_err.Full len need) → key.put.value.end ≡ None → IsNeedLeft place works key.put.value.name added need
    need_left len need is none = ⊎_elim
        (λ old. absurd (clash (lane_err.Full len need) (sym none ∙ old)))
        (λ set. ⊎_elim (λ longest. inl longest)
        (λ w. inr (
          w.0,
          in_works w.0 w.1,
          w.2,
          w.3,
          λ job here.
              let a = times_weigh job.id added in
              let b = beside (of_job job.id) w.0 w.1 w.2 in
              let c = weigh_all place (of_job job.id) works in
              let d = differ_once job.id (all_jobs works) differ in
              let e = total_in (of_job job.id) job w.0.jobs here in
              let f = ap {B = ℕ} (λ (t : Bool). cond t 1 0) (Rattle.ota_core.specs.HistoryLaws.is_same_job-refl job.id) in
              omega (arith, a, b, c, d, e, f),
        ))
        (each_in (Rattle.senders.specs.Desks.IsSetFor place key.put.value.name undone) (lane_err.Full len need) v.ends known.ends set len need refl))
        (grown.set (lane_err.Full len need) is)
      where
        clash : (x : LaneErr) → None ≡ Some x → ⊥
        clash x e = cc
