-- The history of a lane that grew by reservations of other jobs and by settlements refuses no piece that may be reserved.
use Rattle.std.proofs.Common.{◌≡◌, inl, inr, ℕ, ◌+◌, ◌≤◌, ◌||◌, nat_le, cond, if◌then◌else◌, Bool, true, false, Option, Some, None, unwrap_or, List, [], ◌∷◌, ◌++◌, refl, sym, ◌∙◌, ap, subst, arith}
use Rattle.std.proofs.lemmas.Bool.Decides.{nat_tests}
use Rattle.std.proofs.lemmas.List.Sums.{sum_by-cons}
use Rattle.std.specs.Option.{option_or}
use Rattle.std.specs.List.{count_by, list_any}
use Rattle.ota_core.specs.Entry.{Reservation, is_open_of, is_close_of, is_refusal_of, counter_in, reservation_in}
use Rattle.ota_core.specs.History.{IsLegalPast, first_some, last_reservation, next_counter, LAST_COUNTER}
use Rattle.ota_core.specs.HistoryLaws.{both_hold, is_same_keyset-true, is_same_keyset-refl, is_same_job-true, is_same_job-refl, reserves_next}
use Rattle.ota_core.specs.Job.{is_same_job}
use Rattle.ota_core.specs.Keyset.{Keyset, is_same_keyset}
use Rattle.ota_core.specs.Questions.{state_of}
use Rattle.ota_core.specs.declared.entries.Entry.{Entry}
use Rattle.ota_core.specs.declared.entries.Entry.TheVariants.{Open, Reserve, Done, Refused, Close}
use Rattle.ota_core.specs.declared.jobs.Job.{Job}
use Rattle.ota_core.specs.declared.jobs.JobId.{JobId}
use Rattle.ota_core.specs.declared.questions.KeysetState.TheVariants as state
use Rattle.lane_lock.specs.Numbers.{total, Each, IsIn}
use Rattle.lane_engine.specs.Reserving.{AreOthers, JobsDiffer, counter_refusal, job_refusal, jobs_refusal, reserve_of, state_refusal, taken_refusal}
use Rattle.lane_engine.specs.declared.answers.LaneErr.TheVariants as lane_err
use Rattle.senders.specs.Pieces.{MayReserve}
use Rattle.senders.specs.Served.{weigh_entry, IsMadeFor}

-- ---- an entry that is a reservation or a settlement

-- it opens no keyset, and closes none
pub made_opens_none : (name : List ℕ) (jobs : List Job) (keyset : Keyset) (entry : Entry) → IsMadeFor name jobs entry → is_open_of keyset entry ≡ false
made_opens_none name jobs keyset (Open by moment other facts) (inl settles) = cc
made_opens_none name jobs keyset (Open by moment other facts) (inr r) = absurd (clash r.is)
  where
    clash : {job : JobId} {counter : ℕ} {tar body : List ℕ} {by' moment' : ℕ} {k : Keyset} → Open by moment other facts ≡ Reserve by' moment' k counter job tar name body → ⊥
    clash e = cc
made_opens_none name jobs keyset (Reserve by moment other counter job tar reserved body) made = refl
made_opens_none name jobs keyset (Done by moment other counter answer) made = refl
made_opens_none name jobs keyset (Refused by moment other counter status) made = refl
made_opens_none name jobs keyset (Close by moment other) made = refl

pub made_closes_none : (name : List ℕ) (jobs : List Job) (keyset : Keyset) (entry : Entry) → IsMadeFor name jobs entry → is_close_of keyset entry ≡ false
made_closes_none name jobs keyset (Open by moment other facts) made = refl
made_closes_none name jobs keyset (Reserve by moment other counter job tar reserved body) made = refl
made_closes_none name jobs keyset (Done by moment other counter answer) made = refl
made_closes_none name jobs keyset (Refused by moment other counter status) made = refl
made_closes_none name jobs keyset (Close by moment other) (inl settles) = cc
made_closes_none name jobs keyset (Close by moment other) (inr r) = absurd (clash r.is)
  where
    clash : {job : JobId} {counter : ℕ} {tar body : List ℕ} {by' moment' : ℕ} {k : Keyset} → Close by moment other ≡ Reserve by' moment' k counter job tar name body → ⊥
    clash e = cc

-- ---- searches in a longer list

module _ {A : Type 0} where
  any_skip : (f : A → Bool) (xs ys : List A) → Each (λ x. f x ≡ false) xs → list_any f (xs ++ ys) ≡ list_any f ys
  any_skip f [] ys none = refl
  any_skip f (x ∷ xs) ys none = ap (λ b. b || list_any f (xs ++ ys)) none.0 ∙ any_skip f xs ys none.1

  any_more : (f : A → Bool) (xs ys : List A) → list_any f ys ≡ true → list_any f (xs ++ ys) ≡ true
  any_more f [] ys is = is
  any_more f (x ∷ xs) ys is = ap (λ b. f x || b) (any_more f xs ys is) ∙ or_true (f x)
    where
      or_true : (b : Bool) → (b || true) ≡ true
      or_true true = refl
      or_true false = refl

  found_behind : {B : Type 0} (f : A → Option B) (xs ys : List A) → first_some f xs ≡ None → first_some f (xs ++ ys) ≡ first_some f ys
  found_behind f [] ys none = refl
  found_behind f (x ∷ xs) ys none =
      let each = both_hold (f x) (first_some f xs) none in ap (λ o. option_or o (first_some f (xs ++ ys))) each.0 ∙ found_behind f xs ys each.1

  count_total : (p : A → Bool) (xs : List A) → count_by p xs ≡ total (λ x. cond (p x) 1 0) xs
  count_total p [] = refl
  count_total p (x ∷ xs) = let first = sum_by-cons (λ (y : A). cond (p y) 1 0) x xs in let rest = count_total p xs in omega (arith, first, rest)

  total_in : (f : A → ℕ) (x : A) (xs : List A) → IsIn x xs → f x ≤ total f xs
  total_in f x [] there = absurd there
  total_in f x (y ∷ ys) (inl e) = let same = ap f e in omega (arith, same)
  total_in f x (y ∷ ys) (inr there) = let rest = total_in f x ys there in omega (arith, rest)

-- ---- a past that is longer by reservations and settlements, newest first

-- one for each job of that number, or under that keyset
abbrev pub of_job : JobId → Job → ℕ
of_job id job = cond (is_same_job job.id id) 1 0

abbrev pub under_keyset : Keyset → Job → ℕ
under_keyset keyset job = cond (is_same_keyset job.keyset keyset) 1 0

state_stays : (name : List ℕ) (jobs : List Job) (keyset : Keyset) (newer past : List Entry) → Each (IsMadeFor name jobs) newer → state_of keyset (newer ++ past) ≡ state_of keyset past
state_stays name jobs keyset newer past made =
    let opens = any_skip (is_open_of keyset) newer past (Rattle.lane_lock.proofs.Counting.Each_map (IsMadeFor name jobs) (λ e. is_open_of keyset e ≡ false) newer (made_opens_none name jobs keyset) made) in
    let closes = any_skip (is_close_of keyset) newer past (Rattle.lane_lock.proofs.Counting.Each_map (IsMadeFor name jobs) (λ e. is_close_of keyset e ≡ false) newer (made_closes_none name jobs keyset) made) in
    ap (λ b. if b then (if list_any (is_close_of keyset) (newer ++ past) then state.Closed else state.Open) else state.New) opens
    ∙ ap (λ b. if list_any (is_open_of keyset) past then (if b then state.Closed else state.Open) else state.New) closes

-- where nothing was reserved for the job, its last reservation is the one before
none_reserved : (id : JobId) (newer : List Entry) → total (weigh_entry (of_job id)) newer ≡ 0 → first_some (reservation_in id) newer ≡ None
none_reserved id [] none = refl
none_reserved id (Open by moment keyset facts ∷ newer) none = none_reserved id newer (omega (arith, none))
none_reserved id (Reserve by moment keyset counter job tar name body ∷ newer) none = by_test (is_same_job job id) refl (λ rest. none_reserved id newer rest)
  where
    by_test : (b : Bool) → is_same_job job id ≡ b → (total (weigh_entry (of_job id)) newer ≡ 0 → first_some (reservation_in id) newer ≡ None)
        → first_some (reservation_in id) (Reserve by moment keyset counter job tar name body ∷ newer) ≡ None
    by_test true is others = let one = ap {B = ℕ} (λ (t : Bool). cond t 1 0) is in absurd (omega (arith, one, none))
    by_test false is others =
        let zero = ap {B = ℕ} (λ (t : Bool). cond t 1 0) is in
        ap (λ (t : Bool). option_or (if t then Some (record { keyset = keyset; counter = counter }) else None) (first_some (reservation_in id) newer)) is
        ∙ others (omega (arith, zero, none))
none_reserved id (Done by moment keyset counter answer ∷ newer) none = none_reserved id newer (omega (arith, none))
none_reserved id (Refused by moment keyset counter status ∷ newer) none = none_reserved id newer (omega (arith, none))
none_reserved id (Close by moment keyset ∷ newer) none = none_reserved id newer (omega (arith, none))

free_by : (past : List Entry) (last : Option Reservation) (newer : List Entry) → taken_refusal past last ≡ None → taken_refusal (newer ++ past) last ≡ None
free_by past None newer free = refl
free_by past (Some last) newer free = ap (λ (b : Bool). if b then None else Some (lane_err.AlreadyReserved last.counter)) (any_more (is_refusal_of last) newer past (settled (list_any (is_refusal_of last) past) free))
  where
    settled : (b : Bool) → (if b then None else Some (lane_err.AlreadyReserved last.counter)) ≡ None → b ≡ true
    settled true h = refl
    settled false h = cc

free_stays : (id : JobId) (newer past : List Entry) → total (weigh_entry (of_job id)) newer ≡ 0 → taken_refusal past (last_reservation id past) ≡ None
    → taken_refusal (newer ++ past) (last_reservation id (newer ++ past)) ≡ None
free_stays id newer past none free =
    ap (taken_refusal (newer ++ past)) (found_behind (reservation_in id) newer past (none_reserved id newer none)) ∙ free_by past (last_reservation id past) newer free

-- each reservation under a keyset takes the counter that comes next
counters_rise : (name : List ℕ) (jobs : List Job) (keyset : Keyset) (newer past : List Entry) → IsLegalPast (newer ++ past) → Each (IsMadeFor name jobs) newer
    → next_counter keyset (newer ++ past) ≡ next_counter keyset past + total (weigh_entry (under_keyset keyset)) newer
counters_rise name jobs keyset [] past legal made = omega arith
counters_rise name jobs keyset (Open by moment other facts ∷ newer) past legal made = absurd (clash (made_opens_none name jobs other (Open by moment other facts) made.0))
  where
    clash : is_same_keyset other other ≡ false → ⊥
    clash e = absurd (apart (sym (is_same_keyset-refl other) ∙ e))
      where
        apart : true ≡ false → ⊥
        apart h = cc
counters_rise name jobs keyset (Reserve by moment other counter job tar reserved body ∷ newer) past legal made =
    let rest = counters_rise name jobs keyset newer past legal.0 made.1 in
    let next = (reserves_next (newer ++ past) by moment other counter job tar reserved body legal.1).0 in
    by_test (is_same_keyset other keyset) refl rest next
  where
    by_test : (b : Bool) → is_same_keyset other keyset ≡ b
        → next_counter keyset (newer ++ past) ≡ next_counter keyset past + total (weigh_entry (under_keyset keyset)) newer → counter ≡ next_counter other (newer ++ past)
        → next_counter keyset (Reserve by moment other counter job tar reserved body ∷ newer ++ past)
        ≡ next_counter keyset past + (cond (is_same_keyset other keyset) 1 0 + total (weigh_entry (under_keyset keyset)) newer)
    by_test true is rest next =
        let same = is_same_keyset-true other keyset is in
        let one = ap {B = ℕ} (λ (t : Bool). cond t 1 0) is in
        let now = ap {B = ℕ} (λ (t : Bool). unwrap_or (option_or (if t then Some counter else None) (first_some (counter_in keyset) (newer ++ past))) 0 + 1) is in
        let before = ap {B = ℕ} (λ (k : Keyset). next_counter k (newer ++ past)) same in
        omega (arith, one, now, before, rest, next)
    by_test false is rest next =
        let zero = ap {B = ℕ} (λ (t : Bool). cond t 1 0) is in
        let now = ap {B = ℕ} (λ (t : Bool). unwrap_or (option_or (if t then Some counter else None) (first_some (counter_in keyset) (newer ++ past))) 0 + 1) is in
        omega (arith, zero, now, rest)
counters_rise name jobs keyset (Done by moment other counter answer ∷ newer) past legal made =
    let rest = counters_rise name jobs keyset newer past legal.0 made.1 in
    let now : next_counter keyset (Done by moment other counter answer ∷ newer ++ past) ≡ next_counter keyset (newer ++ past) = refl in
    omega (arith, rest, now)
counters_rise name jobs keyset (Refused by moment other counter status ∷ newer) past legal made =
    let rest = counters_rise name jobs keyset newer past legal.0 made.1 in
    let now : next_counter keyset (Refused by moment other counter status ∷ newer ++ past) ≡ next_counter keyset (newer ++ past) = refl in
    omega (arith, rest, now)
counters_rise name jobs keyset (Close by moment other ∷ newer) past legal made =
    let rest = counters_rise name jobs keyset newer past legal.0 made.1 in
    let now : next_counter keyset (Close by moment other ∷ newer ++ past) ≡ next_counter keyset (newer ++ past) = refl in
    omega (arith, rest, now)

-- ---- jobs that may be reserved are refused by nothing

pub record IsReady (past : List Entry) (jobs : List Job) : Type 0 where
  pub in_use : (job : Job) → IsIn job jobs → state_of job.keyset past ≡ state.Open
  pub free : (job : Job) → IsIn job jobs → taken_refusal past (last_reservation job.id past) ≡ None
  pub counters : (job : Job) → IsIn job jobs → next_counter job.keyset past + total (under_keyset job.keyset) jobs ≤ LAST_COUNTER + 1
  pub differ : JobsDiffer jobs

not_same : (id : JobId) (jobs : List Job) → AreOthers id jobs → (job : Job) → IsIn job jobs → is_same_job job.id id ≡ false
not_same id [] others job there = absurd there
not_same id (other ∷ jobs) others job (inl e) = subst (λ (j : Job). is_same_job j.id id ≡ false) e others.0
not_same id (other ∷ jobs) others job (inr there) = not_same id jobs others.1 job there

pub same_job-sym : (a b : JobId) → is_same_job a b ≡ false → is_same_job b a ≡ false
same_job-sym a b apart = by_test (is_same_job b a) refl
  where
    clash : true ≡ false → ⊥
    clash e = cc

    by_test : (t : Bool) → is_same_job b a ≡ t → is_same_job b a ≡ false
    by_test true is = absurd (clash (sym (subst (λ (x : JobId). is_same_job x b ≡ true) (is_same_job-true b a is) (is_same_job-refl b)) ∙ apart))
    by_test false is = is

ready_step : (by moment : ℕ) (name : List ℕ) (past : List Entry) (job : Job) (jobs : List Job) → IsReady past (job ∷ jobs) → IsReady (reserve_of by moment name past job ∷ past) jobs
ready_step by moment name past job jobs ready = record {
  in_use = λ other there. ready.in_use other (inr there);
  free = λ other there.
      let apart = same_job-sym other.id job.id (not_same job.id jobs ready.differ.0 other there) in
      ap (λ (b : Bool). taken_refusal (reserve_of by moment name past job ∷ past)
      (option_or (if b then Some (record { keyset = job.keyset; counter = next_counter job.keyset past }) else None) (last_reservation other.id past))) apart
      ∙ free_by past (last_reservation other.id past) (reserve_of by moment name past job ∷ []) (ready.free other (inr there));
  counters = λ other there. counted other (ready.counters other (inr there)) (is_same_keyset job.keyset other.keyset) refl;
  differ = ready.differ.1;
}
  where
    counted : (other : Job) → next_counter other.keyset past + total (under_keyset other.keyset) (job ∷ jobs) ≤ LAST_COUNTER + 1
        → (b : Bool) → is_same_keyset job.keyset other.keyset ≡ b
        → next_counter other.keyset (reserve_of by moment name past job ∷ past) + total (under_keyset other.keyset) jobs ≤ LAST_COUNTER + 1
    counted other before true is =
        let same = is_same_keyset-true job.keyset other.keyset is in
        let one = ap {B = ℕ} (λ (t : Bool). cond t 1 0) is in
        let now = ap {B = ℕ} (λ (t : Bool). unwrap_or (option_or (if t then Some (next_counter job.keyset past) else None) (first_some (counter_in other.keyset) past)) 0 + 1) is in
        let at = ap {B = ℕ} (λ (k : Keyset). next_counter k past) same in
        omega (arith, before, one, now, at)
    counted other before false is =
        let zero = ap {B = ℕ} (λ (t : Bool). cond t 1 0) is in
        let now = ap {B = ℕ} (λ (t : Bool). unwrap_or (option_or (if t then Some (next_counter job.keyset past) else None) (first_some (counter_in other.keyset) past)) 0 + 1) is in
        omega (arith, before, zero, now)

job_ready : (past : List Entry) (job : Job) (jobs : List Job) → IsReady past (job ∷ jobs) → job_refusal past job ≡ None
job_ready past job jobs ready =
    let one = ap {B = ℕ} (λ (t : Bool). cond t 1 0) (is_same_keyset-refl job.keyset) in
    let below = ready.counters job (inl refl) in
    let fits : next_counter job.keyset past ≤ LAST_COUNTER = omega (arith, one, below) in
    ap (λ s. option_or (state_refusal s) (option_or (taken_refusal past (last_reservation job.id past)) (counter_refusal (next_counter job.keyset past)))) (ready.in_use job (inl refl))
    ∙ ap (λ o. option_or o (counter_refusal (next_counter job.keyset past))) (ready.free job (inl refl))
    ∙ ap (λ (b : Bool). if b then None else Some lane_err.Exhausted) (below_test (next_counter job.keyset past) LAST_COUNTER fits)
  where
    below_test : (a b : ℕ) → a ≤ b → nat_le a b ≡ true
    below_test a b le = grind (arith, nat_tests, le)

pub ready_unrefused : (by moment : ℕ) (name : List ℕ) (past : List Entry) (jobs : List Job) → IsReady past jobs → jobs_refusal by moment name past jobs ≡ None
ready_unrefused by moment name past [] ready = refl
ready_unrefused by moment name past (job ∷ jobs) ready =
    ap (λ o. option_or o (jobs_refusal by moment name (reserve_of by moment name past job ∷ past) jobs)) (job_ready past job jobs ready)
    ∙ ready_unrefused by moment name (reserve_of by moment name past job ∷ past) jobs (ready_step by moment name past job jobs ready)

-- Jobs of a lane that may be reserved, of which these weren't: whatever else was reserved, they are ready.
pub still_ready : (name : List ℕ) (all jobs : List Job) (newer past : List Entry) → MayReserve past all → JobsDiffer jobs → ((job : Job) → IsIn job jobs → IsIn job all)
    → ((h : Job → ℕ) → total (weigh_entry h) newer + total h jobs ≤ total h all) → ((id : JobId) → total (of_job id) all ≤ 1)
    → Each (IsMadeFor name all) newer → IsLegalPast (newer ++ past) → IsReady (newer ++ past) jobs
still_ready name all jobs newer past may differ among weigh once made legal = record {
  in_use = λ job there. state_stays name all job.keyset newer past made ∙ may.in_use job (among job there);
  free = λ job there.
      let all_once = once job.id in
      let sum = weigh (of_job job.id) in
      let own = total_in (of_job job.id) job jobs there in
      let one = ap {B = ℕ} (λ (t : Bool). cond t 1 0) (is_same_job-refl job.id) in
      free_stays job.id newer past (omega (arith, all_once, sum, own, one)) (may.free job (among job there));
  counters = λ job there.
      let rise = counters_rise name all job.keyset newer past legal made in
      let sum = weigh (under_keyset job.keyset) in
      let most = may.counters job (among job there) in
      let count = count_total (λ (j : Job). is_same_keyset j.keyset job.keyset) all in
      omega (arith, rise, sum, most, count);
  differ = differ;
}
