-- Jobs that are reserved one behind the other.
use Rattle.std.proofs.Common.{◌≡◌, ℕ, ◌+◌, ◌≤◌, ◌<◌, zero, suc, nat_le, Bool, false, true, ◌==◌, cond, if◌then◌else◌, Option, Some, None, List, [], ◌∷◌, ◌++◌, length, take, drop, get_or, All, refl, sym, ◌∙◌, ap, subst, arith}
use Rattle.std.proofs.Math.Seq.{take-suc, drop-cons}
use Rattle.std.specs.Option.{option_or}
use Rattle.std.specs.List.{list_any}
use Rattle.std.proofs.lemmas.Grind.{common_steps}
use Rattle.std.proofs.lemmas.Bool.Decides.{nat_tests}
use Rattle.std.proofs.lemmas.List.Elements.{All-cons}
use Rattle.std.proofs.lemmas.List.Sums.{sum_by-cons}
use Rattle.ota_core.specs.Job.{is_same_job}
use Rattle.ota_core.specs.Keyset.{Keyset, is_same_keyset}
use Rattle.ota_core.specs.Entry.{Reservation, is_refusal_of}
use Rattle.ota_core.specs.History.{broken_batch, broken_counter, broken_in_use, broken_job, last_reservation, next_counter, LAST_COUNTER}
use Rattle.ota_core.specs.HistoryLaws.{is_same_keyset-true}
use Rattle.ota_core.specs.Questions.{last_moment, state_of}
use Rattle.ota_core.specs.declared.entries.Entry.{Entry}
use Rattle.ota_core.specs.declared.jobs.Job.{Job}
use Rattle.ota_core.specs.declared.jobs.JobId.{JobId}
use Rattle.ota_core.specs.declared.questions.KeysetState.{KeysetState}
use Rattle.ota_core.specs.declared.questions.KeysetState.TheVariants as state
use Rattle.counter_journal.specs.EntryRanges.{IsOfLane, IsSized}
use Rattle.counter_journal.specs.JournalLaws.{All-none}
use Rattle.lane_engine.specs.Adding.{is_settlement}
use Rattle.lane_engine.specs.Reserving.{AreOthers, IsJobOf, JobsDiffer, counter_refusal, job_refusal, jobs_refusal, next_behind, refusal_behind, reserve_of, reserves_of, state_refusal, taken_refusal}
use Rattle.lane_engine.specs.declared.answers.LaneErr.{LaneErr}
use Rattle.lane_engine.proofs.KeysetLemmas.{open_in_use, moment_after}
use Rattle.lane_engine.proofs.OpenLemmas.{All-front, All-behind}

-- the job has another number than each of these
abbrev pub Apart : List Job → JobId → Type 0
Apart [] id = Unit {0}
Apart (job ∷ jobs) id = (is_same_job job.id id ≡ false) × Apart jobs id

same_turned : (a b : JobId) → is_same_job a b ≡ false → is_same_job b a ≡ false
same_turned a b h = grind (arith, common_steps, nat_tests, h)

others_at : (id : JobId) (jobs : List Job) (index : ℕ) (item : Job) → AreOthers id jobs → index < length jobs → is_same_job (get_or jobs index item).id id ≡ false
others_at id [] index item others below = absurd (omega (arith, below))
others_at id (job ∷ jobs) zero item others below = others.0
others_at id (job ∷ jobs) (suc index) item others below = others_at id jobs index item others.1 (omega (arith, below))

-- so has each of jobs that differ than those before it
pub apart_before : (jobs : List Job) (index : ℕ) (item : Job) → JobsDiffer jobs → index < length jobs → Apart (take index jobs) (get_or jobs index item).id
apart_before [] index item differ below = absurd (omega (arith, below))
apart_before (job ∷ jobs) zero item differ below = tt
apart_before (job ∷ jobs) (suc index) item differ below = (
  same_turned (get_or jobs index item).id job.id (others_at job.id jobs index item differ.0 (omega (arith, below))),
  apart_before jobs index item differ.1 (omega (arith, below)),
)

both_none : (first second : Option LaneErr) → option_or first second ≡ None → (first ≡ None) × (second ≡ None)
both_none None second h = (refl, h)
both_none (Some error) second h = cc

-- the rules of histories say of a free job what the refusals say
in_use : (keyset : Keyset) (past : List Entry) → state_refusal (state_of keyset past) ≡ None → broken_in_use keyset past ≡ None
in_use keyset past h = open_in_use keyset past (is_open (state_of keyset past) h)
  where
    is_open : (s : KeysetState) → state_refusal s ≡ None → s ≡ state.Open
    is_open state.New h = cc
    is_open state.Open h = refl
    is_open state.Closed h = cc

none_some : (error : LaneErr) → Some error ≡ None → ⊥
none_some error e = cc

below_last : (next : ℕ) → counter_refusal next ≡ None → next ≤ LAST_COUNTER
below_last next h = by_test (nat_le next LAST_COUNTER) refl h
  where
    by_test : (t : Bool) → nat_le next LAST_COUNTER ≡ t → (if t then None else Some LaneErr.Exhausted) ≡ None → next ≤ LAST_COUNTER
    by_test true is none = grind (arith, nat_tests, is)
    by_test false is none = absurd (none_some LaneErr.Exhausted none)

counter_next : (next : ℕ) → next ≤ LAST_COUNTER → broken_counter next next ≡ None
counter_next next below =
    let test : nat_le next LAST_COUNTER ≡ true = grind (arith, nat_tests, below) in
    let same : (next == next) ≡ true = grind (arith, nat_tests) in
    rw (test, same) refl

job_free : (past : List Entry) (last : Option Reservation) → taken_refusal past last ≡ None → broken_job past last ≡ None
job_free past None h = refl
job_free past (Some last) h = by_test (list_any (is_refusal_of last) past) refl h
  where
    by_test : (t : Bool) → list_any (is_refusal_of last) past ≡ t → (if t then None else Some (LaneErr.AlreadyReserved last.counter)) ≡ None → broken_job past (Some last) ≡ None
    by_test true is none = rw is refl
    by_test false is none = absurd (none_some (LaneErr.AlreadyReserved last.counter) none)

module _ (by moment : ℕ) (name : List ℕ) where
  -- the past behind reservations of these jobs
  abbrev pub past_after : List Entry → List Job → List Entry
  past_after past [] = past
  past_after past (job ∷ jobs) = past_after (reserve_of by moment name past job ∷ past) jobs

  -- and behind that of one more
  pub past_after-push : (past : List Entry) (jobs : List Job) (job : Job)
      → past_after past (jobs ++ job ∷ []) ≡ reserve_of by moment name (past_after past jobs) job ∷ past_after past jobs
  past_after-push past [] job = refl
  past_after-push past (first ∷ jobs) job = past_after-push (reserve_of by moment name past first ∷ past) jobs job

  -- they open and close no keyset
  state_after : (past : List Entry) (jobs : List Job) (keyset : Keyset) → state_of keyset (past_after past jobs) ≡ state_of keyset past
  state_after past [] keyset = refl
  state_after past (job ∷ jobs) keyset = state_after (reserve_of by moment name past job ∷ past) jobs keyset

  taken_same : (past : List Entry) (job : Job) (last : Option Reservation) → taken_refusal (reserve_of by moment name past job ∷ past) last ≡ taken_refusal past last
  taken_same past job None = refl
  taken_same past job (Some last) = refl

  last_same : (past : List Entry) (job : Job) (id : JobId) → is_same_job job.id id ≡ false → last_reservation id (reserve_of by moment name past job ∷ past) ≡ last_reservation id past
  last_same past job id other = rw other refl

  -- they leave another job as free as it was
  taken_after : (past : List Entry) (jobs : List Job) (id : JobId) → Apart jobs id
      → taken_refusal (past_after past jobs) (last_reservation id (past_after past jobs)) ≡ taken_refusal past (last_reservation id past)
  taken_after past [] id apart = refl
  taken_after past (job ∷ jobs) id apart =
      taken_after (reserve_of by moment name past job ∷ past) jobs id apart.1
      ∙ ap (taken_refusal (reserve_of by moment name past job ∷ past)) (last_same past job id apart.0)
      ∙ taken_same past job (last_reservation id past)

  -- one counter is used up for each job of the keyset
  next_one : (past : List Entry) (job : Job) (keyset : Keyset)
      → next_counter keyset (reserve_of by moment name past job ∷ past) ≡ next_counter keyset past + cond (is_same_keyset job.keyset keyset) 1 0
  next_one past job keyset = by_test (is_same_keyset job.keyset keyset) refl
    where
      by_test : (t : Bool) → is_same_keyset job.keyset keyset ≡ t
          → next_counter keyset (reserve_of by moment name past job ∷ past) ≡ next_counter keyset past + cond (is_same_keyset job.keyset keyset) 1 0
      by_test true is = rw is (ap (λ (k : Keyset). next_counter k past + 1) (is_same_keyset-true job.keyset keyset is))
      by_test false is = rw is (omega arith)

  next_after : (past : List Entry) (jobs : List Job) (keyset : Keyset) → next_counter keyset (past_after past jobs) ≡ next_behind past jobs keyset
  next_after past [] keyset = omega arith
  next_after past (job ∷ jobs) keyset =
      let later = next_after (reserve_of by moment name past job ∷ past) jobs keyset in
      let one = next_one past job keyset in
      let counted = sum_by-cons (λ (j : Job). cond (is_same_keyset j.keyset keyset) 1 0) job jobs in
      omega (arith, later, one, counted)

  -- so a job is refused behind them as it is by their number
  pub refusal_after : (past : List Entry) (jobs : List Job) (job : Job) → Apart jobs job.id → job_refusal (past_after past jobs) job ≡ refusal_behind past jobs job
  refusal_after past jobs job apart = rw (state_after past jobs job.keyset, taken_after past jobs job.id apart, next_after past jobs job.keyset) refl

  pub reserve_after : (past : List Entry) (jobs : List Job) (job : Job)
      → reserve_of by moment name (past_after past jobs) job
      ≡ Entry.Reserve by moment job.keyset (next_behind past jobs job.keyset) job.id job.tar name job.body
  reserve_after past jobs job = ap (λ (n : ℕ). Entry.Reserve by moment job.keyset n job.id job.tar name job.body) (next_after past jobs job.keyset)

  -- what is left to be tried behind the first jobs
  abbrev pub refusal_from : List Entry → List Job → ℕ → Option LaneErr
  refusal_from past jobs index = jobs_refusal by moment name (past_after past (take index jobs)) (drop index jobs)

  -- one job of them
  refusal_from-is : (past : List Entry) (jobs : List Job) (index : ℕ) (item : Job) → JobsDiffer jobs → index < length jobs
      → refusal_from past jobs index ≡ option_or (refusal_behind past (take index jobs) (get_or jobs index item)) (refusal_from past jobs (index + 1))
  refusal_from-is past jobs index item differ below =
      let job = get_or jobs index item in
      let before = take index jobs in
      let step : suc index ≡ index + 1 = omega arith in
      let behind : past_after past (take (index + 1) jobs) ≡ reserve_of by moment name (past_after past before) job ∷ past_after past before =
      ap (λ (n : ℕ). past_after past (take n jobs)) (sym step) ∙ ap (past_after past) (take-suc jobs index item below) ∙ past_after-push past before job in
      ap (jobs_refusal by moment name (past_after past before)) (drop-cons jobs index item below)
      ∙ ap (λ (r : Option LaneErr). option_or r (jobs_refusal by moment name (reserve_of by moment name (past_after past before) job ∷ past_after past before) (drop (suc index) jobs)))
      (refusal_after past before job (apart_before jobs index item differ below))
      ∙ ap (λ (p : List Entry). option_or (refusal_behind past before job) (jobs_refusal by moment name p (drop (suc index) jobs))) (sym behind)
      ∙ ap (λ (n : ℕ). option_or (refusal_behind past before job) (jobs_refusal by moment name (past_after past (take (index + 1) jobs)) (drop n jobs))) step

  -- a job that is free leaves the rest
  pub refusal_step : (past : List Entry) (jobs : List Job) (index : ℕ) (item : Job) → JobsDiffer jobs → index < length jobs → item ≡ get_or jobs index item
      → refusal_behind past (take index jobs) item ≡ None → refusal_from past jobs index ≡ refusal_from past jobs (index + 1)
  refusal_step past jobs index item differ below is free =
      refusal_from-is past jobs index item differ below
      ∙ ap (λ (r : Option LaneErr). option_or r (refusal_from past jobs (index + 1)))
      (ap (refusal_behind past (take index jobs)) (sym is) ∙ free)

  -- one that isn't is the answer
  pub refusal_found : (past : List Entry) (jobs : List Job) (index : ℕ) (item : Job) (error : LaneErr) → JobsDiffer jobs → index < length jobs → item ≡ get_or jobs index item
      → refusal_behind past (take index jobs) item ≡ Some error → refusal_from past jobs index ≡ Some error
  refusal_found past jobs index item error differ below is refused =
      refusal_from-is past jobs index item differ below
      ∙ ap (λ (r : Option LaneErr). option_or r (refusal_from past jobs (index + 1)))
      (ap (refusal_behind past (take index jobs)) (sym is) ∙ refused)

  -- ---- the reservations of jobs that are free

  reserves-push : (past : List Entry) (jobs : List Job) (job : Job)
      → reserves_of by moment name past (jobs ++ job ∷ []) ≡ reserves_of by moment name past jobs ++ reserve_of by moment name (past_after past jobs) job ∷ []
  reserves-push past [] job = refl
  reserves-push past (first ∷ jobs) job =
      ap (λ (l : List Entry). reserve_of by moment name past first ∷ l) (reserves-push (reserve_of by moment name past first ∷ past) jobs job)

  -- those up to a job, and that of the job
  pub reserves_step : (past : List Entry) (jobs : List Job) (index : ℕ) (item : Job) (before after : List Entry) (entry : Entry) → index < length jobs → item ≡ get_or jobs index item
      → before ≡ reserves_of by moment name past (take index jobs)
      → entry ≡ Entry.Reserve by moment item.keyset (next_behind past (take index jobs) item.keyset) item.id item.tar name item.body
      → after ≡ before ++ entry ∷ [] → after ≡ reserves_of by moment name past (take (index + 1) jobs)
  reserves_step past jobs index item before after entry below is so_far reserved then_is =
      let first = take index jobs in
      let step : suc index ≡ index + 1 = omega arith in
      then_is
      ∙ ap (λ (l : List Entry). l ++ entry ∷ []) so_far
      ∙ ap (λ (e : Entry). reserves_of by moment name past first ++ e ∷ []) (reserved ∙ sym (reserve_after past first item))
      ∙ sym (reserves-push past first item)
      ∙ ap (λ (j : Job). reserves_of by moment name past (first ++ j ∷ [])) is
      ∙ ap (reserves_of by moment name past) (sym (take-suc jobs index item below))
      ∙ ap (λ (n : ℕ). reserves_of by moment name past (take n jobs)) step

  -- each of them is free behind those before it
  free_at : (past : List Entry) (jobs : List Job) (index : ℕ) (item : Job) → jobs_refusal by moment name past jobs ≡ None → index < length jobs
      → job_refusal (past_after past (take index jobs)) (get_or jobs index item) ≡ None
  free_at past [] index item free below = absurd (omega (arith, below))
  free_at past (job ∷ jobs) zero item free below = (both_none (job_refusal past job) (jobs_refusal by moment name (reserve_of by moment name past job ∷ past) jobs) free).0
  free_at past (job ∷ jobs) (suc index) item free below =
      free_at (reserve_of by moment name past job ∷ past) jobs index item
      (both_none (job_refusal past job) (jobs_refusal by moment name (reserve_of by moment name past job ∷ past) jobs) free).1 (omega (arith, below))

  next_free : (past : List Entry) (job : Job) → job_refusal past job ≡ None → next_counter job.keyset past ≤ LAST_COUNTER
  next_free past job free =
      below_last (next_counter job.keyset past)
      (both_none (taken_refusal past (last_reservation job.id past)) (counter_refusal (next_counter job.keyset past))
      (both_none (state_refusal (state_of job.keyset past)) (option_or (taken_refusal past (last_reservation job.id past)) (counter_refusal (next_counter job.keyset past))) free).1).1

  -- so a counter is left for it
  pub next_below : (past : List Entry) (jobs : List Job) (index : ℕ) (item : Job) → jobs_refusal by moment name past jobs ≡ None → index < length jobs → item ≡ get_or jobs index item
      → next_behind past (take index jobs) item.keyset ≤ LAST_COUNTER
  next_below past jobs index item free below is =
      subst (λ (j : Job). next_behind past (take index jobs) j.keyset ≤ LAST_COUNTER) (sym is)
      (subst (λ (n : ℕ). n ≤ LAST_COUNTER) (next_after past (take index jobs) (get_or jobs index item).keyset)
      (next_free (past_after past (take index jobs)) (get_or jobs index item) (free_at past jobs index item free below)))

  one_legal : (past : List Entry) (job : Job) → job_refusal past job ≡ None → last_moment past ≤ moment → broken_batch past (reserve_of by moment name past job ∷ []) ≡ None
  one_legal past job free later =
      let first = both_none (state_refusal (state_of job.keyset past)) (option_or (taken_refusal past (last_reservation job.id past)) (counter_refusal (next_counter job.keyset past))) free in
      let second = both_none (taken_refusal past (last_reservation job.id past)) (counter_refusal (next_counter job.keyset past)) first.1 in
      let used : broken_in_use job.keyset past ≡ None = in_use job.keyset past first.0 in
      let next : broken_counter (next_counter job.keyset past) (next_counter job.keyset past) ≡ None = counter_next (next_counter job.keyset past) (below_last (next_counter job.keyset past) second.1) in
      let taken : broken_job past (last_reservation job.id past) ≡ None = job_free past (last_reservation job.id past) second.0 in
      rw (used, next, taken, moment_after past moment later) refl

  -- the batch keeps the rules of histories
  pub reserves_legal : (past : List Entry) (jobs : List Job) → jobs_refusal by moment name past jobs ≡ None → last_moment past ≤ moment → broken_batch past (reserves_of by moment name past jobs) ≡ None
  reserves_legal past [] free later = refl
  reserves_legal past (job ∷ jobs) free later =
      let parts = both_none (job_refusal past job) (jobs_refusal by moment name (reserve_of by moment name past job ∷ past) jobs) free in
      let one : broken_batch past (reserve_of by moment name past job ∷ []) ≡ None = one_legal past job parts.0 later in
      let rest : broken_batch (reserve_of by moment name past job ∷ past) (reserves_of by moment name (reserve_of by moment name past job ∷ past) jobs) ≡ None =
      reserves_legal (reserve_of by moment name past job ∷ past) jobs parts.1 (omega arith) in
      joined past (reserve_of by moment name past job) (reserves_of by moment name (reserve_of by moment name past job ∷ past) jobs) one rest
    where
      joined : (past : List Entry) (entry : Entry) (entries : List Entry) → broken_batch past (entry ∷ []) ≡ None → broken_batch (entry ∷ past) entries ≡ None
          → broken_batch past (entry ∷ entries) ≡ None
      joined past entry entries one rest = rw rest one

  pub reserves_length : (past : List Entry) (jobs : List Job) → length (reserves_of by moment name past jobs) ≡ length jobs
  reserves_length past [] = refl
  reserves_length past (job ∷ jobs) = (let rest = reserves_length (reserve_of by moment name past job ∷ past) jobs in omega (arith, rest))

  pub reserves_settle_none : (past : List Entry) (jobs : List Job) → list_any is_settlement (reserves_of by moment name past jobs) ≡ false
  reserves_settle_none past [] = refl
  reserves_settle_none past (job ∷ jobs) = reserves_settle_none (reserve_of by moment name past job ∷ past) jobs

  module _ (lane lanes : ℕ) where
    pub reserves_sized : (past : List Entry) (jobs : List Job) → length name ≤ 32 → All (IsJobOf lane lanes) jobs → All IsSized (reserves_of by moment name past jobs)
    reserves_sized past [] short all = All-none IsSized
    reserves_sized past (job ∷ jobs) short all =
        let first : IsJobOf lane lanes job = All-front (IsJobOf lane lanes) job jobs all in
        All-cons IsSized (reserve_of by moment name past job) (reserves_of by moment name (reserve_of by moment name past job ∷ past) jobs) (short, first.some, first.short)
        (reserves_sized (reserve_of by moment name past job ∷ past) jobs short (All-behind (IsJobOf lane lanes) job jobs all))

    pub reserves_of_lane : (past : List Entry) (jobs : List Job) → All (IsJobOf lane lanes) jobs → All (IsOfLane lane lanes) (reserves_of by moment name past jobs)
    reserves_of_lane past [] all = All-none (IsOfLane lane lanes)
    reserves_of_lane past (job ∷ jobs) all =
        let first : IsJobOf lane lanes job = All-front (IsJobOf lane lanes) job jobs all in
        All-cons (IsOfLane lane lanes) (reserve_of by moment name past job) (reserves_of by moment name (reserve_of by moment name past job ∷ past) jobs) first.of_lane
        (reserves_of_lane (reserve_of by moment name past job ∷ past) jobs (All-behind (IsJobOf lane lanes) job jobs all))
