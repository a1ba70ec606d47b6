-- The pieces of a work list may be given to senders.
use Rattle.std.proofs.Common.{◌≡◌, ℕ, zero, suc, ◌+◌, ◌-◌, ◌%◌, ◌<◌, ◌≤◌, ◌==◌, ◌||◌, ◌&&◌, inl, inr, nat_le, not, Bool, true, false, cond, if◌then◌else◌, Option, Some, None, List, [], ◌∷◌, ◌++◌, length, take, drop, reverse, refl, sym, ap, ◌∙◌, subst, arith, length-append}
use Rattle.std.specs.Prelude.{All, IsTrue, IfOk, Result, Ok, Err, slice_index_or, max}
use Rattle.std.specs.List.{filter, find, list_any, count_by}
use Rattle.std.proofs.Math.Nat.{add-mod, add-mod_right, mod-eq_of_lt}
use Rattle.std.proofs.lemmas.Nat.{mod_below}
use Rattle.std.proofs.lemmas.Bool.{and_parts, or_parts, or_right}
use Rattle.std.proofs.lemmas.Bool.Decides.{nat_tests}
use Rattle.std.proofs.lemmas.List.{take-append-drop}
use Rattle.std.proofs.lemmas.List.Elements.{All-nil, All-cons, All-head, All-tail, filter-append}
use Rattle.std.proofs.lemmas.List.Sums.{length-filter}
use Rattle.ota_core.specs.Entry.{Reservation, is_settlement_of, is_refusal_of}
use Rattle.ota_core.specs.History.{next_counter, last_reservation, LAST_COUNTER}
use Rattle.ota_core.specs.HistoryLaws.{is_same_keyset-true, is_same_keyset-refl, is_same_job-true, is_same_job-refl}
use Rattle.ota_core.specs.Job.{is_same_job}
use Rattle.ota_core.specs.Keyset.{Keyset, is_same_keyset}
use Rattle.ota_core.specs.Outcome.{settled_by, outcome_of_reservation}
use Rattle.ota_core.specs.Questions.{state_of}
use Rattle.ota_core.specs.declared.entries.Entry.{Entry}
use Rattle.ota_core.specs.declared.entries.Entry.TheVariants.{Open, Reserve, Done, Refused, Close}
use Rattle.ota_core.specs.declared.jobs.Job.{Job}
use Rattle.ota_core.specs.declared.jobs.JobId.{JobId}
use Rattle.ota_core.specs.declared.questions.KeysetState.{KeysetState}
use Rattle.ota_core.specs.declared.questions.KeysetState.TheVariants as state
use Rattle.keyset_book.specs.Answers.{looked_of}
use Rattle.plan_reader.specs.Jobs.{has_job, are_distinct}
use Rattle.lane_lock.specs.Numbers.{Each, IsIn}
use Rattle.lane_engine.specs.Reserving.{AreOthers, JobsDiffer, IsJobOf, taken_refusal}
use Rattle.senders.specs.Pieces.{jobs_at, all_jobs, IsPiece, MayReserve}
use Rattle.senders.specs.declared.pieces.Work.{Work}
use Rattle.campaigns.specs.WorkList.{lane_of, is_wanted, is_due, jobs_on, is_open, has_counter, served, remaining_jobs, jobs_of_lane, begins_piece, piece_from, pieces_of, work_of}
use Rattle.campaigns.specs.Workable.{HasScript, IsWorkable}
use Rattle.campaigns.proofs.PieceLemmas.{same_test, lane_push}

-- ---- numbers

is_number : (a b : ℕ) → (a == b) ≡ true → a ≡ b
is_number a b test = grind (arith, nat_tests, test)

same_number : (a b : ℕ) → a ≡ b → (a == b) ≡ true
same_number a b same = grind (arith, nat_tests, same)

within : (a b : ℕ) → nat_le a b ≡ true → a ≤ b
within a b test = grind (arith, nat_tests, test)

contrary : (b : Bool) → b ≡ true → b ≡ false → ⊥
contrary true is other = cc
contrary false is other = cc

both_tests : (first second : Bool) → (first && second) ≡ true → (first ≡ true) × (second ≡ true)
both_tests true second h = (refl, h)
both_tests false second h = cc

-- ---- lists

module _ {A : Type 0} where
  each_in : (P : A → Type 0) (xs : List A) → Each P xs → (x : A) → IsIn x xs → P x
  each_in P [] each x there = absurd there
  each_in P (y ∷ ys) each x (inl e) = subst P e each.0
  each_in P (y ∷ ys) each x (inr there) = each_in P ys each.1 x there

  each_of : (P : A → Type 0) (xs : List A) → ((x : A) → IsIn x xs → P x) → Each P xs
  each_of P [] all = tt
  each_of P (x ∷ xs) all = (all x (inl refl), each_of P xs (λ y there. all y (inr there)))

  each_take : (P : A → Type 0) (n : ℕ) (xs : List A) → Each P xs → Each P (take n xs)
  each_take P zero xs each = tt
  each_take P (suc n) [] each = tt
  each_take P (suc n) (x ∷ xs) each = (each.0, each_take P n xs each.1)

  each_all : (P : A → Type 0) (xs : List A) → Each P xs → All P xs
  each_all P [] each = All-nil P
  each_all P (x ∷ xs) each = All-cons P x xs each.0 (each_all P xs each.1)

  all_each : (P : A → Type 0) (xs : List A) → All P xs → Each P xs
  all_each P [] all = tt
  all_each P (x ∷ xs) all = (All-head P x xs all, all_each P xs (All-tail P x xs all))

  in_filter : (p : A → Bool) (x : A) (xs : List A) → IsIn x (filter p xs) → IsIn x xs × (p x ≡ true)
  in_filter p x [] there = absurd there
  in_filter p x (y ∷ ys) there = by_test (p y) refl there (in_filter p x ys)
    where
      by_test : (b : Bool) → p y ≡ b → IsIn x (cond b (y ∷ filter p ys) (filter p ys)) → (IsIn x (filter p ys) → IsIn x ys × (p x ≡ true)) → IsIn x (y ∷ ys) × (p x ≡ true)
      by_test true passes (inl e) behind = (inl e, subst (λ z. p z ≡ true) e passes)
      by_test true passes (inr later) behind = let found = behind later in (inr found.0, found.1)
      by_test false fails later behind = let found = behind later in (inr found.0, found.1)

  -- an element that passes is counted
  some_pass : (p : A → Bool) (x : A) (xs : List A) → IsIn x xs → p x ≡ true → 0 < length (filter p xs)
  some_pass p x [] there passes = absurd there
  some_pass p x (y ∷ ys) (inl e) passes =
      subst (λ (b : Bool). 0 < length (cond b (y ∷ filter p ys) (filter p ys))) (sym (subst (λ z. p z ≡ true) (sym e) passes)) (omega arith)
  some_pass p x (y ∷ ys) (inr there) passes = by_test (p y) (some_pass p x ys there passes)
    where
      by_test : (b : Bool) → 0 < length (filter p ys) → 0 < length (cond b (y ∷ filter p ys) (filter p ys))
      by_test true later = omega arith
      by_test false later = later

  -- of some elements no more pass than of all
  fewer_pass : (p q : A → Bool) (xs : List A) → length (filter p (filter q xs)) ≤ length (filter p xs)
  fewer_pass p q [] = omega arith
  fewer_pass p q (x ∷ xs) = rw (filtered (q x)) (counted (q x) (p x) (fewer_pass p q xs))
    where
      filtered : (kept : Bool) → filter p (cond kept (x ∷ filter q xs) (filter q xs)) ≡ cond kept (cond (p x) (x ∷ filter p (filter q xs)) (filter p (filter q xs))) (filter p (filter q xs))
      filtered true = refl
      filtered false = refl

      counted : (kept passes : Bool) → length (filter p (filter q xs)) ≤ length (filter p xs)
          → length (cond kept (cond passes (x ∷ filter p (filter q xs)) (filter p (filter q xs))) (filter p (filter q xs))) ≤ length (cond passes (x ∷ filter p xs) (filter p xs))
      counted true true later = omega (arith, later)
      counted true false later = later
      counted false true later = omega (arith, later)
      counted false false later = later

  take_few : (n : ℕ) (xs : List A) → length (take n xs) ≤ n
  take_few zero xs = omega arith
  take_few (suc n) [] = omega arith
  take_few (suc n) (x ∷ xs) = omega (arith, take_few n xs)

  take_some : (n : ℕ) (x : A) (xs : List A) → 0 < n → 1 ≤ length (take n (x ∷ xs))
  take_some zero x xs none = absurd (omega (arith, none))
  take_some (suc n) x xs some = omega arith

  first_and_rest : (n : ℕ) (x : A) (xs : List A) → 0 < n → take n (x ∷ xs) ++ drop (n - 1) xs ≡ x ∷ xs
  first_and_rest zero x xs none = absurd (omega (arith, none))
  first_and_rest (suc n) x xs some =
      subst (λ (k : ℕ). take (suc n) (x ∷ xs) ++ drop k xs ≡ x ∷ xs) (omega arith) (ap (λ rest. x ∷ rest) (take-append-drop n xs))

-- ---- jobs of which none stands twice

others_append : (id : JobId) (xs ys : List Job) → AreOthers id xs → AreOthers id ys → AreOthers id (xs ++ ys)
others_append id [] ys first second = second
others_append id (x ∷ xs) ys first second = (first.0, others_append id xs ys first.1 second)

others_left : (id : JobId) (xs ys : List Job) → AreOthers id (xs ++ ys) → AreOthers id xs
others_left id [] ys others = tt
others_left id (x ∷ xs) ys others = (others.0, others_left id xs ys others.1)

others_right : (id : JobId) (xs ys : List Job) → AreOthers id (xs ++ ys) → AreOthers id ys
others_right id [] ys others = others
others_right id (x ∷ xs) ys others = others_right id xs ys others.1

others_in : (id : JobId) (xs : List Job) (x : Job) → AreOthers id xs → IsIn x xs → is_same_job x.id id ≡ false
others_in id [] x others there = absurd there
others_in id (y ∷ ys) x others (inl e) = subst (λ (job : Job). is_same_job job.id id ≡ false) e others.0
others_in id (y ∷ ys) x others (inr there) = others_in id ys x others.1 there

others_take : (n : ℕ) (id : JobId) (xs : List Job) → AreOthers id xs → AreOthers id (take n xs)
others_take zero id xs others = tt
others_take (suc n) id [] others = tt
others_take (suc n) id (x ∷ xs) others = (others.0, others_take n id xs others.1)

others_filter : (p : Job → Bool) (id : JobId) (xs : List Job) → AreOthers id xs → AreOthers id (filter p xs)
others_filter p id [] others = tt
others_filter p id (x ∷ xs) others = by_test (p x) (others_filter p id xs others.1)
  where
    by_test : (b : Bool) → AreOthers id (filter p xs) → AreOthers id (cond b (x ∷ filter p xs) (filter p xs))
    by_test true later = (others.0, later)
    by_test false later = later

differ_take : (n : ℕ) (xs : List Job) → JobsDiffer xs → JobsDiffer (take n xs)
differ_take zero xs differ = tt
differ_take (suc n) [] differ = tt
differ_take (suc n) (x ∷ xs) differ = (others_take n x.id xs differ.0, differ_take n xs differ.1)

differ_filter : (p : Job → Bool) (xs : List Job) → JobsDiffer xs → JobsDiffer (filter p xs)
differ_filter p [] differ = tt
differ_filter p (x ∷ xs) differ = by_test (p x) (differ_filter p xs differ.1)
  where
    by_test : (b : Bool) → JobsDiffer (filter p xs) → JobsDiffer (cond b (x ∷ filter p xs) (filter p xs))
    by_test true later = (others_filter p x.id xs differ.0, later)
    by_test false later = later

differ_right : (xs ys : List Job) → JobsDiffer (xs ++ ys) → JobsDiffer ys
differ_right [] ys differ = differ
differ_right (x ∷ xs) ys differ = differ_right xs ys differ.1

-- jobs of one number are one job
same_in : (jobs : List Job) → JobsDiffer jobs → (x y : Job) → IsIn x jobs → IsIn y jobs → is_same_job y.id x.id ≡ true → x ≡ y
same_in [] differ x y there other same = absurd there
same_in (job ∷ jobs) differ x y (inl e) (inl f) same = sym e ∙ f
same_in (job ∷ jobs) differ x y (inl e) (inr other) same =
    absurd (contrary (is_same_job y.id x.id) same
    (subst (λ (z : Job). is_same_job y.id z.id ≡ false) e (others_in job.id jobs y differ.0 other)))
same_in (job ∷ jobs) differ x y (inr there) (inl f) same =
    absurd (contrary (is_same_job x.id job.id)
    (subst (λ (id : JobId). is_same_job x.id id ≡ true) (sym (is_same_job-true y.id x.id same) ∙ ap (λ (z : Job). z.id) (sym f)) (is_same_job-refl x.id))
    (others_in job.id jobs x differ.0 there))
same_in (job ∷ jobs) differ x y (inr there) (inr other) same = same_in jobs differ.1 x y there other same

others_from : (id : JobId) (jobs : List Job) → has_job id jobs ≡ false → AreOthers id jobs
others_from id [] none = tt
others_from id (job ∷ jobs) none =
    let parts = or_parts (is_same_job job.id id) (has_job id jobs) none in
    (parts.0, others_from id jobs parts.1)

differ_from : (jobs : List Job) → IsTrue (are_distinct jobs) → JobsDiffer jobs
differ_from [] distinct = tt
differ_from (job ∷ jobs) distinct =
    let parts = and_parts (not (has_job job.id jobs)) (are_distinct jobs) distinct in
    (others_from job.id jobs (turned (has_job job.id jobs) parts.0), differ_from jobs parts.1)
  where
    turned : (b : Bool) → not b ≡ true → b ≡ false
    turned true h = cc
    turned false h = refl

-- ---- the jobs that remain

module _ (histories : List (List Entry)) where
  served_in : (before jobs : List Job) (job : Job) → IsIn job (served histories before jobs)
      → IsIn job jobs × (earlier : List Job) × (has_counter histories earlier job ≡ true)
  served_in before [] job there = absurd there
  served_in before (first ∷ jobs) job there =
      by_test (has_counter histories before first) refl there (served_in (before ++ first ∷ []) jobs job)
    where
      by_test : (b : Bool) → has_counter histories before first ≡ b
          → IsIn job ((if b then first ∷ [] else []) ++ served histories (before ++ first ∷ []) jobs)
          → (IsIn job (served histories (before ++ first ∷ []) jobs) → IsIn job jobs × (earlier : List Job) × (has_counter histories earlier job ≡ true))
          → IsIn job (first ∷ jobs) × (earlier : List Job) × (has_counter histories earlier job ≡ true)
      by_test true left (inl e) behind = (inl e, before, subst (λ (z : Job). has_counter histories before z ≡ true) e left)
      by_test true left (inr later) behind = let found = behind later in (inr found.0, found.1, found.2)
      by_test false none later behind = let found = behind later in (inr found.0, found.1, found.2)

  others_served : (id : JobId) (before jobs : List Job) → AreOthers id jobs → AreOthers id (served histories before jobs)
  others_served id before [] others = tt
  others_served id before (job ∷ jobs) others = by_test (has_counter histories before job) (others_served id (before ++ job ∷ []) jobs others.1)
    where
      by_test : (b : Bool) → AreOthers id (served histories (before ++ job ∷ []) jobs)
          → AreOthers id ((if b then job ∷ [] else []) ++ served histories (before ++ job ∷ []) jobs)
      by_test true later = (others.0, later)
      by_test false later = later

  differ_served : (before jobs : List Job) → JobsDiffer jobs → JobsDiffer (served histories before jobs)
  differ_served before [] differ = tt
  differ_served before (job ∷ jobs) differ = by_test (has_counter histories before job) (differ_served (before ++ job ∷ []) jobs differ.1)
    where
      by_test : (b : Bool) → JobsDiffer (served histories (before ++ job ∷ []) jobs)
          → JobsDiffer ((if b then job ∷ [] else []) ++ served histories (before ++ job ∷ []) jobs)
      by_test true later = (others_served job.id (before ++ job ∷ []) jobs differ.0, later)
      by_test false later = later

  -- the past of a keyset's lane
  abbrev past_of : Keyset → List Entry
  past_of keyset = reverse (slice_index_or histories (keyset.card.0 % length histories) [])

  -- a counter that is left for a job of the keyset
  left_for : (keyset : Keyset) (before : List Job) (job : Job) → job.keyset ≡ keyset → has_counter histories before job ≡ true
      → next_counter keyset (past_of keyset) + length (jobs_on keyset before) ≤ LAST_COUNTER
  left_for keyset before job on left =
      let test = both_tests (is_open (state_of job.keyset (past_of job.keyset))) (nat_le (next_counter job.keyset (past_of job.keyset) + length (jobs_on job.keyset before)) LAST_COUNTER) left in
      subst (λ (k : Keyset). next_counter k (past_of k) + length (jobs_on k before) ≤ LAST_COUNTER) on
      (within (next_counter job.keyset (past_of job.keyset) + length (jobs_on job.keyset before)) LAST_COUNTER test.1)

  -- behind the last reserved counter there are as many as jobs are served
  counters_left : (keyset : Keyset) (before jobs : List Job) → 0 < length (jobs_on keyset (served histories before jobs))
      → next_counter keyset (past_of keyset) + length (jobs_on keyset before) + length (jobs_on keyset (served histories before jobs)) ≤ LAST_COUNTER + 1
  counters_left keyset before [] some = absurd (omega (arith, some))
  counters_left keyset before (job ∷ jobs) some =
      by_tests (has_counter histories before job) refl (is_same_keyset job.keyset keyset) refl some (counters_left keyset (before ++ job ∷ []) jobs)
    where
      next : ℕ
      next = next_counter keyset (past_of keyset)

      later : List Job
      later = served histories (before ++ job ∷ []) jobs

      -- as many before the later ones, and this one where it is on the keyset
      earlier : (on : Bool) → is_same_keyset job.keyset keyset ≡ on
          → length (jobs_on keyset (before ++ job ∷ [])) ≡ length (jobs_on keyset before) + cond on 1 0
      earlier on is =
          ap length (filter-append (λ (other : Job). is_same_keyset other.keyset keyset) before (job ∷ []))
          ∙ length-append (jobs_on keyset before) (jobs_on keyset (job ∷ []))
          ∙ ap (λ (b : Bool). length (jobs_on keyset before) + length (cond b (job ∷ []) [])) is
          ∙ as_many on
        where
          as_many : (b : Bool) → length (jobs_on keyset before) + length (cond b (job ∷ []) []) ≡ length (jobs_on keyset before) + cond b 1 0
          as_many true = refl
          as_many false = refl

      in_all : (count : ℕ) → (0 < count → next + (length (jobs_on keyset before) + 1) + count ≤ LAST_COUNTER + 1)
          → next + length (jobs_on keyset before) ≤ LAST_COUNTER → next + length (jobs_on keyset before) + suc count ≤ LAST_COUNTER + 1
      in_all zero more left = omega (arith, left)
      in_all (suc count) more left = omega (arith, more (omega arith))

      by_tests : (left : Bool) → has_counter histories before job ≡ left → (on : Bool) → is_same_keyset job.keyset keyset ≡ on
          → 0 < length (jobs_on keyset ((if left then job ∷ [] else []) ++ later))
          → (0 < length (jobs_on keyset later) → next + length (jobs_on keyset (before ++ job ∷ [])) + length (jobs_on keyset later) ≤ LAST_COUNTER + 1)
          → next + length (jobs_on keyset before) + length (jobs_on keyset ((if left then job ∷ [] else []) ++ later)) ≤ LAST_COUNTER + 1
      by_tests true left true on some behind =
          rw on
          (in_all (length (jobs_on keyset later))
          (λ more. subst (λ n. next + n + length (jobs_on keyset later) ≤ LAST_COUNTER + 1) (earlier true on) (behind more))
          (left_for keyset before job (is_same_keyset-true job.keyset keyset on) left))
      by_tests true left false other some behind =
          let rest = behind (subst (λ (b : Bool). 0 < length (cond b (job ∷ jobs_on keyset later) (jobs_on keyset later))) other some) in
          let count = earlier false other in
          rw other (omega (arith, count, rest))
      by_tests false none true on some behind =
          let rest = behind some in
          let count = earlier true on in
          omega (arith, count, rest)
      by_tests false none false other some behind =
          let rest = behind some in
          let count = earlier false other in
          omega (arith, count, rest)

-- ---- what may be reserved

same_some : (entry other : Entry) → ◌≡◌ {A = Option Entry} (Some entry) (Some other) → entry ≡ other
same_some entry other e = cc

module _ (past : List Entry) (place : Reservation) where
  found_refusal : (entries : List Entry) (by moment : ℕ) (keyset : Keyset) (counter status : ℕ)
      → find (is_settlement_of place) entries ≡ Some (Refused by moment keyset counter status) → list_any (is_refusal_of place) entries ≡ true
  found_refusal [] by moment keyset counter status found = cc
  found_refusal (entry ∷ entries) by moment keyset counter status found =
      by_test (is_settlement_of place entry) refl found (found_refusal entries by moment keyset counter status)
    where
      by_test : (b : Bool) → is_settlement_of place entry ≡ b
          → cond b (Some entry) (find (is_settlement_of place) entries) ≡ Some (Refused by moment keyset counter status)
          → (find (is_settlement_of place) entries ≡ Some (Refused by moment keyset counter status) → list_any (is_refusal_of place) entries ≡ true)
          → (is_refusal_of place entry || list_any (is_refusal_of place) entries) ≡ true
      by_test true settles e behind =
          let is = same_some entry (Refused by moment keyset counter status) e in
          let settled : is_settlement_of place (Refused by moment keyset counter status) ≡ true = subst (λ (z : Entry). is_settlement_of place z ≡ true) is settles in
          let refused : is_refusal_of place entry ≡ true = subst (λ (z : Entry). is_refusal_of place z ≡ true) (sym is) settled in
          ap (λ (b : Bool). b || list_any (is_refusal_of place) entries) refused
      by_test false other e behind = or_right (is_refusal_of place entry) (list_any (is_refusal_of place) entries) (behind e)

  free_by : (retry : Bool) (found : Option Entry) → find (is_settlement_of place) past ≡ found
      → is_wanted retry (looked_of (settled_by place found)) ≡ true → taken_refusal past (Some place) ≡ None
  free_by retry None is wanted = cc
  free_by retry (Some (Open by moment keyset facts)) is wanted = cc
  free_by retry (Some (Reserve by moment keyset counter job tar name body)) is wanted = cc
  free_by retry (Some (Done by moment keyset counter answer)) is wanted = cc
  free_by retry (Some (Refused by moment keyset counter status)) is wanted = rw (found_refusal past by moment keyset counter status is) refl
  free_by retry (Some (Close by moment keyset)) is wanted = cc

free_last : (retry : Bool) (past : List Entry) (last : Option Reservation) → is_wanted retry (looked_of (outcome_of_reservation past last)) ≡ true
    → taken_refusal past last ≡ None
free_last retry past None wanted = refl
free_last retry past (Some place) wanted = free_by past place retry (find (is_settlement_of place) past) refl wanted

opened : (stands : KeysetState) → is_open stands ≡ true → stands ≡ state.Open
opened state.New is = cc
opened state.Open is = refl
opened state.Closed is = cc

module _ (retry : Bool) (histories : List (List Entry)) (jobs : List Job) (lane : ℕ) where
  abbrev remaining : List Job
  remaining = remaining_jobs retry histories jobs

  abbrev due : List Job
  due = filter (is_due retry histories) jobs

  abbrev here : List Job
  here = jobs_of_lane (length histories) lane remaining

  abbrev past : List Entry
  past = reverse (slice_index_or histories lane [])

  -- what is known of a job of the lane that remains
  record Remains (job : Job) : Type 0 where
    on_lane : job.keyset.card.0 % length histories ≡ lane
    among : IsIn job remaining
    is_due_there : is_due retry histories job ≡ true
    earlier : List Job
    left : has_counter histories earlier job ≡ true

  remains : (job : Job) → IsIn job here → Remains job
  remains job there =
      let found = in_filter (λ (other : Job). lane_of (length histories) other == lane) job remaining there in
      let left = served_in histories [] due job found.0 in
      record {
        on_lane = is_number (lane_of (length histories) job) lane found.1;
        among = found.0;
        is_due_there = (in_filter (is_due retry histories) job jobs left.0).1;
        earlier = left.1;
        left = left.2;
      }

  pub may_reserve : MayReserve past here
  may_reserve = record {
    in_use = λ job there. (
        let known = remains job there in
        subst (λ (k : ℕ). state_of job.keyset (reverse (slice_index_or histories k [])) ≡ state.Open) known.on_lane
        (opened (state_of job.keyset (past_of histories job.keyset))
        (both_tests (is_open (state_of job.keyset (past_of histories job.keyset))) (nat_le (next_counter job.keyset (past_of histories job.keyset) + length (jobs_on job.keyset known.earlier)) LAST_COUNTER) known.left).0));
    free = λ job there. (
        let known = remains job there in
        subst (λ (k : ℕ). taken_refusal (reverse (slice_index_or histories k [])) (last_reservation job.id (reverse (slice_index_or histories k []))) ≡ None) known.on_lane
        (free_last retry (past_of histories job.keyset) (last_reservation job.id (past_of histories job.keyset)) known.is_due_there));
    counters = λ job there. (
        let known = remains job there in
        let same = λ (other : Job). is_same_keyset other.keyset job.keyset in
        let some = some_pass same job remaining known.among (is_same_keyset-refl job.keyset) in
        let all = counters_left histories job.keyset [] due some in
        let fewer = fewer_pass same (λ (other : Job). lane_of (length histories) other == lane) remaining in
        let counted = length-filter same here in
        subst (λ (k : ℕ). next_counter job.keyset (reverse (slice_index_or histories k [])) + count_by same here ≤ LAST_COUNTER + 1) known.on_lane
        (omega (arith, all, fewer, counted)));
  }

-- ---- the pieces

-- a piece's jobs are of its lane, and stand in the list
abbrev IsFrom : ℕ → List Job → Work → Type 0
IsFrom lanes whole work = Each (λ job. (lane_of lanes job ≡ work.lane) × IsIn job whole) work.jobs

module _ (lanes size : ℕ) (some : 0 < size) where
  first_of_lane : (job : Job) (jobs : List Job) → jobs_of_lane lanes (lane_of lanes job) (job ∷ jobs) ≡ job ∷ jobs_of_lane lanes (lane_of lanes job) jobs
  first_of_lane job jobs =
      ap (λ (b : Bool). cond b (job ∷ jobs_of_lane lanes (lane_of lanes job) jobs) (jobs_of_lane lanes (lane_of lanes job) jobs)) (same_test (lane_of lanes job))

  -- a lane's job joins the piece before it exactly where that takes more
  begins_here : (count : ℕ) → (count + 0) % size ≡ 0 → (count % size == 0) ≡ true
  begins_here count counts = same_number (count % size) 0 (ap (λ n. n % size) (omega arith) ∙ counts)

  joins_here : (count room : ℕ) → suc room < size → (count + suc room) % size ≡ 0 → (count % size == 0) ≡ false
  joins_here count room below counts = by_test (count % size == 0) refl
    where
      by_test : (b : Bool) → (count % size == 0) ≡ b → b ≡ false
      by_test true is =
          let none = is_number (count % size) 0 is in
          let left : suc room ≡ 0 =
          sym (mod-eq_of_lt below)
          ∙ sym (mod-eq_of_lt (rw (mod-eq_of_lt below) below))
          ∙ ap (λ n. n % size) (omega arith)
          ∙ ap (λ n. (n + suc room % size) % size) (sym none)
          ∙ sym (add-mod count (suc room) size) ∙ counts in
          absurd (omega (arith, left))
      by_test false is = refl

  -- the jobs of a lane's pieces are those of the lane, behind as many as the piece before them takes
  at_pieces : (lane room : ℕ) (before jobs : List Job) → room < size → (length (jobs_of_lane lanes lane before) + room) % size ≡ 0
      → jobs_at lane (pieces_of lanes size before jobs) ≡ drop room (jobs_of_lane lanes lane jobs)
  at_pieces lane room before [] below counts = sym (none room)
    where
      none : (n : ℕ) → ◌≡◌ {A = List Job} (drop n []) []
      none zero = refl
      none (suc n) = refl
  at_pieces lane room before (job ∷ jobs) below counts =
      apart (begins_piece lanes size before job) ∙ by_lane (lane_of lanes job == lane) refl (λ (n : ℕ). at_pieces lane n (before ++ job ∷ []) jobs)
    where
      piece : Work
      piece = piece_from lanes size (lane_of lanes job) (job ∷ jobs)

      later : List Work
      later = pieces_of lanes size (before ++ job ∷ []) jobs

      there : List Job
      there = jobs_of_lane lanes lane jobs

      count : ℕ
      count = length (jobs_of_lane lanes lane before)

      apart : (begins : Bool) → jobs_at lane ((if begins then piece ∷ [] else []) ++ later)
          ≡ (if begins then (if lane_of lanes job == lane then piece.jobs else []) else []) ++ jobs_at lane later
      apart true = refl
      apart false = refl

      nothing : (begins : Bool) (rest : List Job) → (if begins then [] else []) ++ rest ≡ rest
      nothing true rest = refl
      nothing false rest = refl

      -- as many of the lane before the later ones, and this one where it is of the lane
      earlier : (on : Bool) → (lane_of lanes job == lane) ≡ on → length (jobs_of_lane lanes lane (before ++ job ∷ [])) ≡ count + cond on 1 0
      earlier on is =
          ap length (lane_push lanes size some lane before job)
          ∙ length-append (jobs_of_lane lanes lane before) (cond (lane_of lanes job == lane) (job ∷ []) [])
          ∙ ap (λ (b : Bool). count + length (cond b (job ∷ []) [])) is ∙ as_many on
        where
          as_many : (b : Bool) → count + length (cond b (job ∷ []) []) ≡ count + cond b 1 0
          as_many true = refl
          as_many false = refl

      by_lane : (on : Bool) → (lane_of lanes job == lane) ≡ on
          → ((n : ℕ) → n < size → (length (jobs_of_lane lanes lane (before ++ job ∷ [])) + n) % size ≡ 0
          → jobs_at lane (pieces_of lanes size (before ++ job ∷ []) jobs) ≡ drop n (jobs_of_lane lanes lane jobs))
          → (if begins_piece lanes size before job then (if lane_of lanes job == lane then piece.jobs else []) else []) ++ jobs_at lane later
          ≡ drop room (cond (lane_of lanes job == lane) (job ∷ there) there)
      by_lane false other behind =
          rw other
          (nothing (begins_piece lanes size before job) (jobs_at lane later)
          ∙ behind room below (ap (λ n. n % size) (omega (arith, earlier false other)) ∙ counts))
      by_lane true same behind = rw same (by_room room below counts)
        where
          of_lane : lane_of lanes job ≡ lane
          of_lane = is_number (lane_of lanes job) lane same

          begins_by : (b : Bool) → (count % size == 0) ≡ b → begins_piece lanes size before job ≡ b
          begins_by b is = ap (λ (k : ℕ). length (jobs_of_lane lanes k before) % size == 0) of_lane ∙ is

          first_jobs : piece.jobs ≡ take size (job ∷ there)
          first_jobs = ap (take size) (first_of_lane job jobs ∙ ap (λ (k : ℕ). job ∷ jobs_of_lane lanes k jobs) of_lane)

          by_room : (n : ℕ) → n < size → (count + n) % size ≡ 0
              → (if begins_piece lanes size before job then piece.jobs else []) ++ jobs_at lane later ≡ drop n (job ∷ there)
          by_room zero small sum =
              let rest = behind (size - 1) (omega (arith, some))
              (ap (λ n. n % size) (omega (arith, some, earlier true same)) ∙ add-mod_right (count + 0) size ∙ sum) in
              rw (begins_by true (begins_here count sum), first_jobs, rest) (first_and_rest size job there some)
          by_room (suc n) small sum =
              let rest = behind n (omega (arith, small)) (ap (λ n. n % size) (omega (arith, earlier true same)) ∙ sum) in
              rw (begins_by false (joins_here count n small sum)) rest

  pieces_from : (whole before jobs : List Job) → Each (λ job. IsIn job whole) jobs → Each (IsFrom lanes whole) (pieces_of lanes size before jobs)
  pieces_from whole before [] each = tt
  pieces_from whole before (job ∷ jobs) each =
      by_test (begins_piece lanes size before job) (pieces_from whole (before ++ job ∷ []) jobs each.1)
    where
      lane : ℕ
      lane = lane_of lanes job

      known : (other : Job) → IsIn other (jobs_of_lane lanes lane (job ∷ jobs)) → (lane_of lanes other ≡ lane) × IsIn other whole
      known other there =
          let found = in_filter (λ (z : Job). lane_of lanes z == lane) other (job ∷ jobs) there in
          (is_number (lane_of lanes other) lane found.1, each_in (λ z. IsIn z whole) (job ∷ jobs) each other found.0)

      by_test : (b : Bool) → Each (IsFrom lanes whole) (pieces_of lanes size (before ++ job ∷ []) jobs)
          → Each (IsFrom lanes whole) ((if b then piece_from lanes size lane (job ∷ jobs) ∷ [] else []) ++ pieces_of lanes size (before ++ job ∷ []) jobs)
      by_test true later = (
        each_take (λ z. (lane_of lanes z ≡ lane) × IsIn z whole) size (jobs_of_lane lanes lane (job ∷ jobs))
            (each_of (λ z. (lane_of lanes z ≡ lane) × IsIn z whole) (jobs_of_lane lanes lane (job ∷ jobs)) known),
        later,
      )
      by_test false later = later

  are_pieces : 0 < lanes → (before jobs : List Job) → JobsDiffer jobs → Each HasScript jobs → All (IsPiece size lanes) (pieces_of lanes size before jobs)
  are_pieces lanes_are before [] differ scripts = All-nil (IsPiece size lanes)
  are_pieces lanes_are before (job ∷ jobs) differ scripts =
      by_test (begins_piece lanes size before job) (are_pieces lanes_are (before ++ job ∷ []) jobs differ.1 scripts.1)
    where
      lane : ℕ
      lane = lane_of lanes job

      known : (other : Job) → IsIn other (jobs_of_lane lanes lane (job ∷ jobs)) → IsJobOf lane lanes other
      known other there =
          let found = in_filter (λ (z : Job). lane_of lanes z == lane) other (job ∷ jobs) there in
          let script = each_in HasScript (job ∷ jobs) scripts other found.0 in
          record { of_lane = is_number (lane_of lanes other) lane found.1; some = script.some; short = script.short }

      piece : IsPiece size lanes (piece_from lanes size lane (job ∷ jobs))
      piece = record {
        there = mod_below job.keyset.card.0 lanes lanes_are;
        some = subst (λ (l : List Job). 1 ≤ length (take size l)) (sym (first_of_lane job jobs)) (take_some size job (jobs_of_lane lanes lane jobs) some);
        few = take_few size (jobs_of_lane lanes lane (job ∷ jobs));
        differ = differ_take size (jobs_of_lane lanes lane (job ∷ jobs)) (differ_filter (λ (z : Job). lane_of lanes z == lane) (job ∷ jobs) differ);
        of_lane = each_all (IsJobOf lane lanes) (take size (jobs_of_lane lanes lane (job ∷ jobs)))
            (each_take (IsJobOf lane lanes) size (jobs_of_lane lanes lane (job ∷ jobs)) (each_of (IsJobOf lane lanes) (jobs_of_lane lanes lane (job ∷ jobs)) known));
      }

      by_test : (b : Bool) → All (IsPiece size lanes) (pieces_of lanes size (before ++ job ∷ []) jobs)
          → All (IsPiece size lanes) ((if b then piece_from lanes size lane (job ∷ jobs) ∷ [] else []) ++ pieces_of lanes size (before ++ job ∷ []) jobs)
      by_test true later =
          All-cons (IsPiece size lanes) (piece_from lanes size lane (job ∷ jobs)) (pieces_of lanes size (before ++ job ∷ []) jobs) piece later
      by_test false later = later

module _ (lanes : ℕ) (whole : List Job) (differ : JobsDiffer whole) where
  -- a job differs from those of all pieces where it differs from those of its lane
  others_at : (x : Job) (works : List Work) → IsIn x whole → Each (IsFrom lanes whole) works
      → AreOthers x.id (jobs_at (lane_of lanes x) works) → AreOthers x.id (all_jobs works)
  others_at x [] there from others = tt
  others_at x (work ∷ works) there from others =
      others_append x.id work.jobs (all_jobs works) (first (work.lane == lane_of lanes x) refl)
      (others_at x works there from.1 (others_right x.id (if work.lane == lane_of lanes x then work.jobs else []) (jobs_at (lane_of lanes x) works) others))
    where
      not_same : (y : Job) → lane_of lanes y ≡ work.lane → IsIn y whole → (work.lane == lane_of lanes x) ≡ false → is_same_job y.id x.id ≡ false
      not_same y of_lane among other = by_test (is_same_job y.id x.id) refl
        where
          by_test : (b : Bool) → is_same_job y.id x.id ≡ b → b ≡ false
          by_test true same =
              let one = same_in whole differ x y there among same in
              absurd (contrary (work.lane == lane_of lanes x) (same_number work.lane (lane_of lanes x) (sym of_lane ∙ ap (lane_of lanes) (sym one))) other)
          by_test false is = refl

      elsewhere : (ys : List Job) → Each (λ job. (lane_of lanes job ≡ work.lane) × IsIn job whole) ys → (work.lane == lane_of lanes x) ≡ false → AreOthers x.id ys
      elsewhere [] each other = tt
      elsewhere (y ∷ ys) each other = (not_same y each.0.0 each.0.1 other, elsewhere ys each.1 other)

      first : (same : Bool) → (work.lane == lane_of lanes x) ≡ same → AreOthers x.id work.jobs
      first true same =
          others_left x.id work.jobs (jobs_at (lane_of lanes x) works)
          (subst (λ (b : Bool). AreOthers x.id ((if b then work.jobs else []) ++ jobs_at (lane_of lanes x) works)) same others)
      first false other = elsewhere work.jobs from.0 other

  whole_differs : (works : List Work) → Each (IsFrom lanes whole) works → ((lane : ℕ) → JobsDiffer (jobs_at lane works)) → JobsDiffer (all_jobs works)
  whole_differs [] from each = tt
  whole_differs (work ∷ works) from each =
      joined (whole_differs works from.1 (λ (lane : ℕ). rest lane)) work.jobs from.0 (subst (λ (b : Bool). JobsDiffer ((if b then work.jobs else []) ++ jobs_at work.lane works)) (same_test work.lane) (each work.lane))
    where
      rest : (lane : ℕ) → JobsDiffer (jobs_at lane works)
      rest lane = differ_right (if work.lane == lane then work.jobs else []) (jobs_at lane works) (each lane)

      joined : JobsDiffer (all_jobs works) → (xs : List Job) → Each (λ job. (lane_of lanes job ≡ work.lane) × IsIn job whole) xs → JobsDiffer (xs ++ jobs_at work.lane works) → JobsDiffer (xs ++ all_jobs works)
      joined later [] known apart = later
      joined later (x ∷ xs) known apart = (
        others_append x.id xs (all_jobs works) (others_left x.id xs (jobs_at work.lane works) apart.0)
            (others_at x works known.0.1 from.1 (subst (λ (k : ℕ). AreOthers x.id (jobs_at k works)) (sym known.0.0) (others_right x.id xs (jobs_at work.lane works) apart.0))),
        joined later xs known.1 apart.1,
      )

-- what follows of an answer that isn't an error
pub if_ok : {A E : Type 0} {P Q : A → Type 0} (r : Result A E) → ((x : A) → P x → Q x) → IfOk r P → IfOk r Q
if_ok (Ok x) follows is = follows x is
if_ok (Err e) follows is = is

at_least_one : (n : ℕ) → 1 ≤ n → max n 1 ≡ n
at_least_one n some = omega (arith, some)

pub workable : (retry : Bool) (batch : ℕ) (histories : List (List Entry)) (jobs : List Job) → 0 < length histories → 1 ≤ batch
    → IsTrue (are_distinct jobs) → All HasScript jobs → IsWorkable batch histories (remaining_jobs retry histories jobs) (work_of retry batch histories jobs)
workable retry batch histories jobs lanes_are some distinct scripts =
    subst (λ (n : ℕ). IsWorkable batch histories remain (pieces_of (length histories) n [] remain)) (sym (at_least_one batch some)) (record {
      pieces = are_pieces lanes batch above lanes_are [] remain differ
          (each_of HasScript remain (λ job there. each_in HasScript jobs (all_each HasScript jobs scripts) job (among job there)));
      differ = whole_differs lanes remain differ (pieces_of lanes batch [] remain)
          (pieces_from lanes batch above remain [] remain (each_of (λ job. IsIn job remain) remain (λ job there. there)))
          (λ lane. subst JobsDiffer (sym (at_lane lane)) (differ_filter (λ (job : Job). lane_of lanes job == lane) remain differ));
      lanes = at_lane;
      may = λ lane. subst (MayReserve (reverse (slice_index_or histories lane []))) (sym (at_lane lane)) (may_reserve retry histories jobs lane);
    })
  where
    lanes : ℕ
    lanes = length histories

    above : 0 < batch
    above = omega (arith, some)

    remain : List Job
    remain = remaining_jobs retry histories jobs

    among : (job : Job) → IsIn job (remaining_jobs retry histories jobs) → IsIn job jobs
    among job there =
        (in_filter (is_due retry histories) job jobs (served_in histories [] (filter (is_due retry histories) jobs) job there).0).0

    differ : JobsDiffer (remaining_jobs retry histories jobs)
    differ = differ_served histories [] (filter (is_due retry histories) jobs) (differ_filter (is_due retry histories) jobs (differ_from jobs distinct))

    at_lane : (lane : ℕ) → jobs_at lane (pieces_of (length histories) batch [] (remaining_jobs retry histories jobs)) ≡ jobs_of_lane (length histories) lane (remaining_jobs retry histories jobs)
    at_lane lane = at_pieces (length histories) batch above lane 0 [] (remaining_jobs retry histories jobs) above (mod-eq_of_lt above)
