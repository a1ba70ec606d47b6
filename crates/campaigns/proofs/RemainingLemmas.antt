-- The jobs that remain, job by job.
use Rattle.std.proofs.Common.{◌≡◌, ℕ, zero, suc, ◌+◌, ◌<◌, nat_le, Bool, true, false, ◌&&◌, cond, if◌then◌else◌, List, [], ◌∷◌, ◌++◌, length, get_or, take, refl, sym, ap, arith, append_assoc, length-append}
use Rattle.std.specs.Prelude.{slice_index_or, Result, Ok, Err}
use Rattle.std.specs.List.{filter}
use Rattle.std.proofs.lemmas.List.{append-nil}
use Rattle.std.proofs.lemmas.List.Elements.{filter-append, filter_more}
use Rattle.std.proofs.lemmas.Bool.Decides.{nat_tests}
use Rattle.ota_core.specs.Keyset.{Keyset, is_same_keyset}
use Rattle.ota_core.specs.History.{LAST_COUNTER}
use Rattle.ota_core.specs.declared.jobs.Job.{Job}
use Rattle.ota_core.specs.declared.entries.Entry.{Entry}
use Rattle.ota_core.specs.declared.questions.KeysetState.{KeysetState}
use Rattle.ota_core.specs.declared.questions.KeysetState.TheVariants as state
use Rattle.keyset_book.specs.Answers.{next_where}
use Rattle.keyset_book.specs.Book.{StandsFor}
use Rattle.keyset_book.specs.declared.answers.BookErr.{BookErr}
use Rattle.keyset_book.specs.declared.answers.BookErr.TheVariants.{Exhausted}
use Rattle.keyset_book.specs.declared.books.Book.{Book}
use Rattle.campaigns.specs.WorkList.{AreBooksOf, is_open, is_due, jobs_on, has_counter, served, remaining_jobs}

-- there are as many books as histories
pub as_many : (books : List Book) (histories : List (List Entry)) → AreBooksOf histories books → length books ≡ length histories
as_many [] [] are = refl
as_many [] (history ∷ histories) are = absurd are
as_many (book ∷ books) [] are = absurd are
as_many (book ∷ books) (history ∷ histories) are = ap suc (as_many books histories are.1)

-- the book at a place stands for the history there
pub book_at : (books : List Book) (histories : List (List Entry)) → AreBooksOf histories books → (i : ℕ) (book : Book) → i < length books
    → StandsFor (get_or books i book) (slice_index_or histories i [])
book_at [] [] are i book within = absurd (omega (arith, within))
book_at [] (history ∷ histories) are i book within = absurd are
book_at (first ∷ books) [] are i book within = absurd are
book_at (first ∷ books) (history ∷ histories) are zero book within = are.0
book_at (first ∷ books) (history ∷ histories) are (suc i) book within = book_at books histories are.1 i book (omega (arith, within))

-- counters that are one answer are one
same_answer : (counter next : ℕ) → ◌≡◌ {A = Result ℕ BookErr} (Ok counter) (Ok next) → counter ≡ next
same_answer counter next e = cc

-- a counter is left, by the counter that comes next
pub left_next : (stands : KeysetState) (next before counter : ℕ) → Ok counter ≡ next_where stands next
    → nat_le (counter + before) LAST_COUNTER ≡ (is_open stands && nat_le (next + before) LAST_COUNTER)
left_next state.New next before counter is = cc
left_next state.Closed next before counter is = cc
left_next state.Open next before counter is = by_test (nat_le next LAST_COUNTER) is
  where
    by_test : (left : Bool) → Ok counter ≡ (if left then Ok next else Err Exhausted) → nat_le (counter + before) LAST_COUNTER ≡ nat_le (next + before) LAST_COUNTER
    by_test true e = ap (λ n. nat_le (n + before) LAST_COUNTER) (same_answer counter next e)
    by_test false e = cc

-- no counter is left where none comes next
pub none_left : (stands : KeysetState) (next before : ℕ) (why : BookErr) → Err why ≡ next_where stands next
    → false ≡ (is_open stands && nat_le (next + before) LAST_COUNTER)
none_left state.New next before why is = refl
none_left state.Closed next before why is = refl
none_left state.Open next before why is = by_test (nat_le next LAST_COUNTER) refl is
  where
    by_test : (left : Bool) → nat_le next LAST_COUNTER ≡ left → Err why ≡ (if left then Ok next else Err Exhausted) → false ≡ nat_le (next + before) LAST_COUNTER
    by_test true e none = cc
    by_test false e none = grind (arith, nat_tests, e)

-- the jobs that are served, with one more behind them
served_push : (histories : List (List Entry)) (before jobs : List Job) (job : Job)
    → served histories before (jobs ++ job ∷ []) ≡ served histories before jobs ++ (if has_counter histories (before ++ jobs) job then job ∷ [] else [])
served_push histories before [] job =
    rw (append-nil before) (append-nil (if has_counter histories before job then job ∷ [] else []))
served_push histories before (first ∷ jobs) job =
    rw (served_push histories (before ++ first ∷ []) jobs job, append_assoc before (first ∷ []) jobs)
    (sym (append_assoc (if has_counter histories before first then first ∷ [] else []) (served histories (before ++ first ∷ []) jobs)
    (if has_counter histories (before ++ first ∷ jobs) job then job ∷ [] else [])))

module _ (retry : Bool) (histories : List (List Entry)) (jobs : List Job) (i : ℕ) (job : Job) (within : i < length jobs) (is : job ≡ get_or jobs i job) where
  -- the jobs before it that are due
  abbrev pub due_before : List Job
  due_before = filter (is_due retry histories) (take i jobs)

  due_more : filter (is_due retry histories) (take (i + 1) jobs) ≡ due_before ++ cond (is_due retry histories job) (job ∷ []) []
  due_more = rw (filter_more (is_due retry histories) jobs i job within, ← is) refl

  -- one more job that may remain
  pub remaining_more : remaining_jobs retry histories (take (i + 1) jobs)
      ≡ remaining_jobs retry histories (take i jobs) ++ (if is_due retry histories job && has_counter histories due_before job then job ∷ [] else [])
  remaining_more = rw due_more (by_test (is_due retry histories job))
    where
      by_test : (due : Bool) → served histories [] (due_before ++ cond due (job ∷ []) [])
          ≡ served histories [] due_before ++ (if due && has_counter histories due_before job then job ∷ [] else [])
      by_test true = served_push histories [] due_before job
      by_test false = rw (append-nil due_before) (sym (append-nil (served histories [] due_before)))

  -- one more job that may be due
  pub counts_more : (keyset : Keyset) → length (jobs_on keyset (filter (is_due retry histories) (take (i + 1) jobs)))
      ≡ length (jobs_on keyset due_before) + (if is_due retry histories job && is_same_keyset job.keyset keyset then 1 else 0)
  counts_more keyset = rw due_more (by_test (is_due retry histories job))
    where
      on : List Job → List Job
      on = jobs_on keyset

      by_same : (same : Bool) → length (on due_before ++ cond same (job ∷ []) []) ≡ length (on due_before) + (if same then 1 else 0)
      by_same true = length-append (on due_before) (job ∷ [])
      by_same false = rw (append-nil (on due_before)) (omega arith)

      by_test : (due : Bool) → length (on (due_before ++ cond due (job ∷ []) []))
          ≡ length (on due_before) + (if due && is_same_keyset job.keyset keyset then 1 else 0)
      by_test true = rw (filter-append (λ other. is_same_keyset other.keyset keyset) due_before (job ∷ [])) (by_same (is_same_keyset job.keyset keyset))
      by_test false = rw (append-nil due_before) (omega arith)
