-- The work list of a campaign: the jobs for which a counter is to be reserved, in pieces of one lane each.
use Rattle.std.specs.Prelude.{ℕ, ◌+◌, ◌%◌, nat_le, max, Bool, true, false, ◌==◌, ◌&&◌, if◌then◌else◌, List, [], ◌∷◌, ◌++◌, length, take, reverse, slice_index_or}
use Rattle.std.specs.List.{filter, AllZip}
use Rattle.ota_core.specs.Keyset.{Keyset, is_same_keyset}
use Rattle.ota_core.specs.History.{next_counter, LAST_COUNTER}
use Rattle.ota_core.specs.Questions.{state_of}
use Rattle.ota_core.specs.Outcome.{outcome_of}
use Rattle.ota_core.specs.declared.jobs.Job.{Job}
use Rattle.ota_core.specs.declared.entries.Entry.{Entry}
use Rattle.ota_core.specs.declared.questions.KeysetState.{KeysetState}
use Rattle.ota_core.specs.declared.questions.KeysetState.TheVariants as state
use Rattle.keyset_book.specs.Answers.{looked_of}
use Rattle.keyset_book.specs.Book.{StandsFor}
use Rattle.keyset_book.specs.declared.answers.Looked.{Looked}
use Rattle.keyset_book.specs.declared.answers.Looked.TheVariants.{New, Refused}
use Rattle.keyset_book.specs.declared.books.Book.{Book}
use Rattle.senders.specs.declared.pieces.Work.{Work}

-- the books are those of the histories of the lanes, in order
abbrev pub AreBooksOf : List (List Entry) → List Book → Type 0
AreBooksOf histories books = AllZip StandsFor books histories

-- the lane of a job: its card's number modulo the number of lanes
abbrev pub lane_of : ℕ → Job → ℕ
lane_of lanes job = job.keyset.card.0 % lanes

-- the history of a job's lane
abbrev pub history_for : List (List Entry) → Job → List Entry
history_for histories job = slice_index_or histories (lane_of (length histories) job) []

-- a job of which this has become is to be reserved: it is new, or it is refused and such jobs are tried again
abbrev pub is_wanted : Bool → Looked → Bool
is_wanted retry New = true
is_wanted retry (Refused keyset counter) = retry
is_wanted retry _ = false

-- the job is to be reserved, by the history of its lane
abbrev pub is_due_in : Bool → List Entry → Job → Bool
is_due_in retry history job = is_wanted retry (looked_of (outcome_of history job.id))

abbrev pub is_due : Bool → List (List Entry) → Job → Bool
is_due retry histories job = is_due_in retry (history_for histories job) job

-- the jobs on a keyset
abbrev pub jobs_on : Keyset → List Job → List Job
jobs_on keyset jobs = filter (λ job. is_same_keyset job.keyset keyset) jobs

-- the keyset is in use
abbrev pub is_open : KeysetState → Bool
is_open state.Open = true
is_open _ = false

-- the keyset is open, and a counter of it is left behind so many jobs
abbrev pub has_counter_in : List Entry → Keyset → ℕ → Bool
has_counter_in history keyset before =
    is_open (state_of keyset (reverse history)) && nat_le (next_counter keyset (reverse history) + before) LAST_COUNTER

-- a counter is left for the job, behind the due jobs before it
abbrev pub has_counter : List (List Entry) → List Job → Job → Bool
has_counter histories before job = has_counter_in (history_for histories job) job.keyset (length (jobs_on job.keyset before))

-- of jobs that stand behind others, those for which a counter is left
abbrev pub served : List (List Entry) → List Job → List Job → List Job
served histories before [] = []
served histories before (job ∷ jobs) =
    (if has_counter histories before job then job ∷ [] else []) ++ served histories (before ++ job ∷ []) jobs

-- the jobs for which a counter is to be reserved, in order
abbrev pub remaining_jobs : Bool → List (List Entry) → List Job → List Job
remaining_jobs retry histories jobs = served histories [] (filter (is_due retry histories) jobs)

-- the jobs on a lane
abbrev pub jobs_of_lane : ℕ → ℕ → List Job → List Job
jobs_of_lane lanes lane jobs = filter (λ job. lane_of lanes job == lane) jobs

-- each job of a lane that stands behind a multiple of `size` others of the lane begins a piece
abbrev pub begins_piece : ℕ → ℕ → List Job → Job → Bool
begins_piece lanes size before job = length (jobs_of_lane lanes (lane_of lanes job) before) % size == 0

-- the piece that begins with the first of these jobs: it has the next `size` jobs of its lane
abbrev pub piece_from : ℕ → ℕ → ℕ → List Job → Work
piece_from lanes size lane jobs = record { lane = lane; jobs = take size (jobs_of_lane lanes lane jobs) }

-- of jobs that stand behind others, the pieces that begin with one of them
abbrev pub pieces_of : ℕ → ℕ → List Job → List Job → List Work
pieces_of lanes size before [] = []
pieces_of lanes size before (job ∷ jobs) =
    (if begins_piece lanes size before job then piece_from lanes size (lane_of lanes job) (job ∷ jobs) ∷ [] else [])
    ++ pieces_of lanes size (before ++ job ∷ []) jobs

-- the work list of the jobs, by the histories of the lanes. A piece has at most `batch` jobs, and at least one.
abbrev pub work_of : Bool → ℕ → List (List Entry) → List Job → List Work
work_of retry batch histories jobs = pieces_of (length histories) (max batch 1) [] (remaining_jobs retry histories jobs)
