-- The summary of a report: how many jobs there are, and how many of them stand in each way.
use Rattle.std.specs.Prelude.{ℕ, Bool, true, false, List, ◌++◌, length, codes}
use Rattle.std.specs.List.{count_by}
use Rattle.std.specs.Fmt.{decimal}
use Rattle.ota_core.specs.Outcome.{outcome_of}
use Rattle.ota_core.specs.declared.jobs.Job.{Job}
use Rattle.ota_core.specs.declared.entries.Entry.{Entry}
use Rattle.keyset_book.specs.Answers.{looked_of}
use Rattle.keyset_book.specs.declared.answers.Looked.{Looked}
use Rattle.keyset_book.specs.declared.answers.Looked.TheVariants.{New, Unsettled, Done, Refused}
use Rattle.reports.specs.Report.{history_of}

-- the card ran the job's script
abbrev pub is_done : Looked → Bool
is_done (Done keyset counter) = true
is_done _ = false

-- the card used the counter up and ran nothing
abbrev pub is_refused : Looked → Bool
is_refused (Refused keyset counter) = true
is_refused _ = false

-- the job waits for its answer, or for a counter
abbrev pub is_unsettled : Looked → Bool
is_unsettled New = true
is_unsettled (Unsettled keyset counter) = true
is_unsettled _ = false

-- what has become of a job, by the history of its keyset's lane
abbrev pub looked_in : List (List Entry) → Job → Looked
looked_in histories job = looked_of (outcome_of (history_of histories job.keyset.card) job.id)

-- how many of the jobs stand so
abbrev pub jobs_that : (Looked → Bool) → List (List Entry) → List Job → ℕ
jobs_that test histories jobs = count_by (λ job. test (looked_in histories job)) jobs

-- the line with these numbers
abbrev pub summary_with : ℕ → ℕ → ℕ → ℕ → List ℕ
summary_with all done refused unsettled =
    codes "jobs " ++ decimal all ++ codes " done " ++ decimal done ++ codes " refused " ++ decimal refused
    ++ codes " unsettled " ++ decimal unsettled ++ codes "\n"

-- the summary of the jobs by the histories of the lanes
abbrev pub summary_of : List Job → List (List Entry) → List ℕ
summary_of jobs histories =
    summary_with (length jobs) (jobs_that is_done histories jobs) (jobs_that is_refused histories jobs) (jobs_that is_unsettled histories jobs)
