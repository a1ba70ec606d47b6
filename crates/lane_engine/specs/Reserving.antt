-- Which entries a call adds, and which refusal the history gives. A past is the entries so far, newest first.
use Rattle.std.specs.Prelude.{◌≡◌, ℕ, ◌+◌, ◌%◌, ◌≤◌, nat_le, Bool, true, false, if◌then◌else◌, not, Option, Some, None, List, [], ◌∷◌, length, filter, map}
use Rattle.std.specs.List.{list_any, count_by}
use Rattle.std.specs.Option.{option_or}
use Rattle.ota_core.specs.Job.{is_same_job}
use Rattle.ota_core.specs.Keyset.{Keyset, is_same_keyset}
use Rattle.ota_core.specs.Entry.{Reservation, is_open_of, is_refusal_of, is_reserve_of, is_settlement_of}
use Rattle.ota_core.specs.History.{last_reservation, next_counter, LAST_COUNTER}
use Rattle.ota_core.specs.Questions.{state_of}
use Rattle.ota_core.specs.declared.entries.Entry.{Entry}
use Rattle.ota_core.specs.declared.entries.Entry.TheVariants.{Open, Reserve, Close}
use Rattle.ota_core.specs.declared.jobs.Job.{Job}
use Rattle.ota_core.specs.declared.jobs.JobId.{JobId}
use Rattle.ota_core.specs.declared.keysets.KeysetFacts.{KeysetFacts}
use Rattle.ota_core.specs.declared.questions.KeysetState.{KeysetState}
use Rattle.ota_core.specs.declared.questions.KeysetState.TheVariants as state
use Rattle.keyset_book.specs.declared.answers.Settled.{Settled}
use Rattle.keyset_book.specs.declared.answers.Settled.TheVariants as settled
use Rattle.lane_engine.specs.declared.answers.LaneErr.{LaneErr}
use Rattle.lane_engine.specs.declared.answers.LaneErr.TheVariants as lane_err

-- the keyset isn't in use
abbrev pub state_refusal : KeysetState → Option LaneErr
state_refusal state.New = Some lane_err.UnknownKeyset
state_refusal state.Closed = Some lane_err.Closed
state_refusal state.Open = None

-- the job is reserved under this counter, and that isn't refused
abbrev pub taken_refusal : List Entry → Option Reservation → Option LaneErr
taken_refusal past None = None
taken_refusal past (Some last) = if list_any (is_refusal_of last) past then None else Some (lane_err.AlreadyReserved last.counter)

-- a counter is settled as refused
abbrev pub is_refusal : Option Settled → Bool
is_refusal (Some (settled.Refused status)) = true
is_refusal _ = false

-- no counter of the keyset is left
abbrev pub counter_refusal : ℕ → Option LaneErr
counter_refusal next = if nat_le next LAST_COUNTER then None else Some lane_err.Exhausted

-- why the job can't be reserved behind this past: the first that applies
abbrev pub job_refusal : List Entry → Job → Option LaneErr
job_refusal past job =
    option_or (state_refusal (state_of job.keyset past))
    (option_or (taken_refusal past (last_reservation job.id past)) (counter_refusal (next_counter job.keyset past)))

-- the reservation of the job: under the counter that comes next
abbrev pub reserve_of : (by moment : ℕ) → List ℕ → List Entry → Job → Entry
reserve_of by moment name past job = Reserve by moment job.keyset (next_counter job.keyset past) job.id job.tar name job.body

-- the reservations of the jobs, each behind those before it
abbrev pub reserves_of : (by moment : ℕ) → List ℕ → List Entry → List Job → List Entry
reserves_of by moment name past [] = []
reserves_of by moment name past (job ∷ jobs) =
    let reserve = reserve_of by moment name past job in reserve ∷ reserves_of by moment name (reserve ∷ past) jobs

-- the first refusal of a job, by the history followed by the reservations of the jobs before it
abbrev pub jobs_refusal : (by moment : ℕ) → List ℕ → List Entry → List Job → Option LaneErr
jobs_refusal by moment name past [] = None
jobs_refusal by moment name past (job ∷ jobs) =
    option_or (job_refusal past job) (jobs_refusal by moment name (reserve_of by moment name past job ∷ past) jobs)

-- the counter of the keyset that comes next behind a past and behind reservations of these jobs
abbrev pub next_behind : List Entry → List Job → Keyset → ℕ
next_behind past before keyset = next_counter keyset past + count_by (λ job. is_same_keyset job.keyset keyset) before

-- why the job can't be reserved behind a past and behind reservations of these other jobs
abbrev pub refusal_behind : List Entry → List Job → Job → Option LaneErr
refusal_behind past before job =
    option_or (state_refusal (state_of job.keyset past))
    (option_or (taken_refusal past (last_reservation job.id past)) (counter_refusal (next_behind past before job.keyset)))

-- the job is of a card of the lane, and its script has 1 to 4,096 octets
pub record IsJobOf (lane lanes : ℕ) (job : Job) : Type 0 where
  pub of_lane : job.keyset.card.0 % lanes ≡ lane
  pub some : 1 ≤ length job.body
  pub short : length job.body ≤ 4096

-- no job stands twice
abbrev pub AreOthers : JobId → List Job → Type 0
AreOthers id [] = Unit {0}
AreOthers id (job ∷ jobs) = (is_same_job job.id id ≡ false) × AreOthers id jobs

abbrev pub JobsDiffer : List Job → Type 0
JobsDiffer [] = Unit {0}
JobsDiffer (job ∷ jobs) = AreOthers job.id jobs × JobsDiffer jobs

-- why nothing of the reservation can be sent again behind this past: the first that applies
abbrev pub resend_refusal : List Entry → Reservation → Option LaneErr
resend_refusal past place =
    option_or (state_refusal (state_of place.keyset past))
    (if not (list_any (is_reserve_of place) past) then Some lane_err.NotReserved
    else (if list_any (is_settlement_of place) past then Some lane_err.NotReserved else None))

-- the Opens of the keysets that the past lacks
abbrev pub opens_of : (by moment : ℕ) → List Entry → List (Keyset × KeysetFacts) → List Entry
opens_of by moment past keysets =
    map (λ keyset. Open by moment keyset.0 keyset.1) (filter (λ keyset. not (list_any (is_open_of keyset.0) past)) keysets)

-- no keyset stands twice
abbrev pub KeysetsDiffer : List (Keyset × KeysetFacts) → Type 0
KeysetsDiffer [] = Unit {0}
KeysetsDiffer (keyset ∷ keysets) = (list_any (λ other. is_same_keyset other.0 keyset.0) keysets ≡ false) × KeysetsDiffer keysets

abbrev pub close_of : (by moment : ℕ) → Keyset → List Entry
close_of by moment keyset = Close by moment keyset ∷ []
