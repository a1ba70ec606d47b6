-- In which order a session adds what is due to the rows of a lane.
use Rattle.std.specs.Prelude.{◌≡◌, ℕ, ◌%◌, ◌<◌, nat_eq, if◌then◌else◌, Option, None, Some, List, [], ◌∷◌, ◌++◌, length, reverse, slice_index_or}
use Rattle.std.specs.List.{filter}
use Rattle.ota_core.specs.Keyset.{Keyset}
use Rattle.ota_core.specs.History.{next_counter}
use Rattle.ota_core.specs.declared.keysets.KeysetFacts.{KeysetFacts}
use Rattle.ota_core.specs.declared.jobs.Job.{Job}
use Rattle.ota_core.specs.declared.entries.Entry.{Entry}
use Rattle.plan_reader.specs.declared.plans.Plan.{Plan}
use Rattle.lane_session.specs.Rows.{facts_of}
use Rattle.lane_session.specs.Due.{is_served, reservation_for, open_for}
use Rattle.lane_session.specs.Run.{IsFullFor}
use Rattle.lane_session.specs.Opens.{has_open}
use Rattle.lane_session.specs.declared.lanes.Lane.{Lane}

-- the rows of a lane, in file order
abbrev pub rows_of_lane : ℕ → ℕ → List Job → List Job
rows_of_lane lane lanes jobs = filter (λ job. nat_eq (job.keyset.card.0 % lanes) lane) jobs

-- what is due to a row by the past of its lane: the next counter of its keyset, or nothing
abbrev pub reserved_for : List Entry → Job → List Entry
reserved_for past job = if is_served past job then [] else reservation_for past job (next_counter job.keyset past) ∷ []

-- what is due to rows, where each is added before the next row
abbrev pub reserved_for_rows : List Entry → List Job → List Entry
reserved_for_rows past [] = []
reserved_for_rows past (job ∷ jobs) = reserved_for past job ++ reserved_for_rows (reserved_for past job ++ past) jobs

-- the next batch is the front of what is left to add
abbrev pub IsFrontOf : List Entry → List Entry → Type 0
IsFrontOf rest next = (behind : List Entry) × (rest ≡ next ++ behind)

-- What was added to a lane is the front of what is due to its rows in file order; where the lane goes on, all up to the
-- rows that are left. Where it is full, it has no room for the next batch.
pub record IsInOrder (lane lanes : ℕ) (jobs left : List Job) (before now : Lane) : Type 0 where
  pub added : List Entry
  pub rest : List Entry
  pub entries : now.journal.entries ≡ before.journal.entries ++ added
  pub order : added ++ rest ≡ reserved_for_rows (reverse before.journal.entries) (rows_of_lane lane lanes jobs)
  pub whole : now.end ≡ None → rest ≡ reserved_for_rows (reverse now.journal.entries) (rows_of_lane lane lanes left)
  pub full : before.end ≡ None → IsFullFor (IsFrontOf rest) now.journal now.end

-- so it is on each lane
abbrev pub AllInOrder : List Job → List Job → List Lane → List Lane → Type 0
AllInOrder jobs left befores lanes = (k : ℕ) (before now : Lane) → k < length befores
    → IsInOrder k (length befores) jobs left (slice_index_or befores k before) (slice_index_or lanes k now)

-- the Open of a keyset by its facts in the plan, where it has them
abbrev pub open_by : List Entry → Keyset → Option KeysetFacts → List Entry
open_by past keyset None = []
open_by past keyset (Some facts) = open_for past keyset facts ∷ []

-- the Open that is due to a keyset by the past of its lane
abbrev pub opens_for : Plan → List Entry → Keyset → List Entry
opens_for plan past keyset = if has_open keyset past then [] else open_by past keyset (facts_of plan keyset)

-- the Opens that are due to the keysets of rows, where each is added before the next row
abbrev pub opens_for_rows : Plan → List Entry → List Job → List Entry
opens_for_rows plan past [] = []
opens_for_rows plan past (job ∷ jobs) = opens_for plan past job.keyset ++ opens_for_rows plan (opens_for plan past job.keyset ++ past) jobs

-- What was opened on a lane is the front of what is due to its rows in file order; where the lane goes on, all but the
-- Opens that wait and those of the rows that are left. Where it is full, it has no room for the next batch.
pub record IsOpenedInOrder (plan : Plan) (lane lanes : ℕ) (jobs left : List Job) (before now : Lane) (waiting : List Entry) : Type 0 where
  pub added : List Entry
  pub rest : List Entry
  pub entries : now.journal.entries ≡ before.journal.entries ++ added
  pub order : added ++ rest ≡ opens_for_rows plan (reverse before.journal.entries) (rows_of_lane lane lanes jobs)
  pub whole : now.end ≡ None → rest ≡ waiting ++ opens_for_rows plan (reverse waiting ++ reverse now.journal.entries) (rows_of_lane lane lanes left)
  pub full : before.end ≡ None → IsFullFor (IsFrontOf rest) now.journal now.end

-- so it is on each lane
abbrev pub AllOpenedInOrder : Plan → List Job → List Lane → List Lane → Type 0
AllOpenedInOrder plan jobs befores lanes = (k : ℕ) (before now : Lane) → k < length befores
    → IsOpenedInOrder plan k (length befores) jobs [] (slice_index_or befores k before) (slice_index_or lanes k now) []

-- what a session adds to a lane: the Opens that are due to its rows, and behind them the reservations
abbrev pub due_to_rows : Plan → List Entry → List Job → List Entry
due_to_rows plan past rows = opens_for_rows plan past rows ++ reserved_for_rows (reverse (opens_for_rows plan past rows) ++ past) rows

-- What was added to a lane is the front of what is due to its rows; all of it, where the lane goes on. Where it is full,
-- it has no room for the next batch.
pub record IsFrontOfDue (plan : Plan) (lane lanes : ℕ) (jobs : List Job) (before now : Lane) : Type 0 where
  pub added : List Entry
  pub rest : List Entry
  pub entries : now.journal.entries ≡ before.journal.entries ++ added
  pub order : added ++ rest ≡ due_to_rows plan (reverse before.journal.entries) (rows_of_lane lane lanes jobs)
  pub whole : now.end ≡ None → rest ≡ []
  pub full : before.end ≡ None → IsFullFor (IsFrontOf rest) now.journal now.end

-- so it is on each lane
abbrev pub AreFrontsOfDue : Plan → List Job → List Lane → List Lane → Type 0
AreFrontsOfDue plan jobs befores lanes = (k : ℕ) (before now : Lane) → k < length befores
    → IsFrontOfDue plan k (length befores) jobs (slice_index_or befores k before) (slice_index_or lanes k now)
