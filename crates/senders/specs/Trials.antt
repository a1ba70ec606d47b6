-- Small sessions, as the tests run them: a card for each lane, and jobs that are numbered on.
use Rattle.std.specs.Prelude.{◌≡◌, ℕ, ◌+◌, ◌<◌, ◌≤◌, false, List, [], ◌∷◌, length, None}
use Rattle.disk_model.specs.Counts.{Counts}
use Rattle.ota_core.specs.Keyset.{Keyset}
use Rattle.ota_core.specs.declared.entries.Entry.TheVariants.{Open}
use Rattle.ota_core.specs.declared.jobs.Job.{Job}
use Rattle.ota_core.specs.declared.jobs.JobId.{JobId}
use Rattle.ota_core.specs.declared.keysets.KeysetFacts.{KeysetFacts}
use Rattle.lane_engine.specs.LaneValue.{LaneValue}
use Rattle.senders.specs.declared.pieces.Work.{Work}

-- the keyset of the one card of a lane
abbrev pub keyset_for : ℕ → Keyset
keyset_for lane = record { card = record { 0 = lane }; kvn = 1 }

-- the job of this number
abbrev pub id_for : ℕ → JobId
id_for number = record { campaign = 7; job = number }

-- the job of this number, for the card of a lane
pub record IsTrial (lane number : ℕ) (job : Job) : Type 0 where
  pub id : job.id ≡ id_for number
  pub keyset : job.keyset ≡ keyset_for lane
  pub some : 1 ≤ length job.body
  pub short : length job.body ≤ 4096

-- jobs for the card of a lane, numbered on from this one
abbrev pub AreTrials : (lane from : ℕ) → List Job → Type 0
AreTrials lane from [] = Unit {0}
AreTrials lane from (job ∷ jobs) = IsTrial lane from job × AreTrials lane (from + 1) jobs

-- a piece of 1 to `batch` such jobs, of a lane that is there
pub record IsTrialPiece (batch lanes from : ℕ) (work : Work) : Type 0 where
  pub there : work.lane < lanes
  pub some : 1 ≤ length work.jobs
  pub few : length work.jobs ≤ batch
  pub jobs : AreTrials work.lane from work.jobs

-- such pieces, whose jobs are numbered on
abbrev pub AreTrialPieces : (batch lanes from : ℕ) → List Work → Type 0
AreTrialPieces batch lanes from [] = Unit {0}
AreTrialPieces batch lanes from (work ∷ works) = IsTrialPiece batch lanes from work × AreTrialPieces batch lanes (from + length work.jobs) works

-- watched jobs beside lanes that are there, numbered on
abbrev pub AreWatched : (lanes from : ℕ) → List (ℕ × JobId) → Type 0
AreWatched lanes from [] = Unit {0}
AreWatched lanes from (watched ∷ watch) = (watched.0 < lanes) × (watched.1 ≡ id_for from) × AreWatched lanes (from + 1) watch

-- a lane that was opened over an empty journal, and has opened the keyset of its card
pub record IsBegun {D : Type 0} (counts : D → Counts) (lanes place : ℕ) (lane : LaneValue D) : Type 0 where
  pub lane_is : lane.journal.lane ≡ place
  pub lanes_are : lane.journal.lanes ≡ lanes
  pub faults : lane.opened.counts.faults ≤ (counts lane.site).faults
  pub wants : lane.opened.counts.wants ≤ (counts lane.site).wants
  pub name : lane.name ≡ []
  pub end : lane.end ≡ None
  pub live : lane.is_stale ≡ false
  pub lost : lane.lost ≡ []
  pub moment : ℕ
  pub facts : KeysetFacts
  pub base : facts.base ≡ 0
  pub entries : lane.journal.entries ≡ Open 0 moment (keyset_for place) facts ∷ []
