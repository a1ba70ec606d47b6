-- What a sender does with a lane that it has by itself.
use Rattle.std.specs.Prelude.{◌≡◌, ◌⊎◌, ℕ, zero, suc, ◌+◌, ◌*◌, ◌≤◌, ◌==◌, Bool, true, false, if◌then◌else◌, List, [], ◌++◌, length, reverse, flat_map, filter, filter_map, IsSome, Option, None}
use Rattle.disk_model.specs.Disk.{Meaning}
use Rattle.ota_core.specs.Entry.{Reservation, by_of}
use Rattle.ota_core.specs.Job.{is_same_job}
use Rattle.ota_core.specs.declared.entries.Entry.{Entry}
use Rattle.ota_core.specs.declared.jobs.JobId.{JobId}
use Rattle.site_model.specs.Port.{PortState}
use Rattle.site_model.specs.Cards.{port_now}
use Rattle.site_model.specs.declared.departures.Departure.{Departure}
use Rattle.world_core.specs.declared.lines.Line.{Line}
use Rattle.lane_lock.specs.Numbers.{Each, IsIn}
use Rattle.lane_engine.specs.Adding.{is_settlement}
use Rattle.lane_engine.specs.Departing.{departures_under}
use Rattle.lane_engine.specs.LaneValue.{LaneValue}
use Rattle.lane_engine.specs.Unsettled.{unsettled_in}

-- the reservation of a watched job, where it is of this lane and unsettled, on a keyset that is open
abbrev pub due_of : ℕ → List Entry → ℕ × JobId → Option Reservation
due_of place entries watched = if watched.0 == place then unsettled_in (reverse entries) watched.1 else None

-- the reservations of the watched jobs of a lane that are unsettled, in the order of the list
abbrev pub due_in : ℕ → List (ℕ × JobId) → List Entry → List Reservation
due_in place watch entries = filter_map (due_of place entries) watch

-- all pieces of the packets of these reservations, in order
abbrev pub departures_due : List Entry → List Reservation → List Departure
departures_due entries due = flat_map (departures_under entries) due

-- the entries are the first and settlements under that number
pub record IsSettling (by : ℕ) (old new : List Entry) : Type 0 where
  pub added : List Entry
  pub entries : new ≡ old ++ added
  pub settle : Each (λ entry. (is_settlement entry ≡ true) × (by_of entry ≡ by)) added

module _ {D B C : Type 0} (told : Meaning D B C) (port : B → PortState) (lines : C → ℕ → List Line) (place by : ℕ) (watch : List (ℕ × JobId)) (polls : ℕ) where
  -- The port was asked `polls` times for each watched job of the lane that was unsettled, or fewer times, where none was left.
  abbrev pub IsPolledFor : (unsettled : ℕ) → (old new : LaneValue D) → Type 0
  IsPolledFor unsettled old new = (count : ℕ) × ((port_now told port lines new.site).polls ≡ (port_now told port lines old.site).polls + count)
      × ((count ≡ polls * unsettled) ⊎ ((count ≤ polls * unsettled) × (due_in place watch new.journal.entries ≡ [])))

  -- A round: each watched job of the lane that is unsettled at its start was sent once more, where this is a round of sending,
  -- and the port was asked for each. Nothing was added but settlements.
  pub record IsRound (resends : Bool) (old new : LaneValue D) : Type 0 where
    pub settling : IsSettling by old.journal.entries new.journal.entries
    pub sent : (port_now told port lines new.site).sent
        ≡ (port_now told port lines old.site).sent ++ (if resends then departures_due old.journal.entries (due_in place watch old.journal.entries) else [])
    pub polled : IsPolledFor (length (due_in place watch old.journal.entries)) old new

  -- so many rounds of sending, one after another
  abbrev pub AreRounds : ℕ → LaneValue D → LaneValue D → Type 0
  AreRounds zero old new = new ≡ old
  AreRounds (suc count) old new = (mid : LaneValue D) × IsRound true old mid × AreRounds count mid new

  -- round 0, in which nothing is sent, and then rounds 1 to `resends`
  abbrev pub AllRounds : ℕ → LaneValue D → LaneValue D → Type 0
  AllRounds resends old new = (mid : LaneValue D) × IsRound false old mid × AreRounds resends mid new

-- ---- what all rounds did for the jobs that are unsettled at their end

-- a watched job and the reservation of it that was sent again
pub record Again : Type 0 where
  pub job : JobId
  pub reservation : Reservation

-- how often the job stands in a list of these
abbrev pub times_again : JobId → List Again → ℕ
times_again job list = length (filter (λ again. is_same_job again.job job) list)

module _ {D B C : Type 0} (told : Meaning D B C) (port : B → PortState) (lines : C → ℕ → List Line) (place : ℕ) (watch : List (ℕ × JobId)) (polls resends : ℕ) where
  -- In each round of sending each job that is unsettled at the end was sent again once, with all pieces of its packet, and the
  -- port was asked `polls` times for it in each round.
  pub record IsSentAgain (old new : LaneValue D) : Type 0 where
    pub rounds : List (List Again)
    pub count : length rounds ≡ resends
    pub sent : (port_now told port lines new.site).sent
        ≡ (port_now told port lines old.site).sent ++ flat_map (λ round. flat_map (λ again. departures_under new.journal.entries again.reservation) round) rounds
    pub each : (watched : ℕ × JobId) → IsIn watched watch → IsSome (due_of place new.journal.entries watched) → Each (λ round. times_again watched.1 round ≡ 1) rounds
    pub asked : (port_now told port lines old.site).polls + polls * (1 + resends) * length (due_in place watch new.journal.entries) ≤ (port_now told port lines new.site).polls
