-- Lanes that each belong to one sender.
use Rattle.std.specs.Prelude.{◌≡◌, ◌⊎◌, ℕ, ◌+◌, ◌%◌, ◌≤◌, false, List, [], ◌++◌, Some, None}
use Rattle.disk_model.specs.Counts.{Counts}
use Rattle.disk_model.specs.Disk.{Meaning, Tells}
use Rattle.ota_core.specs.Entry.{Reservation}
use Rattle.ota_core.specs.declared.jobs.JobId.{JobId}
use Rattle.site_model.specs.Port.{PortState}
use Rattle.site_model.specs.Cards.{port_now}
use Rattle.site_model.specs.declared.departures.Departure.{Departure}
use Rattle.world_core.specs.declared.lines.Line.{Line}
use Rattle.lane_lock.specs.Numbers.{Each, IsIn}
use Rattle.lane_engine.specs.Departing.{departures_under}
use Rattle.lane_engine.specs.Ends.{IsFounded}
use Rattle.lane_engine.specs.Keeping.{IsLaterLane}
use Rattle.lane_engine.specs.LaneValue.{LaneValue}
use Rattle.lane_engine.specs.Polling.{LONGEST_SETTLEMENT}
use Rattle.lane_engine.specs.declared.answers.LaneErr.{LaneErr}
use Rattle.lane_engine.specs.declared.answers.LaneErr.TheVariants as lane_err
use Rattle.senders.specs.Rounds.{AllRounds, IsSettling, due_in}
use Rattle.senders.specs.Served.{with_lost}
use Rattle.senders.specs.declared.settings.Settings.{Settings}

-- the number of the sender of the lane at a place
abbrev pub sender_of : (senders place : ℕ) → ℕ
sender_of senders place = place % senders + 1

module _ {D B C : Type 0} (told : Meaning D B C) (counts : D → Counts) (port : B → PortState) (lines : C → ℕ → List Line) where
  -- What was handed over are pieces of packets of the watched jobs that were unsettled.
  abbrev pub HasResent : ℕ → List (ℕ × JobId) → LaneValue D → LaneValue D → Type 0
  HasResent place watch old new = (more : List Departure) × ((port_now told port lines new.site).sent ≡ (port_now told port lines old.site).sent ++ more)
      × Each (λ departure. (reservation : Reservation) × IsIn reservation (due_in place watch old.journal.entries) × IsIn departure (departures_under new.journal.entries reservation)) more

  -- These were handed to the port, and it wasn't asked.
  pub record HasSent (departures : List Departure) (old new : LaneValue D) : Type 0 where
    pub sent : (port_now told port lines new.site).sent ≡ (port_now told port lines old.site).sent ++ departures
    pub polls : (port_now told port lines new.site).polls ≡ (port_now told port lines old.site).polls

  -- The port was asked so many times, or fewer times where no watched job is left, and nothing was handed to it.
  pub record HasPolled (place : ℕ) (watch : List (ℕ × JobId)) (polls : ℕ) (old new : LaneValue D) : Type 0 where
    pub sent : (port_now told port lines new.site).sent ≡ (port_now told port lines old.site).sent
    pub count : ℕ
    pub asked : (port_now told port lines new.site).polls ≡ (port_now told port lines old.site).polls + count
    pub enough : (count ≡ polls) ⊎ ((count ≤ polls) × (due_in place watch new.journal.entries ≡ []))

  -- What a call leaves of a lane that one sender has: later, longer by settlements under its number, of which the last may be
  -- lost, with the same end, and what was handed over are pieces of packets of watched jobs.
  pub record IsAlone (by place : ℕ) (watch : List (ℕ × JobId)) (old new : LaneValue D) : Type 0 where
    pub later : IsLaterLane told counts port lines old new
    pub settling : IsSettling by old.journal.entries new.journal.entries
    pub all : IsSettling by (with_lost old) (with_lost new)
    pub end : new.end ≡ old.end
    pub handed : Tells told old.site → HasResent place watch old new

  -- A refusal that ends the lane: it is founded, and where it is want of room, that of the longest settlement.
  pub record StopsAlone (lane : LaneValue D) (error : LaneErr) : Type 0 where
    pub founded : IsFounded counts lane.opened.counts lane error
    pub need : (length need : ℕ) → error ≡ lane_err.Full length need → need ≡ LONGEST_SETTLEMENT

  -- What its sender leaves of a lane that it has by itself: it did nothing where the lane has an end; else it made all rounds, or
  -- the lane has a founded end.
  pub record IsWorkedAlone (settings : Settings) (place : ℕ) (watch : List (ℕ × JobId)) (old new : LaneValue D) : Type 0 where
    pub later : IsLaterLane told counts port lines old new
    pub settling : IsSettling (sender_of settings.senders place) old.journal.entries new.journal.entries
    pub all : IsSettling (sender_of settings.senders place) (with_lost old) (with_lost new)
    pub ended : (end : LaneErr) → old.end ≡ Some end → new ≡ old
    pub founded : (end : LaneErr) → old.end ≡ None → new.end ≡ Some end → IsFounded counts new.opened.counts new end
    pub need : (length need : ℕ) → old.end ≡ None → new.end ≡ Some (lane_err.Full length need) → need ≡ LONGEST_SETTLEMENT
    pub live : new.end ≡ None → new.is_stale ≡ false
    pub whole : new.end ≡ None → new.lost ≡ []
    pub handed : Tells told old.site → HasResent place watch old new
    pub rounds : Tells told old.site → new.end ≡ None → AllRounds told port lines place (sender_of settings.senders place) watch settings.polls settings.resends old new

-- a lane that one sender may have: no count fell since its opening, and without an end it isn't stale
pub record MayBeAlone {D : Type 0} (counts : D → Counts) (lane : LaneValue D) : Type 0 where
  pub faults : lane.opened.counts.faults ≤ (counts lane.site).faults
  pub wants : lane.opened.counts.wants ≤ (counts lane.site).wants
  pub live : lane.end ≡ None → lane.is_stale ≡ false
