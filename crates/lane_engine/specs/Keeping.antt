-- A lane that senders share: when it may lie in their lock, and what stays of it there.
use Rattle.std.specs.Prelude.{◌≡◌, ℕ, ◌+◌, ◌*◌, ◌≤◌, Bool, true, false, Some, None, List, ◌++◌, length, take, drop, filter}
use Rattle.disk_model.specs.Counts.{Counts}
use Rattle.disk_model.specs.Disk.{Meaning, Tells}
use Rattle.lane_lock.specs.Meaning.{Meaning as LockMeaning}
use Rattle.ota_core.specs.Entry.{by_of}
use Rattle.ota_core.specs.declared.entries.Entry.{Entry}
use Rattle.ota_core.specs.declared.entries.Entry.TheVariants.{Reserve}
use Rattle.site_model.specs.Port.{PortState}
use Rattle.site_model.specs.Cards.{port_at, port_now}
use Rattle.site_model.specs.declared.departures.Departure.{Departure}
use Rattle.world_core.specs.declared.lines.Line.{Line}
use Rattle.lane_engine.specs.Ends.{IsFounded}
use Rattle.lane_engine.specs.Kept.{KeptSince, IsLater}
use Rattle.lane_engine.specs.LaneValue.{LaneValue}
use Rattle.lane_engine.specs.Opening.{Opening}
use Rattle.lane_engine.specs.Packets.{departures_for}
use Rattle.lane_engine.specs.declared.answers.LaneErr.{LaneErr}

-- the entry is a reservation
abbrev pub is_reserve : Entry → Bool
is_reserve (Reserve by moment keyset counter job tar name body) = true
is_reserve _ = false

-- how many of the entries are reservations
abbrev pub reserves_in : List Entry → ℕ
reserves_in entries = length (filter is_reserve entries)

-- the entries that the lane added since its opening
abbrev pub added_to : {D : Type 0} → LaneValue D → List Entry
added_to lane = drop (length lane.opened.entries) lane.journal.entries

module _ {D B C : Type 0} (told : Meaning D B C) (counts : D → Counts) (port : B → PortState) (lines : C → ℕ → List Line) where
  -- the port of the lane when it was opened
  abbrev pub port_then : LaneValue D → PortState
  port_then lane = port_at told port lines lane.site lane.opened.clock

  -- all pieces of the reservations that were added since the opening, in order
  abbrev pub departures_since : LaneValue D → List Departure
  departures_since lane = departures_for lane.journal.entries (added_to lane)

  -- Since the opening the first pieces of the reservations that were added were handed to the port, each once, and nothing else.
  pub record HasSentFirst (lane : LaneValue D) : Type 0 where
    pub later : lane.opened.clock ≤ told.clock lane.site
    pub entries : lane.journal.entries ≡ lane.opened.entries ++ added_to lane
    pub count : ℕ
    pub sent : (port_now told port lines lane.site).sent ≡ (port_then lane).sent ++ take count (departures_since lane)
    pub polls : (port_then lane).polls ≤ (port_now told port lines lane.site).polls

  -- Since the opening all pieces of them were handed over, each once, and for each `pace` of them the port was asked once at least.
  pub record HasSentAll (pace : ℕ) (lane : LaneValue D) : Type 0 where
    pub sent : (port_now told port lines lane.site).sent ≡ (port_then lane).sent ++ departures_since lane
    pub polls : (port_then lane).polls * pace + reserves_in (added_to lane) ≤ (port_now told port lines lane.site).polls * pace

  -- A lane may lie in the lock of senders that reserve up to `pace` jobs together: no count fell since its opening, its name has
  -- at most 32 octets, its end is founded, without an end it isn't stale, and since its opening each packet that it reserved was handed over once, and no other.
  pub record IsAtHome (pace : ℕ) (lane : LaneValue D) : Type 0 where
    pub faults : lane.opened.counts.faults ≤ (counts lane.site).faults
    pub wants : lane.opened.counts.wants ≤ (counts lane.site).wants
    pub short : length lane.name ≤ 32
    pub founded : (end : LaneErr) → lane.end ≡ Some end → IsFounded counts lane.opened.counts lane end
    pub live : lane.end ≡ None → lane.is_stale ≡ false
    pub first : Tells told lane.site → HasSentFirst lane
    pub all : Tells told lane.site → lane.end ≡ None → HasSentAll pace lane

  -- The second lane is the first after some calls: it is of the same opening, its reservations have the same name, no count
  -- fell, its site tells of each earlier moment what it told, and what the first keeps since an opening the second keeps.
  pub record IsLaterLane (old new : LaneValue D) : Type 0 where
    pub opened : new.opened ≡ old.opened
    pub name : new.name ≡ old.name
    pub later : IsLater told counts port lines old new
    pub kept : (opening : Opening) → KeptSince told counts port lines opening old → KeptSince told counts port lines opening new

  -- what a lane means to the lock: its entries there are its history, and behind it what was lost
  abbrev pub lane_meaning : LockMeaning (LaneValue D) Opening Entry LaneErr
  lane_meaning = record {
    opening = λ lane. lane.opened;
    entries = λ lane. lane.journal.entries ++ lane.lost;
    number_of = by_of;
    ending = λ lane. lane.end;
    at_home = IsAtHome;
    later = IsLaterLane;
  }
