-- What a sender knows of the lanes that are shared.
use Rattle.std.specs.Prelude.{◌≡◌, ◌⊎◌, ℕ, ◌+◌, ◌<◌, ◌≤◌, ◌==◌, if◌then◌else◌, All, List, [], ◌∷◌, ◌++◌, length, map, slice_index_or, Option, Some, None, IsSomeAnd}
use Rattle.disk_model.specs.Counts.{Counts}
use Rattle.disk_model.specs.Disk.{Meaning}
use Rattle.ota_core.specs.History.{IsLegal}
use Rattle.ota_core.specs.declared.entries.Entry.{Entry}
use Rattle.ota_core.specs.declared.jobs.Job.{Job}
use Rattle.site_model.specs.Port.{PortState}
use Rattle.world_core.specs.declared.lines.Line.{Line}
use Rattle.lane_lock.specs.Grown.{HasAll, IsAsHeavy, IsGrown}
use Rattle.lane_lock.specs.Locks.{key_of, view_of, IsOf, IsKeyFor}
use Rattle.lane_lock.specs.Meaning.{IsNoEarlier}
use Rattle.lane_lock.specs.Numbers.{same, total, Each, IsIn, Begins}
use Rattle.lane_lock.specs.Views.{numbered, weigh_parts}
use Rattle.lane_lock.specs.declared.locks.LaneLock.{LaneLock}
use Rattle.lane_lock.specs.declared.seats.Seat.{Seat}
use Rattle.lane_lock.specs.declared.views.View.{View}
use Rattle.lane_engine.specs.Keeping.{lane_meaning}
use Rattle.lane_engine.specs.LaneValue.{LaneValue}
use Rattle.lane_engine.specs.Opening.{Opening}
use Rattle.lane_engine.specs.Polling.{LONGEST_SETTLEMENT}
use Rattle.lane_engine.specs.Reserving.{IsJobOf, JobsDiffer}
use Rattle.lane_engine.specs.declared.answers.LaneErr.{LaneErr}
use Rattle.lane_engine.specs.declared.answers.LaneErr.TheVariants as lane_err
use Rattle.senders.specs.Pieces.{jobs_at}
use Rattle.senders.specs.Served.{weigh_entry, with_lost, IsMadeFor, IsRefusedBy, IsNeedOf}
use Rattle.senders.specs.declared.benches.Hand.{Hand}
use Rattle.senders.specs.declared.pieces.Work.{Work}

-- what the jobs of a piece weigh, where it is of the lane at a place
abbrev pub weigh_at : ℕ → (Job → ℕ) → Work → ℕ
weigh_at place h work = if work.lane == place then total h work.jobs else 0

-- an end that a sender set: where it is want of room, of the longest settlement or of the reservations of a piece that wasn't served
abbrev pub IsSetFor : ℕ → List ℕ → List Work → LaneErr → Type 0
IsSetFor place name undone end = (length need : ℕ) → end ≡ lane_err.Full length need
    → (need ≡ LONGEST_SETTLEMENT) ⊎ ((work : Work) × IsIn work undone × (work.lane ≡ place) × IsNeedOf name work.jobs need)

-- which pieces weren't served, once this one was taken: it is among them only where nothing of it was reserved
abbrev pub Follows : (undone : List Work) → Work → List Work → Type 0
Follows undone work after = (after ≡ undone) ⊎ (after ≡ undone ++ work ∷ [])

-- what a seat at the lock of a lane knows
abbrev pub LaneView : Type 0 → Type 0
LaneView D = View (LaneValue D) Entry LaneErr

-- a lock of lanes
abbrev pub Lock : Type 0 → Type 0
Lock D = LaneLock (LaneValue D) Opening Entry LaneErr

module _ {D : Type 0} where
  -- The history refused the piece, as it was seen once, since the lane was put into the lock.
  pub record WasRefused (put : LaneValue D) (v : LaneView D) (work : Work) : Type 0 where
    pub seen : List Entry
    pub since : Begins (with_lost put) seen
    pub before : Begins seen v.seen.entries
    pub legal : IsLegal seen
    pub refusal : LaneErr
    pub refused : IsRefusedBy seen work.jobs refusal

  -- nothing of the piece was reserved: the lane has an end, or its history refused the jobs
  abbrev pub IsUndone : LaneValue D → LaneView D → Work → Type 0
  IsUndone put v work = ((end : LaneErr) × (v.seen.ending ≡ Some end)) ⊎ WasRefused put v work

  -- What a sender knows of the lane at a place, where it took these pieces, and these of them weren't served: its lists have
  -- each job of each other piece once, by any weight, and nothing but reservations of these jobs and settlements.
  pub record IsKnown (place : ℕ) (put : LaneValue D) (taken undone : List Work) (v : LaneView D) : Type 0 where
    pub weighs : (h : Job → ℕ) → weigh_parts (weigh_entry h) v.parts + total (weigh_at place h) undone ≡ total (weigh_at place h) taken
    pub made : Each (λ p. Each (IsMadeFor put.name (jobs_at place taken)) p.added) v.parts
    pub reasons : (work : Work) → IsIn work undone → work.lane ≡ place → IsUndone put v work
    pub ends : Each (IsSetFor place put.name undone) v.ends
    -- before anything was taken, its lists are empty, and it set no end
    pub idle : taken ≡ [] → Each (λ p. p.added ≡ []) v.parts × (v.ends ≡ [])

  -- the lane that was put into the lock
  abbrev pub put_in : Lock D → LaneValue D
  put_in lock = (key_of lock).put.value

  -- the seat is of the lock, has each number so many times, and knows that
  abbrev pub IsSeatAt : {g : _} → (ℕ → ℕ) → (taken undone : List Work) → ℕ → Lock D → Seat (LaneValue D) Opening Entry LaneErr g → Type 0
  IsSeatAt numbers taken undone place lock seat =
      IsOf lock seat × ((n : ℕ) → numbered n (view_of seat).parts ≡ numbers n) × IsKnown place (put_in lock) taken undone (view_of seat)

  -- a row has such a seat at each lock
  abbrev pub IsRow : {g : _} → (ℕ → ℕ) → (taken undone : List Work) → List (Lock D) → List (Option (Seat (LaneValue D) Opening Entry LaneErr g)) → Type 0
  IsRow numbers taken undone locks row = (length row ≡ length locks)
      × ((place : ℕ) (lock : Lock D) → place < length locks → IsSomeAnd (slice_index_or row place None) (IsSeatAt numbers taken undone place (slice_index_or locks place lock)))

  -- the row has a seat of each lock
  abbrev pub IsSeated : {g : _} → List (Lock D) → List (Option (Seat (LaneValue D) Opening Entry LaneErr g)) → Type 0
  IsSeated locks row = (length row ≡ length locks)
      × ((place : ℕ) (lock : Lock D) → place < length locks → IsSomeAnd (slice_index_or row place None) (IsOf (slice_index_or locks place lock)))

  -- the lock is that of the lane at a place among so many, at the pace of the batches
  abbrev pub IsLockAt : (lanes batch place : ℕ) → Lock D → Type 0
  IsLockAt lanes batch place lock = ((put_in lock).journal.lane ≡ place) × ((put_in lock).journal.lanes ≡ lanes) × ((key_of lock).pace ≡ batch)

  -- the locks are those of all lanes, each in its place
  abbrev pub AreLocks : (batch : ℕ) → List (Lock D) → Type 0
  AreLocks batch locks = (place : ℕ) (lock : Lock D) → place < length locks → IsLockAt (length locks) batch place (slice_index_or locks place lock)

  -- the piece is one of the lane that was put into the lock, with no more jobs than its pace
  pub record IsFit (lock : Lock D) (work : Work) : Type 0 where
    pub some : 1 ≤ length work.jobs
    pub few : length work.jobs ≤ 16
    pub pace : length work.jobs ≤ (key_of lock).pace
    pub differ : JobsDiffer work.jobs
    pub of_lane : All (IsJobOf (put_in lock).journal.lane (put_in lock).journal.lanes) work.jobs

  -- What a seat knows after a hold for a piece, in place of the seat before it. Where the hold refused the piece, it wasn't served.
  pub record IsHeld {g : _} (numbers : ℕ → ℕ) (taken undone : List Work) (lock : Lock D) (work : Work)
      (before seat : Seat (LaneValue D) Opening Entry LaneErr g) (refused : Option LaneErr) : Type 0 where
    pub after : List Work
    pub follows : Follows undone work after
    pub known : IsSeatAt numbers (taken ++ work ∷ []) after work.lane lock seat
    pub later : IsNoEarlier (view_of before).seen (view_of seat).seen
    pub refusal : (error : LaneErr) → refused ≡ Some error → IsIn work after × WasRefused (put_in lock) (view_of seat) work

  -- the seat of a row at the piece's lane knows that the piece was refused
  abbrev pub IsRefusedAt : {g : _} → List (Lock D) → List (Option (Seat (LaneValue D) Opening Entry LaneErr g)) → Work → Type 0
  IsRefusedAt locks row work = (work.lane < length locks)
      × IsSomeAnd (slice_index_or row work.lane None) (λ seat. (lock : Lock D) → WasRefused (put_in (slice_index_or locks work.lane lock)) (view_of seat) work)

  -- What a row knows after a hold for a piece, in place of the row before it.
  pub record IsRowHeld {g : _} (numbers : ℕ → ℕ) (taken undone : List Work) (locks : List (Lock D)) (work : Work)
      (before row : List (Option (Seat (LaneValue D) Opening Entry LaneErr g))) (refused : Option LaneErr) : Type 0 where
    pub after : List Work
    pub follows : Follows undone work after
    pub known : IsRow numbers (taken ++ work ∷ []) after locks row
    pub still : (other : Work) → IsRefusedAt locks before other → IsRefusedAt locks row other
    pub refusal : (error : LaneErr) → refused ≡ Some error → IsIn work after × IsRefusedAt locks row work

  -- Of two seats of a lock one was made: it has the numbers of both, and knows what either knew.
  pub record IsJoined {g : _} (lock : Lock D) (one other both : Option (Seat (LaneValue D) Opening Entry LaneErr g)) : Type 0 where
    pub of : IsSomeAnd both (IsOf lock)
    pub joined : (place : ℕ) (numbers others : ℕ → ℕ) (taken undone other_taken other_undone : List Work) → IsSomeAnd one (IsSeatAt numbers taken undone place lock)
        → IsSomeAnd other (IsSeatAt others other_taken other_undone place lock)
        → IsSomeAnd both (IsSeatAt (λ n. numbers n + others n) (taken ++ other_taken) (undone ++ other_undone) place lock)
    pub still : (work : Work) → IsSomeAnd one (λ seat. WasRefused (put_in lock) (view_of seat) work) ⊎ IsSomeAnd other (λ seat. WasRefused (put_in lock) (view_of seat) work)
        → IsSomeAnd both (λ seat. WasRefused (put_in lock) (view_of seat) work)

  -- of two rows one was made
  abbrev pub AreJoined : {g : _} → List (Lock D) → (one other both : List (Option (Seat (LaneValue D) Opening Entry LaneErr g))) → Type 0
  AreJoined locks one other both = (length both ≡ length one)
      × ((place : ℕ) (lock : Lock D) → place < length locks → IsJoined (slice_index_or locks place lock) (slice_index_or one place None) (slice_index_or other place None) (slice_index_or both place None))

  -- What a sender has while lanes are shared: a seat at each lock, and where a hold refused its piece, that piece, which
  -- wasn't served.
  pub record IsDesk {g : _} (works : List Work) (numbers : ℕ → ℕ) (taken : List Work) (locks : List (Lock D)) (row : List (Option (Seat (LaneValue D) Opening Entry LaneErr g)))
      (refused : Option LaneErr) : Type 0 where
    pub undone : List Work
    pub among : (work : Work) → IsIn work undone → IsIn work taken
    pub given : Each (λ work. IsIn work works) taken
    pub seats : IsRow numbers taken undone locks row
    pub told : (refusal : LaneErr) → refused ≡ Some refusal → (work : Work) × IsIn work undone × IsRefusedAt locks row work

  -- A sender's desk at work: its pass of the queue has one part and put nothing in, its row has its own number, and knows of
  -- what it took.
  abbrev pub IsReady : {g : _} → (works : List Work) → List (Lock D) → (number : ℕ) → Hand → List (Option (Seat (LaneValue D) Opening Entry LaneErr g)) → Option LaneErr → Type 0
  IsReady works locks number hand row refused = (hand.parts ≡ 1) × (hand.put ≡ []) × IsDesk works (λ n. same n number) hand.taken locks row refused

  -- the locks are those into which these lanes were put, in order, at the pace of the batches, with so many seats each
  abbrev pub AreLocksOf : List (LaneValue D) → (batch seats : ℕ) → List (Lock D) → Type 0
  AreLocksOf lanes batch seats locks = (map put_in locks ≡ lanes) × Each (λ lock. ((key_of lock).pace ≡ batch) × ((key_of lock).seats ≡ seats)) locks

  -- one lock more, into which this lane was put
  abbrev pub HasLock : LaneValue D → (batch seats : ℕ) → (old new : List (Lock D)) → Type 0
  HasLock lane batch seats old new = (lock : Lock D) × (new ≡ old ++ lock ∷ []) × IsKeyFor lane batch seats (key_of lock)

  -- the row has all numbers of each lock
  abbrev pub MayClose : {g : _} → List (Lock D) → List (Option (Seat (LaneValue D) Opening Entry LaneErr g)) → Type 0
  MayClose locks row = (length row ≡ length locks)
      × ((place : ℕ) (lock : Lock D) → place < length locks
      → IsSomeAnd (slice_index_or row place None) (λ seat. IsOf (slice_index_or locks place lock) seat × HasAll (key_of (slice_index_or locks place lock)) (view_of seat)))

module _ {D B C : Type 0} (told : Meaning D B C) (counts : D → Counts) (port : B → PortState) (lines : C → ℕ → List Line) where
  -- the lane came out of the lock by the seat that had all its numbers
  abbrev pub IsClosed : {g : _} → Lock D → Option (Seat (LaneValue D) Opening Entry LaneErr g) → LaneValue D → Type 0
  IsClosed lock seat lane = IsSomeAnd seat (λ s. IsGrown (lane_meaning told counts port lines) (key_of lock) (view_of s) lane × IsAsHeavy (lane_meaning told counts port lines) (key_of lock) (view_of s) lane)

  -- each lane came out of its lock
  abbrev pub AreClosed : {g : _} → List (Lock D) → List (Option (Seat (LaneValue D) Opening Entry LaneErr g)) → List (LaneValue D) → Type 0
  AreClosed locks row lanes = (length lanes ≡ length locks)
      × ((place : ℕ) (lock : Lock D) (lane : LaneValue D) → place < length locks → IsClosed (slice_index_or locks place lock) (slice_index_or row place None) (slice_index_or lanes place lane))
