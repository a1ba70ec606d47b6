-- What a session makes of a lane from its opening on.
use Rattle.std.specs.Prelude.{◌≡◌, ◌≢◌, ◌⊎◌, ℕ, ◌+◌, ◌%◌, slice_index_or, ◌<◌, ◌≤◌, Option, None, Some, true, List, [], ◌∷◌, ◌++◌, length, reverse, All, Result, Ok, Err, OnOk, OnErr, IfErr}
use Rattle.disk_model.specs.Counts.{Counts}
use Rattle.disk_model.specs.Disk.{Meaning, Tells, DiskRun, image_now}
use Rattle.gate_log.specs.declared.log_errors.LogErr.{LogErr}
use Rattle.gate_log.specs.declared.log_errors.LogErr.TheVariants as log_err
use Rattle.gate_log.specs.Answers.{LogCause, ErrCause}
use Rattle.gate_log.specs.Opening.{LIMIT, need_of}
use Rattle.ota_core.specs.History.{broken_batch}
use Rattle.ota_core.specs.declared.jobs.Job.{Job}
use Rattle.ota_core.specs.declared.entries.Entry.{Entry}
use Rattle.plan_reader.specs.declared.plans.Plan.{Plan}
use Rattle.counter_journal.specs.EntryRanges.{IsEntry, IsEntryOf}
use Rattle.counter_journal.specs.JournalReading.{parts_for, Holds, JournalValue, IsReady, IsSameJournal, AddAnswer, UnlessWanting, IsBeforeCalls}
use Rattle.lane_session.specs.Rows.{IsAddedFor}
use Rattle.lane_session.specs.Due.{is_served, due_counter, reservation_for}
use Rattle.lane_session.specs.declared.lanes.Lane.{Lane}

-- the entries may be added by the session behind this history, one after the other
pub record AreAdded (plan : Plan) (jobs : List Job) (lane lanes : ℕ) (before added : List Entry) : Type 0 where
  pub rows : All (IsAddedFor plan jobs before) added
  pub of_lane : All (IsEntryOf lane lanes) added
  pub legal : broken_batch (reverse before) added ≡ None

-- the octets hold this history, longer by what the session may add
pub record HoldsGrown (plan : Plan) (jobs : List Job) (lane lanes : ℕ) (before : List Entry) (image : List ℕ) : Type 0 where
  pub added : List Entry
  pub adds : AreAdded plan jobs lane lanes before added
  pub holds : Holds lane lanes (before ++ added) image

-- the octets hold this history, or it and one batch more
pub record HoldsNearly (lane lanes : ℕ) (entries : List Entry) (image : List ℕ) : Type 0 where
  pub more : List Entry
  pub few : length more ≤ 16
  pub holds : Holds lane lanes (entries ++ more) image

-- what may stop a lane: want of memory, a fault of its disk, or want of room in its log
abbrev pub IsStop : LogErr → Type 0
IsStop log_err.Memory = Unit {0}
IsStop (log_err.DiskFault fault) = Unit {0}
IsStop (log_err.Full size need) = Unit {0}
IsStop error = ⊥

-- an end of a lane comes only with its cause: a fault of the disk only where its count rose
abbrev pub EndCause : Counts → Counts → Option LogErr → Type 0
EndCause before now None = now ≡ before
EndCause before now (Some error) = IsStop error × ErrCause before now error

-- the lane's disk is as the last addition that answered Ok left it
abbrev pub UnlessFailed : Option LogErr → Type 0 → Type 0
UnlessFailed (Some (log_err.DiskFault fault)) P = Unit {0}
UnlessFailed end P = P

-- a lane is full only where its log has no room for a batch that the session may add
abbrev pub IsFullFor : (List Entry → Type 0) → JournalValue → Option LogErr → Type 0
IsFullFor P journal (Some (log_err.Full size need)) = (size ≡ journal.length) × (LIMIT < size + need) × (next : List Entry) × P next × (need ≡ need_of (parts_for next))
IsFullFor P journal end = Unit {0}

-- why an addition wasn't made
abbrev pub end_of : Result (Unit {0}) LogErr → Option LogErr
end_of (Ok done) = None
end_of (Err error) = Some error

module _ {D B C : Type 0} (told : Meaning D B C) (counts : D → Counts) where
  -- an addition to the journal of a lane, and its answer as the lane's end
  pub record IsAddition (old new : D) (before after : Lane) (more : List Entry) (result : Result (Unit {0}) LogErr) : Type 0 where
    pub end_is : after.end ≡ end_of result
    pub moments : Tells told old → DiskRun told old new (λ image. Holds before.journal.lane before.journal.lanes before.journal.entries image ⊎ Holds before.journal.lane before.journal.lanes (before.journal.entries ++ more) image)
    pub ready : Tells told old → OnOk result (IsReady told new after.journal)
    pub fit : UnlessWanting result (All IsEntry more)
    pub added : OnOk result (after.journal.entries ≡ before.journal.entries ++ more)
    pub lane : (after.journal.lane ≡ before.journal.lane) × (after.journal.lanes ≡ before.journal.lanes)
    pub err : OnErr result (IsSameJournal before.journal after.journal)
    pub answer : AddAnswer before.journal more (need_of (parts_for more)) result
    pub unchanged : IfErr result (λ error. IsBeforeCalls error → new ≡ old)
    pub tells : told.tells new ≡ told.tells old
    pub cause : LogCause (counts old) (counts new) result

  -- What became of a lane since its opening: the site then, and the history then; the site and the lane now.
  pub record IsRun (plan : Plan) (jobs : List Job) (lane lanes : ℕ) (start : D) (before : List Entry) (site : D) (now : Lane) : Type 0 where
    pub lane_is : now.journal.lane ≡ lane
    pub lanes_are : now.journal.lanes ≡ lanes
    pub added : List Entry
    pub adds : AreAdded plan jobs lane lanes before added
    pub entries : now.journal.entries ≡ before ++ added
    pub tells : told.tells site ≡ told.tells start
    -- at each moment an image holds the history of the opening, longer by what the session may add
    pub moments : Tells told start → DiskRun told start site (HoldsGrown plan jobs lane lanes before)
    -- a stop now leaves the lane's history, or it and one batch more
    pub held : Tells told start → (image : List ℕ) → image_now told site image → HoldsNearly lane lanes now.journal.entries image
    pub ready : Tells told start → UnlessFailed now.end (IsReady told site now.journal)
    pub cause : EndCause (counts start) (counts site) now.end
    pub full : IsFullFor (λ next. All (IsAddedFor plan jobs before) next) now.journal now.end

  -- What one row makes of its lane: nothing, where the lane has an end or nothing is due to the row; the end of the lane,
  -- where memory is wanting for the entry; else the addition of the reservation that is due.
  abbrev pub IsRowStep : D → D → Lane → Lane → Job → Type 0
  IsRowStep old new before after job =
      ((new ≡ old) × (after ≡ before) × (before.end ≡ None → is_served (reverse before.journal.entries) job ≡ true))
      ⊎ ((new ≡ old) × (before.end ≡ None) × (after.journal ≡ before.journal) × (after.end ≡ Some log_err.Memory))
      ⊎ ((before.end ≡ None) × (counter : ℕ) × (due_counter (reverse before.journal.entries) job ≡ Some counter)
      × (outcome : Result (Unit {0}) LogErr) × IsAddition old new before after (reservation_for (reverse before.journal.entries) job counter ∷ []) outcome)

  -- a lane that goes on is ready for an addition
  pub record IsLaneReady (lane lanes : ℕ) (site : D) (now : Lane) : Type 0 where
    pub lane_is : now.journal.lane ≡ lane
    pub lanes_are : now.journal.lanes ≡ lanes
    pub ready : Tells told site → UnlessFailed now.end (IsReady told site now.journal)

  -- what became of a lane in a part of the session: nothing, where it had an end
  abbrev pub IsPassed : Plan → List Job → ℕ → ℕ → D → Lane → D → Lane → Type 0
  IsPassed plan jobs lane lanes start before site now =
      ((before.end ≢ None) × (site ≡ start) × (now ≡ before)) ⊎ ((before.end ≡ None) × IsRun plan jobs lane lanes start before.journal.entries site now)

-- the first rows of the lane are served, where it goes on
abbrev pub AreServed : ℕ → ℕ → List Job → ℕ → Lane → Type 0
AreServed lane lanes jobs count now =
    now.end ≡ None → (i : ℕ) (job : Job) → i < count → i < length jobs → (slice_index_or jobs i job).keyset.card.0 % lanes ≡ lane
    → is_served (reverse now.journal.entries) (slice_index_or jobs i job) ≡ true
