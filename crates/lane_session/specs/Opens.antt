-- How the keysets that rows name are opened on a lane.
use Rattle.std.specs.Prelude.{◌≡◌, ◌⊎◌, ℕ, ◌%◌, ◌<◌, ◌≤◌, ◌||◌, Bool, true, false, None, Some, List, [], ◌∷◌, ◌++◌, length, reverse, slice_index_or, All, Result}
use Rattle.std.specs.List.{list_any}
use Rattle.disk_model.specs.Counts.{Counts}
use Rattle.disk_model.specs.Disk.{Meaning}
use Rattle.gate_log.specs.declared.log_errors.LogErr.{LogErr}
use Rattle.gate_log.specs.declared.log_errors.LogErr.TheVariants as log_err
use Rattle.ota_core.specs.Keyset.{Keyset}
use Rattle.ota_core.specs.Entry.{is_open_of}
use Rattle.ota_core.specs.History.{broken_batch}
use Rattle.ota_core.specs.declared.jobs.Job.{Job}
use Rattle.ota_core.specs.declared.keysets.KeysetFacts.{KeysetFacts}
use Rattle.ota_core.specs.declared.entries.Entry.{Entry}
use Rattle.plan_reader.specs.declared.plans.Plan.{Plan}
use Rattle.counter_journal.specs.EntryRanges.{IsSized, IsOfLane}
use Rattle.lane_session.specs.Rows.{IsAddedFor, facts_of}
use Rattle.lane_session.specs.Due.{open_for}
use Rattle.lane_session.specs.Run.{IsAddition}
use Rattle.lane_session.specs.declared.lanes.Lane.{Lane}

-- the most entries of a batch
abbrev pub MOST_OPENS : ℕ
MOST_OPENS = 16

-- an entry opens the keyset
abbrev pub has_open : Keyset → List Entry → Bool
has_open keyset entries = list_any (is_open_of keyset) entries

-- the keyset is opened by the history or by what waits to be added
abbrev pub is_opened : List Entry → List Entry → Keyset → Bool
is_opened past waiting keyset = has_open keyset past || has_open keyset waiting

-- Opens that wait to be added to a lane: for rows of it, legal behind its history, fewer than a batch may have
pub record AreWaiting (waiting : List Entry) (lane : Lane) : Type 0 where
  pub legal : broken_batch (reverse lane.journal.entries) waiting ≡ None
  pub of_lane : All (IsOfLane lane.journal.lane lane.journal.lanes) waiting
  pub sized : All IsSized waiting
  pub few : length waiting < MOST_OPENS

module _ {D B C : Type 0} (told : Meaning D B C) (counts : D → Counts) where
  -- What a keyset makes of its lane and of what waits: nothing, where the lane has an end, the keyset is opened or the
  -- plan has none of it; the end of the lane, where memory is wanting; else its Open waits too, or is added with those that
  -- wait where they are a whole batch.
  abbrev pub IsOpenStep : Plan → D → D → Lane → Lane → List Entry → List Entry → Keyset → Type 0
  IsOpenStep plan old new before after waiting still keyset =
      ((new ≡ old) × (after ≡ before) × (still ≡ waiting) × (before.end ≡ None → (is_opened (reverse before.journal.entries) waiting keyset ≡ true) ⊎ (facts_of plan keyset ≡ None)))
      ⊎ ((new ≡ old) × (before.end ≡ None) × (after.journal ≡ before.journal) × (after.end ≡ Some log_err.Memory))
      ⊎ ((before.end ≡ None) × (is_opened (reverse before.journal.entries) waiting keyset ≡ false) × (facts : KeysetFacts) × (facts_of plan keyset ≡ Some facts)
      × (((new ≡ old) × (after ≡ before) × (still ≡ waiting ++ open_for (reverse waiting ++ reverse before.journal.entries) keyset facts ∷ []) × (length still < MOST_OPENS))
      ⊎ ((still ≡ []) × (outcome : Result (Unit {0}) LogErr) × IsAddition told counts old new before after (waiting ++ open_for (reverse waiting ++ reverse before.journal.entries) keyset facts ∷ []) outcome)))

  -- what became of the Opens that waited: nothing, where the lane has an end or none waited; else they were added
  abbrev pub AreAllAdded : D → D → Lane → Lane → List Entry → Type 0
  AreAllAdded old new before after waiting =
      ((new ≡ old) × (after ≡ before) × (before.end ≡ None → waiting ≡ []))
      ⊎ ((before.end ≡ None) × (1 ≤ length waiting) × (outcome : Result (Unit {0}) LogErr) × IsAddition told counts old new before after waiting outcome)

-- the keyset is opened by the lane's history or by what waits, or the plan has none of it
abbrev pub IsOpenOr : Plan → Lane → List Entry → Keyset → Type 0
IsOpenOr plan lane waiting keyset = (is_opened (reverse lane.journal.entries) waiting keyset ≡ true) ⊎ (facts_of plan keyset ≡ None)

-- so is that of each of the first rows of the lane, where it goes on
abbrev pub AreOpened : Plan → List Job → ℕ → ℕ → ℕ → Lane → List Entry → Type 0
AreOpened plan jobs number lanes count lane waiting =
    lane.end ≡ None → (i : ℕ) (job : Job) → i < count → i < length jobs → (slice_index_or jobs i job).keyset.card.0 % lanes ≡ number
    → IsOpenOr plan lane waiting (slice_index_or jobs i job).keyset

-- Opens that wait are for rows
abbrev pub AreForRows : Plan → List Job → List Entry → Lane → List Entry → Type 0
AreForRows plan jobs before lane waiting = lane.end ≡ None → All (IsAddedFor plan jobs before) waiting
