-- Laws of what a session makes of a lane.
use Rattle.std.proofs.Common.{◌≡◌, ◌⊎◌, ℕ, ◌≤◌, All, List, [], ◌∷◌, ◌++◌, length, reverse, Option, Some, None, Result, Ok, Err, refl, inl, inr, sym, ap, subst, ◌∙◌, append_assoc, arith}
use Rattle.std.specs.Option.{option_or}
use Rattle.std.proofs.lemmas.List.{append-nil, reverse-append}
use Rattle.std.proofs.lemmas.List.Elements.{All-append}
use Rattle.disk_model.specs.Counts.{Counts}
use Rattle.disk_model.specs.Disk.{Meaning, Tells, DiskRun, image_now}
use Rattle.disk_model.specs.Runs.{joined, weaker, left_now, at_once}
use Rattle.disk_model.specs.declared.faults.DiskFault.{DiskFault}
use Rattle.gate_log.specs.declared.log_errors.LogErr.{LogErr}
use Rattle.gate_log.specs.declared.log_errors.LogErr.TheVariants as log_err
use Rattle.gate_log.specs.Answers.{ErrCause}
use Rattle.ota_core.specs.History.{broken, broken_batch}
use Rattle.ota_core.specs.declared.entries.Entry.{Entry}
use Rattle.ota_core.specs.declared.entries.Illegal.{Illegal}
use Rattle.ota_core.specs.declared.jobs.Job.{Job}
use Rattle.plan_reader.specs.declared.plans.Plan.{Plan}
use Rattle.counter_journal.specs.EntryRanges.{IsEntry, IsEntryOf, IsOfLane}
use Rattle.counter_journal.specs.JournalReading.{Holds, JournalValue, IsReady, IsSameJournal, IsBeforeCalls}
use Rattle.counter_journal.specs.StandingLaws.{ready_holds, ready_same}
use Rattle.lane_session.specs.Rows.{IsAddedFor}
use Rattle.lane_session.specs.Run.{AreAdded, HoldsGrown, HoldsNearly, IsStop, EndCause, UnlessFailed, IsFullFor, IsAddition, IsRun, IsLaneReady}
use Rattle.lane_session.specs.declared.lanes.Lane.{Lane}

-- ---- entries behind entries

none_or : (first second : Option Illegal) → first ≡ None → option_or first second ≡ second
none_or None second e = refl
none_or (Some rule) second e = absurd cc

first_none : (first second : Option Illegal) → option_or first second ≡ None → (first ≡ None) × (second ≡ None)
first_none None second e = (refl, e)
first_none (Some rule) second e = absurd cc

-- legal entries, and more behind them
pub broken_batch-append : (past added more : List Entry) → broken_batch past added ≡ None → broken_batch (reverse added ++ past) more ≡ None → broken_batch past (added ++ more) ≡ None
broken_batch-append past [] more first second = second
broken_batch-append past (entry ∷ added) more first second =
    let both = first_none (broken past entry) (broken_batch (entry ∷ past) added) first in
    let same : reverse (entry ∷ added) ++ past ≡ reverse added ++ entry ∷ past =
    ap (λ (l : List Entry). l ++ past) (reverse-append (entry ∷ []) added) ∙ append_assoc (reverse added) (entry ∷ []) past in
    none_or (broken past entry) (broken_batch (entry ∷ past) (added ++ more)) both.0
    ∙ broken_batch-append (entry ∷ past) added more both.1 (subst (λ (l : List Entry). broken_batch l more ≡ None) same second)

module _ (plan : Plan) (jobs : List Job) (lane lanes : ℕ) where
  pub added_none : (before : List Entry) → AreAdded plan jobs lane lanes before []
  added_none before = record { rows = λ k d below. absurd (omega arith); of_lane = λ k d below. absurd (omega arith); legal = refl }

  pub added_more : (before added more : List Entry) → AreAdded plan jobs lane lanes before added → All (IsAddedFor plan jobs before) more → All IsEntry more → All (IsOfLane lane lanes) more
      → broken_batch (reverse (before ++ added)) more ≡ None → AreAdded plan jobs lane lanes before (added ++ more)
  added_more before added more adds rows fit of_lane legal = record {
    rows = All-append (IsAddedFor plan jobs before) added more adds.rows rows;
    of_lane = All-append (IsEntryOf lane lanes) added more adds.of_lane (λ k d below. record { fits = fit k d below; of_lane = of_lane k d below });
    legal = broken_batch-append (reverse before) added more adds.legal (subst (λ (l : List Entry). broken_batch l more ≡ None) (reverse-append before added) legal);
  }

  -- octets that hold the history now
  pub holds_now : (before added entries : List Entry) (image : List ℕ) → AreAdded plan jobs lane lanes before added → entries ≡ before ++ added → Holds lane lanes entries image → HoldsGrown plan jobs lane lanes before image
  holds_now before added entries image adds is holds = record { added = added; adds = adds; holds = subst (λ (e : List Entry). Holds lane lanes e image) is holds }

-- ---- what an addition leaves

nearly : (lane lanes : ℕ) (entries : List Entry) (image : List ℕ) → Holds lane lanes entries image → HoldsNearly lane lanes entries image
nearly lane lanes entries image holds = record { more = []; few = omega arith; holds = subst (λ (e : List Entry). Holds lane lanes e image) (sym (append-nil entries)) holds }

-- the same in the words of the lane
in_lane : (lane lanes a b : ℕ) (entries : List Entry) (image : List ℕ) → a ≡ lane → b ≡ lanes → Holds a b entries image → Holds lane lanes entries image
in_lane lane lanes a b entries image is_lane is_lanes holds =
    subst (λ (l : ℕ). Holds l lanes entries image) is_lane (subst (λ (l : ℕ). Holds a l entries image) is_lanes holds)

module _ {D B C : Type 0} (told : Meaning D B C) (counts : D → Counts) (plan : Plan) (jobs : List Job) (lane lanes : ℕ) (start : D) (before : List Entry) (site new : D) (now after : Lane) (more : List Entry)
    (run : IsRun told counts plan jobs lane lanes start before site now) (goes_on : now.end ≡ None)
    (few : length more ≤ 16) (rows : All (IsAddedFor plan jobs before) more) (of_lane : All (IsOfLane lane lanes) more) (legal : broken_batch (reverse now.journal.entries) more ≡ None) where
  abbrev Either : List ℕ → Type 0
  Either image = Holds now.journal.lane now.journal.lanes now.journal.entries image ⊎ Holds now.journal.lane now.journal.lanes (now.journal.entries ++ more) image

  adds_more : All IsEntry more → AreAdded plan jobs lane lanes before (run.added ++ more)
  adds_more fit =
      added_more plan jobs lane lanes before run.added more run.adds rows fit of_lane (subst (λ (e : List Entry). broken_batch (reverse e) more ≡ None) run.entries legal)

  entries_more : now.journal.entries ++ more ≡ before ++ (run.added ++ more)
  entries_more = ap (λ (e : List Entry). e ++ more) run.entries ∙ append_assoc before run.added more

  grown : All IsEntry more → (image : List ℕ) → Either image → HoldsGrown plan jobs lane lanes before image
  grown fit image (inl holds) =
      holds_now plan jobs lane lanes before run.added now.journal.entries image run.adds run.entries (in_lane lane lanes now.journal.lane now.journal.lanes now.journal.entries image run.lane_is run.lanes_are holds)
  grown fit image (inr holds) =
      holds_now plan jobs lane lanes before (run.added ++ more) (now.journal.entries ++ more) image (adds_more fit) entries_more
      (in_lane lane lanes now.journal.lane now.journal.lanes (now.journal.entries ++ more) image run.lane_is run.lanes_are holds)

  moments_more : All IsEntry more → (Tells told site → DiskRun told site new Either) → Tells told start → DiskRun told start new (HoldsGrown plan jobs lane lanes before)
  moments_more fit moments tells =
      joined told start site new (HoldsGrown plan jobs lane lanes before) (run.moments tells)
      (weaker told site new Either (HoldsGrown plan jobs lane lanes before) (moments (run.tells ∙ tells)) (grown fit))

  still_ready : Tells told start → IsReady told site now.journal
  still_ready tells = subst (λ (end : Option LogErr). UnlessFailed end (IsReady told site now.journal)) goes_on (run.ready tells)

  same_counts : counts site ≡ counts start
  same_counts = subst (λ (end : Option LogErr). EndCause (counts start) (counts site) end) goes_on run.cause

  -- all were added
  pub run_added : IsAddition told counts site new now after more (Ok tt) → IsRun told counts plan jobs lane lanes start before new after
  run_added a = record {
    lane_is = a.lane.0 ∙ run.lane_is;
    lanes_are = a.lane.1 ∙ run.lanes_are;
    added = run.added ++ more;
    adds = adds_more a.fit;
    entries = a.added ∙ entries_more;
    tells = a.tells ∙ run.tells;
    moments = moments_more a.fit a.moments;
    held = λ tells image at. nearly lane lanes after.journal.entries image
        (in_lane lane lanes after.journal.lane after.journal.lanes after.journal.entries image (a.lane.0 ∙ run.lane_is) (a.lane.1 ∙ run.lanes_are)
        (ready_holds told new after.journal (a.ready (run.tells ∙ tells)) image at));
    ready = λ tells. subst (λ (end : Option LogErr). UnlessFailed end (IsReady told new after.journal)) (sym a.end_is) (a.ready (run.tells ∙ tells));
    cause = subst (EndCause (counts start) (counts new)) (sym a.end_is) (a.cause.answer ∙ same_counts);
    full = subst (IsFullFor (λ next. All (IsAddedFor plan jobs before) next) after.journal) (sym a.end_is) tt;
  }

  -- nothing was done
  module _ (error : LogErr) (a : IsAddition told counts site new now after more (Err error)) (before_calls : IsBeforeCalls error) (is_stop : IsStop error)
      (not_failed : (P : Type 0) → P → UnlessFailed (Some error) P) (is_full : IsFullFor (λ next. All (IsAddedFor plan jobs before) next) after.journal (Some error)) where
    same_site : new ≡ site
    same_site = a.unchanged before_calls

    ready_after : Tells told start → IsReady told new after.journal
    ready_after tells = subst (λ (d : D). IsReady told d after.journal) (sym same_site) (ready_same told site now.journal after.journal a.err (still_ready tells))

    pub run_refused : IsRun told counts plan jobs lane lanes start before new after
    run_refused = record {
      lane_is = a.err.lane ∙ run.lane_is;
      lanes_are = a.err.lanes ∙ run.lanes_are;
      added = run.added;
      adds = run.adds;
      entries = a.err.entries ∙ run.entries;
      tells = a.tells ∙ run.tells;
      moments = λ tells. subst (λ (d : D). DiskRun told start d (HoldsGrown plan jobs lane lanes before)) (sym same_site) (run.moments tells);
      held = λ tells image at. nearly lane lanes after.journal.entries image
          (in_lane lane lanes after.journal.lane after.journal.lanes after.journal.entries image (a.err.lane ∙ run.lane_is) (a.err.lanes ∙ run.lanes_are)
          (ready_holds told new after.journal (ready_after tells) image at));
      ready = λ tells. subst (λ (end : Option LogErr). UnlessFailed end (IsReady told new after.journal)) (sym a.end_is) (not_failed (IsReady told new after.journal) (ready_after tells));
      cause = subst (EndCause (counts start) (counts new)) (sym a.end_is) (is_stop, subst (λ c. ErrCause c (counts new) error) same_counts a.cause.answer);
      full = subst (IsFullFor (λ next. All (IsAddedFor plan jobs before) next) after.journal) (sym a.end_is) is_full;
    }

  -- the disk answered a fault
  pub run_failed : (fault : DiskFault) → IsAddition told counts site new now after more (Err (log_err.DiskFault fault)) → IsRun told counts plan jobs lane lanes start before new after
  run_failed fault a = record {
    lane_is = a.err.lane ∙ run.lane_is;
    lanes_are = a.err.lanes ∙ run.lanes_are;
    added = run.added;
    adds = run.adds;
    entries = a.err.entries ∙ run.entries;
    tells = a.tells ∙ run.tells;
    moments = moments_more a.fit a.moments;
    held = λ tells image at. held_either image (left_now told site new Either (a.moments (run.tells ∙ tells)) image at);
    ready = λ tells. subst (λ (end : Option LogErr). UnlessFailed end (IsReady told new after.journal)) (sym a.end_is) tt;
    cause = subst (EndCause (counts start) (counts new)) (sym a.end_is) (tt, subst (λ c. ErrCause c (counts new) (log_err.DiskFault fault)) same_counts a.cause.answer);
    full = subst (IsFullFor (λ next. All (IsAddedFor plan jobs before) next) after.journal) (sym a.end_is) tt;
  }
    where
      held_either : (image : List ℕ) → Either image → HoldsNearly lane lanes after.journal.entries image
      held_either image (inl holds) = nearly lane lanes after.journal.entries image
          (subst (λ (e : List Entry). Holds lane lanes e image) (sym a.err.entries) (in_lane lane lanes now.journal.lane now.journal.lanes now.journal.entries image run.lane_is run.lanes_are holds))
      held_either image (inr holds) = record {
        more = more;
        few = few;
        holds = subst (λ (e : List Entry). Holds lane lanes (e ++ more) image) (sym a.err.entries)
            (in_lane lane lanes now.journal.lane now.journal.lanes (now.journal.entries ++ more) image run.lane_is run.lanes_are holds);
      }

  -- an addition, whatever its answer
  pub run_more : (result : Result (Unit {0}) LogErr) → IsAddition told counts site new now after more result → IsRun told counts plan jobs lane lanes start before new after
  run_more (Ok done) a = run_added a
  run_more (Err log_err.Memory) a = run_refused log_err.Memory a tt tt (λ P p. p) tt
  run_more (Err (log_err.DiskFault fault)) a = run_failed fault a
  run_more (Err log_err.Unformatted) a = absurd a.answer
  run_more (Err log_err.NotALog) a = absurd a.answer
  run_more (Err (log_err.OtherHead rest)) a = absurd a.answer
  run_more (Err (log_err.Damaged number)) a = absurd a.answer
  run_more (Err (log_err.Full size need)) a =
      run_refused (log_err.Full size need) a tt tt (λ P p. p)
      (a.answer.1 ∙ sym a.err.length, omega (arith, a.answer.0, a.answer.1, a.answer.2), more, rows, a.answer.2)

-- ---- runs one after the other

module _ {D B C : Type 0} (told : Meaning D B C) (counts : D → Counts) (plan : Plan) (jobs : List Job) (lane lanes : ℕ) where
  -- where a lane goes on, nothing became of it yet
  pub run_start : (site : D) (now : Lane) → IsLaneReady told counts lane lanes site now → now.end ≡ None → IsRun told counts plan jobs lane lanes site now.journal.entries site now
  run_start site now ready goes_on = record {
    lane_is = ready.lane_is;
    lanes_are = ready.lanes_are;
    added = [];
    adds = added_none plan jobs lane lanes now.journal.entries;
    entries = sym (append-nil now.journal.entries);
    tells = refl;
    moments = λ tells. at_once told site (HoldsGrown plan jobs lane lanes now.journal.entries)
        (λ image at. holds_now plan jobs lane lanes now.journal.entries [] now.journal.entries image (added_none plan jobs lane lanes now.journal.entries) (sym (append-nil now.journal.entries)) (held tells image at));
    held = λ tells image at. nearly lane lanes now.journal.entries image (held tells image at);
    ready = ready.ready;
    cause = subst (EndCause (counts site) (counts site)) (sym goes_on) refl;
    full = subst (IsFullFor (λ next. All (IsAddedFor plan jobs now.journal.entries) next) now.journal) (sym goes_on) tt;
  }
    where
      is_ready : Tells told site → IsReady told site now.journal
      is_ready tells = subst (λ (end : Option LogErr). UnlessFailed end (IsReady told site now.journal)) goes_on (ready.ready tells)

      held : Tells told site → (image : List ℕ) → image_now told site image → Holds lane lanes now.journal.entries image
      held tells image at = in_lane lane lanes now.journal.lane now.journal.lanes now.journal.entries image ready.lane_is ready.lanes_are (ready_holds told site now.journal (is_ready tells) image at)
