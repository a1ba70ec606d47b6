-- Laws of what rows make of their lanes.
use Rattle.std.proofs.Common.{◌≡◌, ℕ, ◌%◌, Bool, true, false, ◌||◌, not, All, List, [], ◌∷◌, ◌++◌, reverse, get_or, Option, Some, None, Ok, Err, refl, inl, inr, sym, ap, subst, ◌∙◌, append_assoc, arith}
use Rattle.std.specs.Prelude.{is_some, nat_le, if◌then◌else◌}
use Rattle.std.specs.Option.{option_or}
use Rattle.std.proofs.lemmas.Bool.{eq-eqb, or_parts}
use Rattle.std.proofs.lemmas.Bool.Decides.{nat_tests}
use Rattle.std.proofs.lemmas.List.{reverse-append}
use Rattle.std.proofs.lemmas.List.Elements.{All-push, All-append}
use Rattle.disk_model.specs.Counts.{Counts}
use Rattle.disk_model.specs.Disk.{Meaning}
use Rattle.disk_model.specs.Runs.{joined, weaker}
use Rattle.gate_log.specs.declared.log_errors.LogErr.{LogErr}
use Rattle.gate_log.specs.declared.log_errors.LogErr.TheVariants as log_err
use Rattle.ota_core.specs.Keyset.{Keyset, is_same_keyset}
use Rattle.ota_core.specs.Entry.{moment_of, reservation_in}
use Rattle.ota_core.specs.History.{LAST_COUNTER, unless, first_some, last_reservation, broken, broken_batch, broken_moment, broken_in_use, next_counter}
use Rattle.ota_core.specs.Questions.{last_moment}
use Rattle.ota_core.specs.HistoryLaws.{broken-none, is_same_keyset-true}
use Rattle.ota_core.specs.declared.entries.Entry.{Entry}
use Rattle.ota_core.specs.declared.entries.Entry.TheVariants.{Open, Reserve, Done, Refused, Close}
use Rattle.ota_core.specs.declared.entries.Illegal.{Illegal}
use Rattle.ota_core.specs.declared.jobs.Job.{Job}
use Rattle.ota_core.specs.declared.jobs.JobId.{JobId}
use Rattle.plan_reader.specs.declared.plans.Plan.{Plan}
use Rattle.counter_journal.specs.EntryRanges.{IsEntryOf, IsOfLane}
use Rattle.counter_journal.specs.JournalReading.{Holds, JournalValue, IsReady}
use Rattle.lane_session.specs.Rows.{Among, IsAddedFor}
use Rattle.lane_session.specs.Due.{is_out, is_served, due_counter, reservation_for, IsBatchFor}
use Rattle.lane_session.specs.Run.{AreAdded, HoldsGrown, HoldsNearly, EndCause, UnlessFailed, IsFullFor, IsRun, IsRowStep}
use Rattle.lane_session.specs.LiveCounts.{first_some-append, is_same_job-refl}
use Rattle.lane_session.specs.declared.lanes.Lane.{Lane}
use Rattle.lane_session.proofs.RunLaws.{broken_batch-append, run_more}

-- ---- what is due, and what stays served

pub none_if : {A : Type 0} (holds : Bool) (a b : A) → (if holds then None else Some a) ≡ Some b → (holds ≡ false) × (a ≡ b)
none_if true a b e = absurd cc
none_if false a b e = (refl, cc)

is_none_by : {A : Type 0} (o : Option A) → is_some o ≡ false → o ≡ None
is_none_by None e = refl
is_none_by (Some x) e = absurd cc

-- a job to which a counter is due has no reservation
pub due_unreserved : (past : List Entry) (job : Job) (counter : ℕ) → due_counter past job ≡ Some counter → last_reservation job.id past ≡ None
due_unreserved past job counter due =
    is_none_by (last_reservation job.id past) (or_parts (is_some (last_reservation job.id past)) (is_out past job.keyset) (none_if (is_served past job) (next_counter job.keyset past) counter due).0).0

or_none : {A : Type 0} (a b : Option A) → option_or a b ≡ None → b ≡ None
or_none None b e = e
or_none (Some x) b e = absurd cc

-- where a longer history has no reservation for a job, a shorter one has none
pub unreserved_before : (before added : List Entry) (id : JobId) → last_reservation id (reverse (before ++ added)) ≡ None → last_reservation id (reverse before) ≡ None
unreserved_before before added id none =
    or_none (first_some (reservation_in id) (reverse added)) (first_some (reservation_in id) (reverse before))
    (sym (first_some-append (reservation_in id) (reverse added) (reverse before)) ∙ ap (first_some (reservation_in id)) (sym (reverse-append before added)) ∙ none)

at_same : (past : List Entry) (last : Entry) (test : Bool) → nat_le (moment_of last) (moment_of last) ≡ test → unless test (Illegal.Earlier (moment_of last)) ≡ None
at_same past last true is = refl
at_same past last false is = absurd (grind (arith, nat_tests, is))

-- an entry at the moment of the one before it isn't earlier
pub same_moment : (past : List Entry) → broken_moment past (last_moment past) ≡ None
same_moment [] = refl
same_moment (last ∷ past) = at_same past last (nat_le (moment_of last) (moment_of last)) refl

-- the reservation that is due breaks no rule
pub due_legal : (past : List Entry) (job : Job) (counter : ℕ) → due_counter past job ≡ Some counter → broken past (reservation_for past job counter) ≡ None
due_legal past job counter due =
    let tests = none_if (is_served past job) (next_counter job.keyset past) counter due in
    let parts = or_parts (is_some (last_reservation job.id past)) (is_out past job.keyset) tests.0 in
    let outs = or_parts (is_some (broken_in_use job.keyset past)) (not (nat_le (next_counter job.keyset past) LAST_COUNTER)) parts.1 in
    let in_use = is_none_by (broken_in_use job.keyset past) outs.0 in
    let none = is_none_by (last_reservation job.id past) parts.0 in
    broken-none past (reservation_for past job counter)
    (rw (in_use, none, ← tests.1, not_false (nat_le (next_counter job.keyset past) LAST_COUNTER) outs.1, eq-eqb (next_counter job.keyset past) (next_counter job.keyset past) refl) refl)
    (same_moment past)
  where
    not_false : (b : Bool) → not b ≡ false → b ≡ true
    not_false true e = refl
    not_false false e = absurd cc

-- so the batch that is due to a row is legal
pub batch_legal : (past : List Entry) (job : Job) (batch : List Entry) → IsBatchFor past job (Some batch) → broken_batch past batch ≡ None
batch_legal past job batch due =
    subst (λ (entries : List Entry). broken_batch past entries ≡ None) (sym due.2) (ap (λ (o : Option Illegal). option_or o None) (due_legal past job due.0 due.1))

some_first : {A : Type 0} (a : Option A) (b : Option A) → is_some b ≡ true → is_some (option_or a b) ≡ true
some_first None b e = e
some_first (Some x) b e = refl

or_cases : (a b c d : Bool) → (a || b) ≡ true → (a ≡ true → c ≡ true) → (b ≡ true → (c || d) ≡ true) → (c || d) ≡ true
or_cases true b c d e first second = ap (λ (x : Bool). x || d) (first refl)
or_cases false b c d e first second = second e

out_other : (keyset other : Keyset) (moment counter : ℕ) (id : JobId) (tar name body : List ℕ) (past : List Entry) (same : Bool) → is_same_keyset other keyset ≡ same → same ≡ false
    → is_out (Reserve 0 moment other counter id tar name body ∷ past) keyset ≡ is_out past keyset
out_other keyset other moment counter id tar name body past same is differs = rw (is, differs) refl

right_true : (a b : Bool) → b ≡ true → (a || b) ≡ true
right_true true b e = refl
right_true false b e = e

true_is_false : true ≡ false → ⊥
true_is_false e = cc

-- a row that is served stays served when another is
pub served_past : (past : List Entry) (row job : Job) (counter : ℕ) → due_counter past job ≡ Some counter → is_served past row ≡ true → is_served (reservation_for past job counter ∷ past) row ≡ true
served_past past row job counter due served =
    or_cases (is_some (last_reservation row.id past)) (is_out past row.keyset) (is_some (last_reservation row.id (reservation_for past job counter ∷ past))) (is_out (reservation_for past job counter ∷ past) row.keyset) served
    (λ reserved. some_first (reservation_in row.id (reservation_for past job counter)) (last_reservation row.id past) reserved)
    (λ out. by_keyset (is_same_keyset job.keyset row.keyset) refl out)
  where
    by_keyset : (same : Bool) → is_same_keyset job.keyset row.keyset ≡ same → is_out past row.keyset ≡ true
        → (is_some (last_reservation row.id (reservation_for past job counter ∷ past)) || is_out (reservation_for past job counter ∷ past) row.keyset) ≡ true
    by_keyset true is out =
        let tests = none_if (is_served past job) (next_counter job.keyset past) counter due in
        let parts = or_parts (is_some (last_reservation job.id past)) (is_out past job.keyset) tests.0 in
        absurd (true_is_false (sym (subst (λ (k : Keyset). is_out past k ≡ true) (sym (is_same_keyset-true job.keyset row.keyset is)) out) ∙ parts.1))
    by_keyset false is out =
        right_true (is_some (last_reservation row.id (reservation_for past job counter ∷ past))) (is_out (reservation_for past job counter ∷ past) row.keyset)
        (out_other row.keyset job.keyset (last_moment past) counter job.id job.tar [] job.body past (is_same_keyset job.keyset row.keyset) refl is ∙ out)

-- the row itself is served
pub served_now : (past : List Entry) (job : Job) (counter : ℕ) → is_served (reservation_for past job counter ∷ past) job ≡ true
served_now past job counter = rw (is_same_job-refl job.id) refl

-- ---- one row

alone : {A : Type 0} (P : A → Type 0) (x : A) → P x → All P (x ∷ [])
alone P x holds = All-push P [] x (λ k d below. absurd (omega arith)) holds

pub entries_after : (before after : Lane) (more : List Entry) → after.journal.entries ≡ before.journal.entries ++ more → (reservation : Entry) → more ≡ reservation ∷ [] → reverse after.journal.entries ≡ reservation ∷ reverse before.journal.entries
entries_after before after more added reservation is =
    ap reverse added ∙ ap (λ (m : List Entry). reverse (before.journal.entries ++ m)) is ∙ reverse-append before.journal.entries (reservation ∷ [])

pub not_both : (error : LogErr) (end : Option LogErr) → end ≡ Some error → end ≡ None → ⊥
not_both error end some none = cc

module _ {D B C : Type 0} (told : Meaning D B C) (counts : D → Counts) where
  -- a row that was served stays so, whatever another row makes of the lane
  pub stays_served : (old new : D) (before after : Lane) (job row : Job) → IsRowStep told counts old new before after job
      → is_served (reverse before.journal.entries) row ≡ true → is_served (reverse after.journal.entries) row ≡ true
  stays_served old new before after job row (inl same) served = subst (λ (l : Lane). is_served (reverse l.journal.entries) row ≡ true) (sym same.1) served
  stays_served old new before after job row (inr (inl wants)) served = subst (λ j. is_served (reverse j.entries) row ≡ true) (sym wants.2) served
  stays_served old new before after job row (inr (inr (goes_on, counter, due, Ok done, a))) served =
      subst (λ (past : List Entry). is_served past row ≡ true) (sym (entries_after before after (reservation_for (reverse before.journal.entries) job counter ∷ []) a.added (reservation_for (reverse before.journal.entries) job counter) refl))
      (served_past (reverse before.journal.entries) row job counter due served)
  stays_served old new before after job row (inr (inr (goes_on, counter, due, Err error, a))) served =
      subst (λ (e : List Entry). is_served (reverse e) row ≡ true) (sym a.err.entries) served

  -- a row is served where its lane goes on
  pub row_served : (old new : D) (before after : Lane) (job : Job) → IsRowStep told counts old new before after job → after.end ≡ None → is_served (reverse after.journal.entries) job ≡ true
  row_served old new before after job (inl same) goes_on =
      subst (λ (l : Lane). is_served (reverse l.journal.entries) job ≡ true) (sym same.1) (same.2 (ap (λ (l : Lane). l.end) (sym same.1) ∙ goes_on))
  row_served old new before after job (inr (inl wants)) goes_on = absurd (not_both log_err.Memory after.end wants.3 goes_on)
  row_served old new before after job (inr (inr (open_end, counter, due, Ok done, a))) goes_on =
      subst (λ (past : List Entry). is_served past job ≡ true) (sym (entries_after before after (reservation_for (reverse before.journal.entries) job counter ∷ []) a.added (reservation_for (reverse before.journal.entries) job counter) refl))
      (served_now (reverse before.journal.entries) job counter)
  row_served old new before after job (inr (inr (open_end, counter, due, Err error, a))) goes_on = absurd (not_both error after.end a.end_is goes_on)

  module _ (plan : Plan) (jobs : List Job) (lane lanes : ℕ) (start : D) (before : List Entry) where
    -- memory was wanting for an entry
    pub run_wanting : (site : D) (now after : Lane) → IsRun told counts plan jobs lane lanes start before site now → now.end ≡ None → after.journal ≡ now.journal → after.end ≡ Some log_err.Memory
        → IsRun told counts plan jobs lane lanes start before site after
    run_wanting site now after run goes_on same end_is = record {
      lane_is = ap (λ j. j.lane) same ∙ run.lane_is;
      lanes_are = ap (λ j. j.lanes) same ∙ run.lanes_are;
      added = run.added;
      adds = run.adds;
      entries = ap (λ j. j.entries) same ∙ run.entries;
      tells = run.tells;
      moments = run.moments;
      held = λ tells image at. subst (λ (e : List Entry). HoldsNearly lane lanes e image) (sym (ap (λ j. j.entries) same)) (run.held tells image at);
      ready = λ tells. subst (λ (end : Option LogErr). UnlessFailed end (IsReady told site after.journal)) (sym end_is)
          (subst (IsReady told site) (sym same) (subst (λ (end : Option LogErr). UnlessFailed end (IsReady told site now.journal)) goes_on (run.ready tells)));
      cause = subst (EndCause (counts start) (counts site)) (sym end_is) (tt, subst (λ (end : Option LogErr). EndCause (counts start) (counts site) end) goes_on run.cause);
      full = subst (IsFullFor (λ next. All (IsAddedFor plan jobs before) next) after.journal) (sym end_is) tt;
    }

    -- what a row makes of its lane is a part of the session
    pub row_run : (site new : D) (now after : Lane) (job : Job) → IsRun told counts plan jobs lane lanes start before site now → Among job jobs → job.keyset.card.0 % lanes ≡ lane
        → IsRowStep told counts site new now after job → IsRun told counts plan jobs lane lanes start before new after
    row_run site new now after job run among of_lane (inl same) =
        subst (λ (d : D). IsRun told counts plan jobs lane lanes start before d after) (sym same.0) (subst (IsRun told counts plan jobs lane lanes start before site) (sym same.1) run)
    row_run site new now after job run among of_lane (inr (inl wants)) =
        subst (λ (d : D). IsRun told counts plan jobs lane lanes start before d after) (sym wants.0) (run_wanting site now after run wants.1 wants.2 wants.3)
    row_run site new now after job run among of_lane (inr (inr (goes_on, counter, due, outcome, a))) =
        let past : List Entry = reverse now.journal.entries in
        let unreserved : last_reservation job.id (reverse before) ≡ None =
        unreserved_before before run.added job.id (subst (λ (e : List Entry). last_reservation job.id (reverse e) ≡ None) run.entries (due_unreserved past job counter due)) in
        let added_for : IsAddedFor plan jobs before (reservation_for past job counter) = (refl, among, unreserved, refl) in
        let legal : broken_batch past (reservation_for past job counter ∷ []) ≡ None = ap (λ (o : Option Illegal). option_or o None) (due_legal past job counter due) in
        run_more told counts plan jobs lane lanes start before site new now after (reservation_for past job counter ∷ []) run goes_on (omega arith)
        (alone (IsAddedFor plan jobs before) (reservation_for past job counter) added_for) (alone (IsOfLane lane lanes) (reservation_for past job counter) of_lane) legal outcome a

-- ---- parts of a session one after the other

-- what is added behind a longer history may be added behind a shorter one
shorter_for : (plan : Plan) (jobs : List Job) (before added : List Entry) (entry : Entry) → IsAddedFor plan jobs (before ++ added) entry → IsAddedFor plan jobs before entry
shorter_for plan jobs before added (Open by moment keyset facts) for_row = for_row
shorter_for plan jobs before added (Reserve by moment keyset counter id tar name body) for_row = (for_row.0, for_row.1, unreserved_before before added id for_row.2, for_row.3)
shorter_for plan jobs before added (Done by moment keyset counter answer) for_row = absurd for_row
shorter_for plan jobs before added (Refused by moment keyset counter status) for_row = absurd for_row
shorter_for plan jobs before added (Close by moment keyset) for_row = absurd for_row

pub full_for : (P Q : List Entry → Type 0) (journal : JournalValue) (end : Option LogErr) → ((next : List Entry) → P next → Q next) → IsFullFor P journal end → IsFullFor Q journal end
full_for P Q journal None then_q full = full
full_for P Q journal (Some log_err.Memory) then_q full = full
full_for P Q journal (Some (log_err.DiskFault fault)) then_q full = full
full_for P Q journal (Some log_err.Unformatted) then_q full = full
full_for P Q journal (Some log_err.NotALog) then_q full = full
full_for P Q journal (Some (log_err.OtherHead rest)) then_q full = full
full_for P Q journal (Some (log_err.Damaged number)) then_q full = full
full_for P Q journal (Some (log_err.Full size need)) then_q (a, b, next, holds, c) = (a, b, next, then_q next holds, c)

module _ {D B C : Type 0} (told : Meaning D B C) (counts : D → Counts) (plan : Plan) (jobs : List Job) (lane lanes : ℕ) (start : D) (before : List Entry) (mid : D) (m : Lane) (new : D) (n : Lane)
    (first : IsRun told counts plan jobs lane lanes start before mid m) (goes_on : m.end ≡ None) (second : IsRun told counts plan jobs lane lanes mid m.journal.entries new n) where
  all_for : (more : List Entry) → All (IsAddedFor plan jobs m.journal.entries) more → All (IsAddedFor plan jobs before) more
  all_for more all k d below = shorter_for plan jobs before first.added (get_or more k d) (subst (λ (e : List Entry). IsAddedFor plan jobs e (get_or more k d)) first.entries (all k d below))

  both_added : (more : List Entry) → AreAdded plan jobs lane lanes m.journal.entries more → AreAdded plan jobs lane lanes before (first.added ++ more)
  both_added more adds = record {
    rows = All-append (IsAddedFor plan jobs before) first.added more first.adds.rows (all_for more adds.rows);
    of_lane = All-append (IsEntryOf lane lanes) first.added more first.adds.of_lane adds.of_lane;
    legal = broken_batch-append (reverse before) first.added more first.adds.legal
        (subst (λ (past : List Entry). broken_batch past more ≡ None) (reverse-append before first.added) (subst (λ (e : List Entry). broken_batch (reverse e) more ≡ None) first.entries adds.legal));
  }

  both_entries : (more : List Entry) → m.journal.entries ++ more ≡ before ++ (first.added ++ more)
  both_entries more = ap (λ (e : List Entry). e ++ more) first.entries ∙ append_assoc before first.added more

  pub run_joined : IsRun told counts plan jobs lane lanes start before new n
  run_joined = record {
    lane_is = second.lane_is;
    lanes_are = second.lanes_are;
    added = first.added ++ second.added;
    adds = both_added second.added second.adds;
    entries = second.entries ∙ both_entries second.added;
    tells = second.tells ∙ first.tells;
    moments = λ tells. joined told start mid new (HoldsGrown plan jobs lane lanes before) (first.moments tells)
        (weaker told mid new (HoldsGrown plan jobs lane lanes m.journal.entries) (HoldsGrown plan jobs lane lanes before) (second.moments (first.tells ∙ tells))
        (λ image held. record { added = first.added ++ held.added; adds = both_added held.added held.adds; holds = subst (λ (e : List Entry). Holds lane lanes e image) (both_entries held.added) held.holds }));
    held = λ tells image at. second.held (first.tells ∙ tells) image at;
    ready = λ tells. second.ready (first.tells ∙ tells);
    cause = subst (λ c. EndCause c (counts new) n.end) (subst (λ (end : Option LogErr). EndCause (counts start) (counts mid) end) goes_on first.cause) second.cause;
    full = full_for (λ next. All (IsAddedFor plan jobs m.journal.entries) next) (λ next. All (IsAddedFor plan jobs before) next) n.journal n.end all_for second.full;
  }
