-- Laws of Opens that wait.
use Rattle.std.proofs.Common.{◌≡◌, ◌≢◌, ℕ, ◌+◌, ◌%◌, ◌≤◌, ◌<◌, get_or, Bool, true, false, ◌||◌, List, [], ◌∷◌, ◌++◌, length, reverse, All, Option, Some, None, Result, Ok, Err, refl, inl, inr, sym, ap, subst, ◌∙◌, arith}
use Rattle.std.specs.Option.{option_or}
use Rattle.std.specs.List.{list_any}
use Rattle.std.proofs.lemmas.Bool.{cases_lt, or_from, or_parts}
use Rattle.std.proofs.lemmas.List.{reverse-append, get_or_default, length-append}
use Rattle.std.proofs.lemmas.List.Folds.{list_any-append}
use Rattle.disk_model.specs.Counts.{Counts}
use Rattle.disk_model.specs.Disk.{Meaning}
use Rattle.gate_log.specs.declared.log_errors.LogErr.{LogErr}
use Rattle.gate_log.specs.declared.log_errors.LogErr.TheVariants as log_err
use Rattle.plan_reader.specs.declared.plans.Plan.{Plan}
use Rattle.counter_journal.specs.EntryRanges.{IsSized, IsOfLane}
use Rattle.ota_core.specs.declared.jobs.Job.{Job}
use Rattle.ota_core.specs.Keyset.{Keyset}
use Rattle.ota_core.specs.HistoryLaws.{broken-none, is_same_keyset-refl}
use Rattle.ota_core.specs.Entry.{is_open_of}
use Rattle.ota_core.specs.History.{broken_batch}
use Rattle.ota_core.specs.declared.keysets.KeysetFacts.{KeysetFacts}
use Rattle.ota_core.specs.declared.entries.Entry.{Entry}
use Rattle.ota_core.specs.declared.entries.Illegal.{Illegal}
use Rattle.lane_session.specs.Due.{open_for}
use Rattle.std.proofs.lemmas.List.Elements.{All-push}
use Rattle.lane_session.specs.Rows.{Among, IsAddedFor, facts_of}
use Rattle.lane_session.specs.Run.{IsLaneReady, IsPassed, IsRun, IsAddition}
use Rattle.lane_session.specs.Opens.{has_open, is_opened, AreWaiting, IsOpenStep, AreOpened, IsOpenOr, AreForRows, AreAllAdded}
use Rattle.lane_session.specs.Lanes.{ArePassed}
use Rattle.lane_session.specs.declared.lanes.Lane.{Lane}
use Rattle.lane_session.proofs.LaneLaws.{start_of, passed_ready}
use Rattle.lane_session.proofs.RunLaws.{broken_batch-append, run_more}
use Rattle.lane_session.proofs.RowLaws.{run_wanting, not_both, same_moment}

-- an element that isn't in a list isn't in it backwards
pub none_reversed : (p : Entry → Bool) (xs : List Entry) → list_any p xs ≡ false → list_any p (reverse xs) ≡ false
none_reversed p [] none = refl
none_reversed p (x ∷ xs) none =
    let parts = or_parts (p x) (list_any p xs) none in
    ap (list_any p) (reverse-append (x ∷ []) xs) ∙ list_any-append p (reverse xs) (x ∷ [])
    ∙ or_from (list_any p (reverse xs)) (list_any p (x ∷ [])) (none_reversed p xs parts.1) (or_from (p x) false parts.0 refl)

-- an Open that is due is legal behind those that wait
pub waiting_more : (past waiting : List Entry) (keyset : Keyset) (facts : KeysetFacts) → broken_batch past waiting ≡ None → is_opened past waiting keyset ≡ false → broken_batch past (waiting ++ open_for (reverse waiting ++ past) keyset facts ∷ []) ≡ None
waiting_more past waiting keyset facts legal unopened =
    let parts = or_parts (has_open keyset past) (has_open keyset waiting) unopened in
    let none : list_any (is_open_of keyset) (reverse waiting ++ past) ≡ false =
    list_any-append (is_open_of keyset) (reverse waiting) past ∙ or_from (list_any (is_open_of keyset) (reverse waiting)) (list_any (is_open_of keyset) past) (none_reversed (is_open_of keyset) waiting parts.1) parts.0 in
    broken_batch-append past waiting (open_for (reverse waiting ++ past) keyset facts ∷ []) legal
    (ap (λ (o : Option Illegal). option_or o None)
    (broken-none (reverse waiting ++ past) (open_for (reverse waiting ++ past) keyset facts) (rw none refl) (same_moment (reverse waiting ++ past))))

-- ---- a pass over the rows

-- what became of the lane so far, and of the Opens that wait
pub record IsOpening {D B C : Type 0} (told : Meaning D B C) (counts : D → Counts) (plan : Plan) (jobs : List Job) (number lanes : ℕ) (start : D) (before : Lane) (site : D) (now : Lane) (waiting : List Entry) (count : ℕ) : Type 0 where
  pub passed : IsPassed told counts plan jobs number lanes start before site now
  pub are_waiting : now.end ≡ None → AreWaiting waiting now
  pub for_rows : AreForRows plan jobs before.journal.entries now waiting
  pub opened : AreOpened plan jobs number lanes count now waiting

none_all : (P : Entry → Type 0) → All P []
none_all P k d below = absurd (omega arith)

pub opening_start : {D B C : Type 0} (told : Meaning D B C) (counts : D → Counts) (plan : Plan) (jobs : List Job) (number lanes : ℕ) (start : D) (before : Lane) → IsLaneReady told counts number lanes start before
    → IsOpening told counts plan jobs number lanes start before start before [] 0
opening_start told counts plan jobs number lanes start before ready = record {
  passed = start_of told counts plan jobs number lanes start before before.end refl ready;
  are_waiting = λ goes_on. record { legal = refl; of_lane = none_all (IsOfLane before.journal.lane before.journal.lanes); sized = none_all IsSized; few = omega arith };
  for_rows = λ goes_on. none_all (IsAddedFor plan jobs before.journal.entries);
  opened = λ goes_on i job below within of. absurd (omega (arith, below));
}

-- a row of another lane
pub opening_other : {D B C : Type 0} (told : Meaning D B C) (counts : D → Counts) (plan : Plan) (jobs : List Job) (number lanes : ℕ) (start : D) (before : Lane) (site : D) (now : Lane) (waiting : List Entry) (count : ℕ) (row : Job)
    → row ≡ get_or jobs count row → count < length jobs → row.keyset.card.0 % lanes ≢ number
    → IsOpening told counts plan jobs number lanes start before site now waiting count → IsOpening told counts plan jobs number lanes start before site now waiting (count + 1)
opening_other told counts plan jobs number lanes start before site now waiting count row is within other opening = record {
  passed = opening.passed;
  are_waiting = opening.are_waiting;
  for_rows = opening.for_rows;
  opened = λ goes_on i job below in_jobs of. elim (cases_lt i count) [
    | inl early ↦ opening.opened goes_on i job early in_jobs of
    | inr late ↦ absurd (other (ap (λ (r : Job). r.keyset.card.0 % lanes) (is ∙ get_or_default jobs count row job within ∙ ap (λ (n : ℕ). get_or jobs n job) (same i below late)) ∙ of))
  ];
}
  where
    same : (i : ℕ) → i < count + 1 → count ≤ i → count ≡ i
    same i below late = omega arith

-- ---- one row of the lane

pub or_right : (a b : Bool) → b ≡ true → (a || b) ≡ true
or_right true b e = refl
or_right false b e = e

pub or_left : (a b : Bool) → a ≡ true → (a || b) ≡ true
or_left true b e = refl
or_left false b e = absurd cc

or_either : (a b c : Bool) → (a || b) ≡ true → (a ≡ true → c ≡ true) → (b ≡ true → c ≡ true) → c ≡ true
or_either true b c e left right = left refl
or_either false b c e left right = right e

-- an element that is in a list is in it backwards
pub some_reversed : (p : Entry → Bool) (xs : List Entry) → list_any p xs ≡ true → list_any p (reverse xs) ≡ true
some_reversed p [] e = absurd cc
some_reversed p (x ∷ xs) e =
    ap (list_any p) (reverse-append (x ∷ []) xs) ∙ list_any-append p (reverse xs) (x ∷ [])
    ∙ or_either (p x) (list_any p xs) (list_any p (reverse xs) || list_any p (x ∷ [])) e
    (λ first. or_right (list_any p (reverse xs)) (list_any p (x ∷ [])) (or_left (p x) false first))
    (λ later. or_left (list_any p (reverse xs)) (list_any p (x ∷ [])) (some_reversed p xs later))

-- a keyset that is opened stays so where one more Open waits
opened_waiting : (past waiting : List Entry) (keyset : Keyset) (entry : Entry) → is_opened past waiting keyset ≡ true → is_opened past (waiting ++ entry ∷ []) keyset ≡ true
opened_waiting past waiting keyset entry opened =
    or_either (has_open keyset past) (has_open keyset waiting) (is_opened past (waiting ++ entry ∷ []) keyset) opened
    (λ before. or_left (has_open keyset past) (has_open keyset (waiting ++ entry ∷ [])) before)
    (λ waits. or_right (has_open keyset past) (has_open keyset (waiting ++ entry ∷ [])) (list_any-append (is_open_of keyset) waiting (entry ∷ []) ∙ or_left (has_open keyset waiting) (has_open keyset (entry ∷ [])) waits))

-- and where what waited was added
opened_added : (entries waiting added : List Entry) (keyset : Keyset) → added ≡ entries ++ waiting → is_opened (reverse entries) waiting keyset ≡ true → is_opened (reverse added) [] keyset ≡ true
opened_added entries waiting added keyset is opened =
    or_left (has_open keyset (reverse added)) false
    (ap (λ (l : List Entry). has_open keyset (reverse l)) is ∙ ap (has_open keyset) (reverse-append entries waiting) ∙ list_any-append (is_open_of keyset) (reverse waiting) (reverse entries)
    ∙ or_either (has_open keyset (reverse entries)) (has_open keyset waiting) (has_open keyset (reverse waiting) || has_open keyset (reverse entries)) opened
    (λ before. or_right (has_open keyset (reverse waiting)) (has_open keyset (reverse entries)) before)
    (λ waits. or_left (has_open keyset (reverse waiting)) (has_open keyset (reverse entries)) (some_reversed (is_open_of keyset) waiting waits)))

same_opened : (past : List Entry) (keyset : Keyset) (facts : KeysetFacts) → has_open keyset (open_for past keyset facts ∷ []) ≡ true
same_opened past keyset facts = rw (is_same_keyset-refl keyset) refl

module _ {D B C : Type 0} (told : Meaning D B C) (counts : D → Counts) (plan : Plan) (jobs : List Job) (number lanes : ℕ) (start : D) (before : Lane) (site : D) (now : Lane) (waiting : List Entry) (count : ℕ)
    (opening : IsOpening told counts plan jobs number lanes start before site now waiting count) where
  -- a lane that goes on was one that went on
  running : now.end ≡ None → (before.end ≡ None) × IsRun told counts plan jobs number lanes start before.journal.entries site now
  running goes_on = by_passed opening.passed
    where
      by_passed : IsPassed told counts plan jobs number lanes start before site now → (before.end ≡ None) × IsRun told counts plan jobs number lanes start before.journal.entries site now
      by_passed (inl same) = absurd (same.0 (ap (λ (l : Lane). l.end) (sym same.2) ∙ goes_on))
      by_passed (inr run) = run

  module _ (new : D) (after : Lane) (still : List Entry) (row : Job) (among : Among row jobs) (is : row ≡ get_or jobs count row) (within : count < length jobs) (of_lane : row.keyset.card.0 % lanes ≡ number) where
    -- the rows so far, and this one
    rows_opened : (lane : Lane) (waits : List Entry) → ((keyset : Keyset) → IsOpenOr plan now waiting keyset → IsOpenOr plan lane waits keyset) → IsOpenOr plan lane waits row.keyset → now.end ≡ None
        → (i : ℕ) (job : Job) → i < count + 1 → i < length jobs → (get_or jobs i job).keyset.card.0 % lanes ≡ number → IsOpenOr plan lane waits (get_or jobs i job).keyset
    rows_opened lane waits keeps this goes_on i job below in_jobs of =
        elim (cases_lt i count) [
          | inl early ↦ keeps (get_or jobs i job).keyset (opening.opened goes_on i job early in_jobs of)
          | inr late ↦ subst (λ (r : Job). IsOpenOr plan lane waits r.keyset) (is ∙ get_or_default jobs count row job within ∙ ap (λ (n : ℕ). get_or jobs n job) (same i below late)) this
        ]
      where
        same : (i : ℕ) → i < count + 1 → count ≤ i → count ≡ i
        same i below late = omega arith

    -- the Open of the row's keyset
    module _ (goes_on : now.end ≡ None) (facts : KeysetFacts) (facts_is : facts_of plan row.keyset ≡ Some facts) (unopened : is_opened (reverse now.journal.entries) waiting row.keyset ≡ false) where
      abbrev opening_entry : Entry
      opening_entry = open_for (reverse waiting ++ reverse now.journal.entries) row.keyset facts

      run : IsRun told counts plan jobs number lanes start before.journal.entries site now
      run = (running goes_on).1

      for_all : All (IsAddedFor plan jobs before.journal.entries) (waiting ++ opening_entry ∷ [])
      for_all = All-push (IsAddedFor plan jobs before.journal.entries) waiting opening_entry (opening.for_rows goes_on) (refl, facts_is, record { job = row; row = among; on = refl })

      of_now : All (IsOfLane now.journal.lane now.journal.lanes) (waiting ++ opening_entry ∷ [])
      of_now = All-push (IsOfLane now.journal.lane now.journal.lanes) waiting opening_entry (opening.are_waiting goes_on).of_lane (ap (λ (n : ℕ). row.keyset.card.0 % n) run.lanes_are ∙ of_lane ∙ sym run.lane_is)

      legal : broken_batch (reverse now.journal.entries) (waiting ++ opening_entry ∷ []) ≡ None
      legal = waiting_more (reverse now.journal.entries) waiting row.keyset facts (opening.are_waiting goes_on).legal unopened

      long : length (waiting ++ opening_entry ∷ []) ≡ length waiting + 1
      long = length-append waiting (opening_entry ∷ [])

      waits_open : has_open row.keyset (waiting ++ opening_entry ∷ []) ≡ true
      waits_open = list_any-append (is_open_of row.keyset) waiting (opening_entry ∷ []) ∙ or_right (has_open row.keyset waiting) (has_open row.keyset (opening_entry ∷ [])) (same_opened (reverse waiting ++ reverse now.journal.entries) row.keyset facts)

      keeps_waiting : (keyset : Keyset) → IsOpenOr plan now waiting keyset → IsOpenOr plan now (waiting ++ opening_entry ∷ []) keyset
      keeps_waiting keyset (inl opened) = inl (opened_waiting (reverse now.journal.entries) waiting keyset opening_entry opened)
      keeps_waiting keyset (inr none) = inr none

      -- it waits
      waits : length (waiting ++ opening_entry ∷ []) < 16 → IsOpening told counts plan jobs number lanes start before site now (waiting ++ opening_entry ∷ []) (count + 1)
      waits few = record {
        passed = opening.passed;
        are_waiting = λ _. record { legal = legal; of_lane = of_now; sized = All-push IsSized waiting opening_entry (opening.are_waiting goes_on).sized tt; few = few };
        for_rows = λ _. for_all;
        opened = λ _. rows_opened now (waiting ++ opening_entry ∷ []) keeps_waiting (inl (or_right (has_open row.keyset (reverse now.journal.entries)) (has_open row.keyset (waiting ++ opening_entry ∷ [])) waits_open)) goes_on;
      }

      -- or it is added with those that wait
      added : (outcome : Result (Unit {0}) LogErr) → IsAddition told counts site new now after (waiting ++ opening_entry ∷ []) outcome → IsOpening told counts plan jobs number lanes start before new after [] (count + 1)
      added outcome a = record {
        passed = inr (
          (running goes_on).0,
          run_more told counts plan jobs number lanes start before.journal.entries site new now after (waiting ++ opening_entry ∷ []) run goes_on
              (omega (arith, long, (opening.are_waiting goes_on).few)) for_all (in_lane_of run.lane_is run.lanes_are of_now) legal outcome a,
        );
        are_waiting = λ still_on. record { legal = refl; of_lane = none_all (IsOfLane after.journal.lane after.journal.lanes); sized = none_all IsSized; few = omega arith };
        for_rows = λ still_on. none_all (IsAddedFor plan jobs before.journal.entries);
        opened = λ still_on. by_outcome outcome a still_on;
      }
        where
          in_lane_of : now.journal.lane ≡ number → now.journal.lanes ≡ lanes → All (IsOfLane now.journal.lane now.journal.lanes) (waiting ++ opening_entry ∷ []) → All (IsOfLane number lanes) (waiting ++ opening_entry ∷ [])
          in_lane_of is_lane is_lanes all = subst (λ (l : ℕ). All (IsOfLane l lanes) (waiting ++ opening_entry ∷ [])) is_lane (subst (λ (l : ℕ). All (IsOfLane now.journal.lane l) (waiting ++ opening_entry ∷ [])) is_lanes all)

          by_outcome : (outcome : Result (Unit {0}) LogErr) → IsAddition told counts site new now after (waiting ++ opening_entry ∷ []) outcome → after.end ≡ None
              → (i : ℕ) (job : Job) → i < count + 1 → i < length jobs → (get_or jobs i job).keyset.card.0 % lanes ≡ number → IsOpenOr plan after [] (get_or jobs i job).keyset
          by_outcome (Err error) a still_on = absurd (not_both error after.end a.end_is still_on)
          by_outcome (Ok done) a still_on =
              rows_opened after [] keeps (inl (opened_added now.journal.entries (waiting ++ opening_entry ∷ []) after.journal.entries row.keyset a.added
              (or_right (has_open row.keyset (reverse now.journal.entries)) (has_open row.keyset (waiting ++ opening_entry ∷ [])) waits_open))) goes_on
            where
              keeps : (keyset : Keyset) → IsOpenOr plan now waiting keyset → IsOpenOr plan after [] keyset
              keeps keyset (inl opened) = inl (opened_added now.journal.entries (waiting ++ opening_entry ∷ []) after.journal.entries keyset a.added (opened_waiting (reverse now.journal.entries) waiting keyset opening_entry opened))
              keeps keyset (inr none) = inr none

    -- whatever the row makes of the lane
    pub opening_row : IsOpenStep told counts plan site new now after waiting still row.keyset → IsOpening told counts plan jobs number lanes start before new after still (count + 1)
    opening_row (inl same) =
        subst (λ (d : D). IsOpening told counts plan jobs number lanes start before d after still (count + 1)) (sym same.0)
        (subst (λ (l : Lane). IsOpening told counts plan jobs number lanes start before site l still (count + 1)) (sym same.1)
        (subst (λ (w : List Entry). IsOpening told counts plan jobs number lanes start before site now w (count + 1)) (sym same.2)
        (record {
          passed = opening.passed;
          are_waiting = opening.are_waiting;
          for_rows = opening.for_rows;
          opened = λ goes_on. rows_opened now waiting (λ keyset opened. opened) (same.3 goes_on) goes_on;
        })))
    opening_row (inr (inl wants)) = record {
      passed = inr (
        (running wants.1).0,
        subst (λ (d : D). IsRun told counts plan jobs number lanes start before.journal.entries d after) (sym wants.0)
            (run_wanting told counts plan jobs number lanes start before.journal.entries site now after (running wants.1).1 wants.1 wants.2 wants.3),
      );
      are_waiting = λ still_on. absurd (not_both log_err.Memory after.end wants.3 still_on);
      for_rows = λ still_on. absurd (not_both log_err.Memory after.end wants.3 still_on);
      opened = λ still_on i job below in_jobs of. absurd (not_both log_err.Memory after.end wants.3 still_on);
    }
    opening_row (inr (inr (goes_on, unopened, facts, facts_is, inl same))) =
        subst (λ (d : D). IsOpening told counts plan jobs number lanes start before d after still (count + 1)) (sym same.0)
        (subst (λ (l : Lane). IsOpening told counts plan jobs number lanes start before site l still (count + 1)) (sym same.1)
        (subst (λ (w : List Entry). IsOpening told counts plan jobs number lanes start before site now w (count + 1)) (sym same.2)
        (waits goes_on facts facts_is unopened (subst (λ (w : List Entry). length w < 16) same.2 same.3))))
    opening_row (inr (inr (goes_on, unopened, facts, facts_is, inr (none, outcome, a)))) =
        subst (λ (w : List Entry). IsOpening told counts plan jobs number lanes start before new after w (count + 1)) (sym none) (added goes_on facts facts_is unopened outcome a)

-- ---- at the end of the pass

module _ {D B C : Type 0} (told : Meaning D B C) (counts : D → Counts) (plan : Plan) (jobs : List Job) (number lanes : ℕ) (start : D) (before : Lane) (site : D) (now : Lane) (waiting : List Entry) (count : ℕ)
    (opening : IsOpening told counts plan jobs number lanes start before site now waiting count) where
  pub opening_ready : IsLaneReady told counts number lanes start before → IsLaneReady told counts number lanes site now
  opening_ready ready = passed_ready told counts plan jobs number lanes start site before now ready opening.passed

  -- the Opens that waited are added
  pub opening_done : (new : D) (after : Lane) → AreAllAdded told counts site new now after waiting
      → IsPassed told counts plan jobs number lanes start before new after × AreOpened plan jobs number lanes count after []
  opening_done new after (inl same) = (
    subst (λ (d : D). IsPassed told counts plan jobs number lanes start before d after) (sym same.0) (subst (IsPassed told counts plan jobs number lanes start before site) (sym same.1) opening.passed),
    λ goes_on i job below within of.
        let on : now.end ≡ None = ap (λ (l : Lane). l.end) (sym same.1) ∙ goes_on in
        subst (λ (l : Lane). IsOpenOr plan l [] (get_or jobs i job).keyset) (sym same.1)
        (subst (λ (w : List Entry). IsOpenOr plan now w (get_or jobs i job).keyset) (same.2 on) (opening.opened on i job below within of)),
  )
  opening_done new after (inr (goes_on, some_wait, outcome, a)) =
      let run = running told counts plan jobs number lanes start before site now waiting count opening goes_on in (
        inr (
          run.0,
          run_more told counts plan jobs number lanes start before.journal.entries site new now after waiting run.1 goes_on (omega (arith, (opening.are_waiting goes_on).few)) (opening.for_rows goes_on)
              (subst (λ (l : ℕ). All (IsOfLane l lanes) waiting) run.1.lane_is (subst (λ (l : ℕ). All (IsOfLane now.journal.lane l) waiting) run.1.lanes_are (opening.are_waiting goes_on).of_lane))
              (opening.are_waiting goes_on).legal outcome a,
        ),
        by_outcome outcome a,
      )
    where
      by_outcome : (outcome : Result (Unit {0}) LogErr) → IsAddition told counts site new now after waiting outcome → AreOpened plan jobs number lanes count after []
      by_outcome (Err error) a = λ still_on. absurd (not_both error after.end a.end_is still_on)
      by_outcome (Ok done) a = λ still_on i job below within of. moved (get_or jobs i job).keyset (opening.opened goes_on i job below within of)
        where
          moved : (keyset : Keyset) → IsOpenOr plan now waiting keyset → IsOpenOr plan after [] keyset
          moved keyset (inl opened) = inl (opened_added now.journal.entries waiting after.journal.entries keyset a.added opened)
          moved keyset (inr none) = inr none

-- ---- what stays opened

true_not : false ≡ true → ⊥
true_not e = cc

-- the keysets of rows stay opened in the parts of a session that follow
pub stays_opened : {D B C : Type 0} (told : Meaning D B C) (counts : D → Counts) (plan : Plan) (jobs : List Job) (number lanes count : ℕ) (start : D) (before : Lane) (site : D) (now : Lane)
    → IsPassed told counts plan jobs number lanes start before site now → AreOpened plan jobs number lanes count before [] → AreOpened plan jobs number lanes count now []
stays_opened told counts plan jobs number lanes count start before site now (inl same) opened = subst (λ (l : Lane). AreOpened plan jobs number lanes count l []) (sym same.2) opened
stays_opened told counts plan jobs number lanes count start before site now (inr run) opened = λ goes_on i job below within of. moved (get_or jobs i job).keyset (opened run.0 i job below within of)
  where
    moved : (keyset : Keyset) → IsOpenOr plan before [] keyset → IsOpenOr plan now [] keyset
    moved keyset (inl is) =
        inl (opened_added before.journal.entries run.1.added now.journal.entries keyset run.1.entries
        (or_either (has_open keyset (reverse before.journal.entries)) false (is_opened (reverse before.journal.entries) run.1.added keyset) is
        (λ there. or_left (has_open keyset (reverse before.journal.entries)) (has_open keyset run.1.added) there) (λ never. absurd (true_not never))))
    moved keyset (inr none) = inr none

pub all_opened : {D B C : Type 0} (told : Meaning D B C) (counts : D → Counts) (plan : Plan) (jobs : List Job) (starts news : List D) (befores lanes : List Lane)
    → ArePassed told counts plan jobs starts befores news lanes → ((k : ℕ) (lane : Lane) → k < length befores → AreOpened plan jobs k (length befores) (length jobs) (get_or befores k lane) [])
    → (start : D) → (k : ℕ) (lane : Lane) → k < length lanes → AreOpened plan jobs k (length lanes) (length jobs) (get_or lanes k lane) []
all_opened told counts plan jobs starts news befores lanes passed opened start k lane below =
    let within : k < length befores = omega (arith, below, passed.same_lanes) in
    subst (λ (n : ℕ). AreOpened plan jobs k n (length jobs) (get_or lanes k lane) []) (sym passed.same_lanes)
    (stays_opened told counts plan jobs k (length befores) (length jobs) (get_or starts k start) (get_or befores k lane) (get_or news k start) (get_or lanes k lane) (passed.each k start start lane lane within) (opened k lane within))
