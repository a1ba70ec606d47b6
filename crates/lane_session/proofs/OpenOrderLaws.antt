-- Laws of the order in which keysets are opened.
use Rattle.std.proofs.Common.{◌≡◌, ◌≢◌, ◌⊎◌, ℕ, ◌+◌, ◌%◌, ◌<◌, Bool, true, false, ◌||◌, List, [], ◌∷◌, ◌++◌, length, reverse, get_or, set, Some, None, Result, Ok, Err, refl, inl, inr, sym, ap, subst, ◌∙◌, append_assoc, arith, below_more}
use Rattle.std.proofs.lemmas.Bool.{or_from, or_parts}
use Rattle.std.proofs.lemmas.List.{append-nil, reverse-append, get_or-set_same, get_or-set_other, get_or_default}
use Rattle.std.proofs.lemmas.List.Folds.{list_any-append}
use Rattle.disk_model.specs.Counts.{Counts}
use Rattle.disk_model.specs.Disk.{Meaning}
use Rattle.gate_log.specs.declared.log_errors.LogErr.{LogErr}
use Rattle.gate_log.specs.declared.log_errors.LogErr.TheVariants as log_err
use Rattle.ota_core.specs.Keyset.{Keyset}
use Rattle.ota_core.specs.Entry.{is_open_of}
use Rattle.ota_core.specs.declared.jobs.Job.{Job}
use Rattle.ota_core.specs.declared.keysets.KeysetFacts.{KeysetFacts}
use Rattle.ota_core.specs.declared.entries.Entry.{Entry}
use Rattle.plan_reader.specs.declared.plans.Plan.{Plan}
use Rattle.lane_session.specs.Rows.{facts_of}
use Rattle.lane_session.specs.Due.{open_for}
use Rattle.lane_session.specs.Run.{IsAddition}
use Rattle.lane_session.specs.Opens.{has_open, is_opened, IsOpenStep, AreAllAdded}
use Rattle.lane_session.specs.Order.{rows_of_lane, opens_for, opens_for_rows, IsOpenedInOrder}
use Rattle.lane_session.specs.declared.lanes.Lane.{Lane}
use Rattle.lane_session.proofs.OrderLaws.{rows_here, rows_there, not_full, wants_memory, full_by}
use Rattle.lane_session.proofs.OpenLaws.{or_left, or_right, none_reversed, some_reversed}
use Rattle.lane_session.proofs.RowLaws.{not_both}

-- the past of the lane, with what waits
abbrev pub past_of : Lane → List Entry → List Entry
past_of now waiting = reverse waiting ++ reverse now.journal.entries

true_by : (a b : Bool) → (a ≡ true) ⊎ (b ≡ true) → (a || b) ≡ true
true_by a b (inl is) = or_left a b is
true_by a b (inr is) = or_right a b is

either : (a b : Bool) → (a || b) ≡ true → (a ≡ true) ⊎ (b ≡ true)
either true b is = inl refl
either false b is = inr is

-- a keyset that is opened by the history or by what waits
opened_there : (now : Lane) (waiting : List Entry) (keyset : Keyset) → is_opened (reverse now.journal.entries) waiting keyset ≡ true → has_open keyset (past_of now waiting) ≡ true
opened_there now waiting keyset is = list_any-append (is_open_of keyset) (reverse waiting) (reverse now.journal.entries) ∙ true_by (has_open keyset (reverse waiting)) (has_open keyset (reverse now.journal.entries)) (by (either (has_open keyset (reverse now.journal.entries)) (has_open keyset waiting) is))
  where
    by : (has_open keyset (reverse now.journal.entries) ≡ true) ⊎ (has_open keyset waiting ≡ true) → (has_open keyset (reverse waiting) ≡ true) ⊎ (has_open keyset (reverse now.journal.entries) ≡ true)
    by (inl before) = inr before
    by (inr waits) = inl (some_reversed (is_open_of keyset) waiting waits)

unopened_there : (now : Lane) (waiting : List Entry) (keyset : Keyset) → is_opened (reverse now.journal.entries) waiting keyset ≡ false → has_open keyset (past_of now waiting) ≡ false
unopened_there now waiting keyset is =
    let parts = or_parts (has_open keyset (reverse now.journal.entries)) (has_open keyset waiting) is in
    list_any-append (is_open_of keyset) (reverse waiting) (reverse now.journal.entries)
    ∙ or_from (has_open keyset (reverse waiting)) (has_open keyset (reverse now.journal.entries)) (none_reversed (is_open_of keyset) waiting parts.1) parts.0

-- nothing is due to a keyset that is opened, or that the plan has not
none_due : (plan : Plan) (past : List Entry) (keyset : Keyset) → (has_open keyset past ≡ true) ⊎ (facts_of plan keyset ≡ None) → opens_for plan past keyset ≡ []
none_due plan past keyset (inl open_is) = rw open_is refl
none_due plan past keyset (inr none) = by (has_open keyset past) refl
  where
    by : (is : Bool) → has_open keyset past ≡ is → opens_for plan past keyset ≡ []
    by true e = rw e refl
    by false e = rw (e, none) refl

one_due : (plan : Plan) (past : List Entry) (keyset : Keyset) (facts : KeysetFacts) → has_open keyset past ≡ false → facts_of plan keyset ≡ Some facts → opens_for plan past keyset ≡ open_for past keyset facts ∷ []
one_due plan past keyset facts unopened is = rw (unopened, is) refl

-- the rows behind one of the lane
opens_after : (plan : Plan) (past : List Entry) (job : Job) (left : List Job) (k n : ℕ) (due : List Entry) → job.keyset.card.0 % n ≡ k → opens_for plan past job.keyset ≡ due
    → opens_for_rows plan past (rows_of_lane k n (job ∷ left)) ≡ due ++ opens_for_rows plan (due ++ past) (rows_of_lane k n left)
opens_after plan past job left k n due of is =
    ap (opens_for_rows plan past) (rows_here k n job left of) ∙ ap (λ (d : List Entry). d ++ opens_for_rows plan (d ++ past) (rows_of_lane k n left)) is

module _ {D B C : Type 0} (told : Meaning D B C) (counts : D → Counts) (plan : Plan) (k n : ℕ) (jobs : List Job) (before : Lane) where
  -- before the first row
  pub open_order_start : IsOpenedInOrder plan k n jobs jobs before before []
  open_order_start = record {
    added = [];
    rest = opens_for_rows plan (reverse before.journal.entries) (rows_of_lane k n jobs);
    entries = sym (append-nil before.journal.entries);
    order = refl;
    whole = λ goes_on. refl;
    full = λ began. not_full (opens_for_rows plan (reverse before.journal.entries) (rows_of_lane k n jobs)) before began;
  }

  -- a row of another lane
  pub open_order_other : (left : List Job) (now : Lane) (waiting : List Entry) (job : Job) → job.keyset.card.0 % n ≢ k → IsOpenedInOrder plan k n jobs (job ∷ left) before now waiting → IsOpenedInOrder plan k n jobs left before now waiting
  open_order_other left now waiting job differs kept = record {
    added = kept.added;
    rest = kept.rest;
    entries = kept.entries;
    order = kept.order;
    whole = λ goes_on. kept.whole goes_on ∙ ap (λ (rows : List Job). waiting ++ opens_for_rows plan (past_of now waiting) rows) (rows_there k n job left differs);
    full = kept.full;
  }

  -- an addition of all that waits
  module _ (left : List Job) (now after : Lane) (old new : D) (waiting : List Entry) (kept : IsOpenedInOrder plan k n jobs left before now waiting) (goes_on : now.end ≡ None) where
    pub open_order_added : (outcome : Result (Unit {0}) LogErr) → IsAddition told counts old new now after waiting outcome → IsOpenedInOrder plan k n jobs left before after []
    open_order_added (Err error) a = record {
      added = kept.added;
      rest = kept.rest;
      entries = a.err.entries ∙ kept.entries;
      order = kept.order;
      whole = λ still_on. absurd (not_both error after.end a.end_is still_on);
      full = λ began. full_by told counts old new now after waiting kept.rest (opens_for_rows plan (past_of now waiting) (rows_of_lane k n left), kept.whole goes_on) error a;
    }
    open_order_added (Ok done) a = record {
      added = kept.added ++ waiting;
      rest = later;
      entries = a.added ∙ ap (λ (e : List Entry). e ++ waiting) kept.entries ∙ append_assoc before.journal.entries kept.added waiting;
      order = append_assoc kept.added waiting later ∙ ap (λ (r : List Entry). kept.added ++ r) (sym (kept.whole goes_on)) ∙ kept.order;
      whole = λ still_on. ap (λ (past : List Entry). opens_for_rows plan past (rows_of_lane k n left)) (sym past_is);
      full = λ began. not_full later after a.end_is;
    }
      where
        later : List Entry
        later = opens_for_rows plan (past_of now waiting) (rows_of_lane k n left)

        past_is : reverse after.journal.entries ≡ past_of now waiting
        past_is = ap reverse a.added ∙ reverse-append now.journal.entries waiting

  -- one more Open waits
  open_order_waits : (left : List Job) (now : Lane) (waiting : List Entry) (job : Job) (facts : KeysetFacts) → job.keyset.card.0 % n ≡ k → IsOpenedInOrder plan k n jobs (job ∷ left) before now waiting
      → is_opened (reverse now.journal.entries) waiting job.keyset ≡ false → facts_of plan job.keyset ≡ Some facts → IsOpenedInOrder plan k n jobs left before now (waiting ++ open_for (past_of now waiting) job.keyset facts ∷ [])
  open_order_waits left now waiting job facts of kept unopened facts_is = record {
    added = kept.added;
    rest = kept.rest;
    entries = kept.entries;
    order = kept.order;
    whole = λ goes_on. kept.whole goes_on
        ∙ ap (λ (r : List Entry). waiting ++ r) (opens_after plan (past_of now waiting) job left k n (entry ∷ []) of (one_due plan (past_of now waiting) job.keyset facts (unopened_there now waiting job.keyset unopened) facts_is))
        ∙ sym (append_assoc waiting (entry ∷ []) (opens_for_rows plan (entry ∷ past_of now waiting) (rows_of_lane k n left)))
        ∙ ap (λ (w : List Entry). (waiting ++ entry ∷ []) ++ opens_for_rows plan (w ++ reverse now.journal.entries) (rows_of_lane k n left)) (sym (reverse-append waiting (entry ∷ [])));
    full = kept.full;
  }
    where
      entry : Entry
      entry = open_for (past_of now waiting) job.keyset facts

  -- a row of the lane
  pub open_order_row : (left : List Job) (now after : Lane) (old new : D) (waiting still : List Entry) (job : Job) → job.keyset.card.0 % n ≡ k → IsOpenedInOrder plan k n jobs (job ∷ left) before now waiting
      → IsOpenStep told counts plan old new now after waiting still job.keyset → IsOpenedInOrder plan k n jobs left before after still
  open_order_row left now after old new waiting still job of kept (inl same) =
      subst (λ (l : Lane). IsOpenedInOrder plan k n jobs left before l still) (sym same.1) (subst (IsOpenedInOrder plan k n jobs left before now) (sym same.2) (record {
        added = kept.added;
        rest = kept.rest;
        entries = kept.entries;
        order = kept.order;
        whole = λ goes_on. kept.whole goes_on
            ∙ ap (λ (r : List Entry). waiting ++ r) (opens_after plan (past_of now waiting) job left k n [] of (none_due plan (past_of now waiting) job.keyset (by (same.3 goes_on))));
        full = kept.full;
      }))
    where
      by : (is_opened (reverse now.journal.entries) waiting job.keyset ≡ true) ⊎ (facts_of plan job.keyset ≡ None) → (has_open job.keyset (past_of now waiting) ≡ true) ⊎ (facts_of plan job.keyset ≡ None)
      by (inl is) = inl (opened_there now waiting job.keyset is)
      by (inr none) = inr none
  open_order_row left now after old new waiting still job of kept (inr (inl wants)) = record {
    added = kept.added;
    rest = kept.rest;
    entries = ap (λ j. j.entries) wants.2 ∙ kept.entries;
    order = kept.order;
    whole = λ goes_on. absurd (not_both log_err.Memory after.end wants.3 goes_on);
    full = λ began. wants_memory kept.rest after wants.3;
  }
  open_order_row left now after old new waiting still job of kept (inr (inr (goes_on, unopened, facts, facts_is, inl same))) =
      subst (λ (l : Lane). IsOpenedInOrder plan k n jobs left before l still) (sym same.1) (subst (IsOpenedInOrder plan k n jobs left before now) (sym same.2)
      (open_order_waits left now waiting job facts of kept unopened facts_is))
  open_order_row left now after old new waiting still job of kept (inr (inr (goes_on, unopened, facts, facts_is, inr (none, outcome, a)))) =
      subst (IsOpenedInOrder plan k n jobs left before after) (sym none)
      (open_order_added left now after old new (waiting ++ open_for (past_of now waiting) job.keyset facts ∷ []) (open_order_waits left now waiting job facts of kept unopened facts_is) goes_on outcome a)

  -- at the end of the rows
  pub open_order_done : (now after : Lane) (old new : D) (waiting : List Entry) → IsOpenedInOrder plan k n jobs [] before now waiting → AreAllAdded told counts old new now after waiting → IsOpenedInOrder plan k n jobs [] before after []
  open_order_done now after old new waiting kept (inl same) = subst (λ (l : Lane). IsOpenedInOrder plan k n jobs [] before l []) (sym same.1) (record {
    added = kept.added;
    rest = kept.rest;
    entries = kept.entries;
    order = kept.order;
    whole = λ goes_on. kept.whole goes_on ∙ append-nil waiting ∙ same.2 goes_on;
    full = kept.full;
  })
  open_order_done now after old new waiting kept (inr (goes_on, some_wait, outcome, a)) = open_order_added [] now after old new waiting kept goes_on outcome a

-- ---- lane by lane

-- the lanes below a number are opened in order
pub record OrderBelow (plan : Plan) (jobs : List Job) (befores lanes : List Lane) (number : ℕ) : Type 0 where
  pub done : (k : ℕ) (before lane : Lane) → k < number → k < length befores → IsOpenedInOrder plan k (length befores) jobs [] (get_or befores k before) (get_or lanes k lane) []

pub order_none : (plan : Plan) (jobs : List Job) (befores lanes : List Lane) → OrderBelow plan jobs befores lanes 0
order_none plan jobs befores lanes = record { done = λ k before lane below within. absurd (omega (arith, below)) }

module _ (plan : Plan) (jobs : List Job) (befores lanes : List Lane) (number : ℕ) (after : Lane) (l : Lane) (within : number < length befores) (same_lanes : length lanes ≡ length befores)
    (same_lane : get_or lanes number l ≡ get_or befores number l) (kept : OrderBelow plan jobs befores lanes number)
    (step : IsOpenedInOrder plan number (length befores) jobs [] (get_or lanes number l) after []) where
  -- the lane of this number is opened in order
  abbrev IsInOrderAt : ℕ → Type 0
  IsInOrderAt k = (before lane : Lane) → k < length befores → IsOpenedInOrder plan k (length befores) jobs [] (get_or befores k before) (get_or (set lanes number after) k lane) []

  order_here : IsInOrderAt number
  order_here before lane in_lanes =
      let before-is : get_or lanes number l ≡ get_or befores number before = same_lane ∙ get_or_default befores number l before within in
      subst (λ (b : Lane). IsOpenedInOrder plan number (length befores) jobs [] (get_or befores number before) b []) (sym (get_or-set_same lanes number after lane (omega (arith, within, same_lanes))))
      (subst (λ (b : Lane). IsOpenedInOrder plan number (length befores) jobs [] b after []) before-is step)

  order_below : (k : ℕ) → k < number → IsInOrderAt k
  order_below k below before lane in_lanes =
      subst (λ (b : Lane). IsOpenedInOrder plan k (length befores) jobs [] (get_or befores k before) b []) (sym (get_or-set_other lanes number k after lane (λ is. absurd (omega (arith, below, is))))) (kept.done k before lane below in_lanes)

  pub next_order : OrderBelow plan jobs befores (set lanes number after) (number + 1)
  next_order = record { done = λ k before lane below in_lanes. below_more IsInOrderAt number order_below order_here k below before lane in_lanes }
