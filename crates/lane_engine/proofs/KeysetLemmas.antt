-- Opens and Closes that a lane may add.
use Rattle.std.proofs.Common.{◌≡◌, inl, inr, ℕ, ◌+◌, ◌≤◌, ◌<◌, ◌%◌, suc, nat_le, Bool, false, true, not, if◌then◌else◌, None, Result, Ok, Err, List, [], ◌∷◌, ◌++◌, length, take, get_or, reverse, All, refl, sym, ◌∙◌, ap, subst, arith}
use Rattle.std.proofs.Math.Seq.{take-suc}
use Rattle.std.specs.Result.{IsErr, IsErrAnd}
use Rattle.std.specs.List.{list_any}
use Rattle.std.proofs.lemmas.Grind.{common_steps}
use Rattle.std.proofs.lemmas.Bool.Decides.{nat_tests}
use Rattle.std.proofs.lemmas.List.Elements.{All-cons}
use Rattle.disk_model.specs.Disk.{Meaning, Tells}
use Rattle.disk_model.specs.Runs.{at_once}
use Rattle.ota_core.specs.Keyset.{Keyset}
use Rattle.ota_core.specs.Entry.{moment_of, keyset_of, is_open_of, is_close_of}
use Rattle.ota_core.specs.History.{broken_in_use, broken_moment, broken_batch}
use Rattle.ota_core.specs.Questions.{state_of, last_moment}
use Rattle.ota_core.specs.declared.entries.Entry.{Entry}
use Rattle.ota_core.specs.declared.entries.Entry.TheVariants.{Open, Reserve, Done, Refused, Close}
use Rattle.ota_core.specs.declared.keysets.KeysetFacts.{KeysetFacts}
use Rattle.ota_core.specs.declared.questions.KeysetState.TheVariants as state
use Rattle.counter_journal.specs.EntryRanges.{IsEntryOf, IsHistory, IsOfLane}
use Rattle.counter_journal.specs.JournalLaws.{All-first, All-rest, All-none}
use Rattle.counter_journal.specs.StandingLaws.{ready_holds}
use Rattle.site_model.specs.Port.{PortState}
use Rattle.world_core.specs.Members.{In}
use Rattle.world_core.specs.MemberLaws.{In-from_reverse, list_any-In}
use Rattle.world_core.specs.declared.lines.Line.{Line}
use Rattle.lane_engine.specs.Adding.{IsAddingRun, adding_events, batch_left}
use Rattle.lane_engine.specs.LaneValue.{LaneValue, IsLane}
use Rattle.lane_engine.specs.Reserving.{opens_of}
use Rattle.lane_engine.specs.declared.answers.LaneErr.{LaneErr}
use Rattle.lane_engine.specs.declared.answers.LaneErr.TheVariants as lane_err

-- a call that does nothing is no event
pub refused_run : {D B C : Type 0} (told : Meaning D B C) (port : B → PortState) (lines : C → ℕ → List Line) (lane : LaneValue D) (batch : List Entry) (result : Result (Unit {0}) LaneErr)
    → IsLane told lane → Tells told lane.site → adding_events batch result ≡ [] → batch_left batch result ≡ None → IsAddingRun told port lines lane lane batch result
refused_run told port lines lane batch result of tells no_events none_left = record {
  port_stands = refl;
  runs = λ chosen sent given answered. rw (no_events, none_left) refl;
  moments = λ live. at_once told lane.site _ (λ image now. inl (ready_holds told lane.site lane.journal (of.ready live tells) image now));
}

-- ---- a keyset that is in use

open_tests : (opened closed : Bool) → (if opened then (if closed then state.Closed else state.Open) else state.New) ≡ state.Open → (opened ≡ true) × (closed ≡ false)
open_tests true true h = cc
open_tests true false h = (refl, refl)
open_tests false closed h = cc

pub open_in_use : (keyset : Keyset) (past : List Entry) → state_of keyset past ≡ state.Open → broken_in_use keyset past ≡ None
open_in_use keyset past h =
    let tests = open_tests (list_any (is_open_of keyset) past) (list_any (is_close_of keyset) past) h in
    rw (tests.0, tests.1) refl

pub moment_after : (past : List Entry) (moment : ℕ) → last_moment past ≤ moment → broken_moment past moment ≡ None
moment_after [] moment h = refl
moment_after (last ∷ past) moment h = (let test : nat_le (moment_of last) moment ≡ true = grind (arith, nat_tests, h) in rw test refl)

pub close_legal : (by moment : ℕ) (keyset : Keyset) (past : List Entry) → state_of keyset past ≡ state.Open → last_moment past ≤ moment → broken_batch past (Close by moment keyset ∷ []) ≡ None
close_legal by moment keyset past open_now later = rw (open_in_use keyset past open_now, moment_after past moment later) refl

-- an entry of a history of the lane is of a card of the lane
of_lane_In : (lane lanes : ℕ) (entries : List Entry) (entry : Entry) → All (IsEntryOf lane lanes) entries → In entry entries → IsOfLane lane lanes entry
of_lane_In lane lanes [] entry all i = absurd i
of_lane_In lane lanes (first ∷ entries) entry all i = elim i [
  | inl e ↦ subst (IsOfLane lane lanes) (sym e) (All-first (IsEntryOf lane lanes) first entries all).of_lane
  | inr later ↦ of_lane_In lane lanes entries entry (All-rest (IsEntryOf lane lanes) first entries all) later
]

card_of_open : (keyset : Keyset) (entry : Entry) → is_open_of keyset entry ≡ true → (keyset_of entry).card.0 ≡ keyset.card.0
card_of_open keyset (Open by moment opened facts) h = grind (arith, common_steps, nat_tests, h)
card_of_open keyset (Reserve by moment reserved counter job tar name body) h = cc
card_of_open keyset (Done by moment settled counter answer) h = cc
card_of_open keyset (Refused by moment settled counter status) h = cc
card_of_open keyset (Close by moment closed) h = cc

-- so is a keyset that it opens
pub open_of_lane : (lane lanes : ℕ) (keyset : Keyset) (entries : List Entry) → IsHistory lane lanes entries → state_of keyset (reverse entries) ≡ state.Open → keyset.card.0 % lanes ≡ lane
open_of_lane lane lanes keyset entries is open_now =
    let tests = open_tests (list_any (is_open_of keyset) (reverse entries)) (list_any (is_close_of keyset) (reverse entries)) open_now in
    let found = list_any-In (is_open_of keyset) (reverse entries) tests.0 in
    let of_lane : IsOfLane lane lanes found.0 = of_lane_In lane lanes entries found.0 is.of_lane (In-from_reverse found.0 entries found.1) in
    subst (λ (n : ℕ). n % lanes ≡ lane) (card_of_open keyset found.0 found.2) of_lane

pub close_of_lane : (lane lanes by moment : ℕ) (keyset : Keyset) → keyset.card.0 % lanes ≡ lane → All (IsOfLane lane lanes) (Close by moment keyset ∷ [])
close_of_lane lane lanes by moment keyset of_lane = All-cons (IsOfLane lane lanes) (Close by moment keyset) [] of_lane (All-none (IsOfLane lane lanes))

-- want of memory before the first device call is no event
pub wanting_run : {D B C : Type 0} (told : Meaning D B C) (port : B → PortState) (lines : C → ℕ → List Line) (lane : LaneValue D) (entry : Entry) (batch : List Entry) (result : Result (Unit {0}) LaneErr)
    → IsLane told lane → Tells told lane.site → IsErr result → IsErrAnd result (λ e. e ≡ lane_err.Memory) → IsAddingRun told port lines lane lane (entry ∷ batch) result
wanting_run told port lines lane entry batch (Ok done) of tells err gives = absurd gives
wanting_run told port lines lane entry batch (Err error) of tells err gives =
    subst (λ (e : LaneErr). IsAddingRun told port lines lane lane (entry ∷ batch) (Err e)) (sym gives)
    (refused_run told port lines lane (entry ∷ batch) (Err lane_err.Memory) of tells refl refl)

new_tests : (opened closed : Bool) → (if opened then (if closed then state.Closed else state.Open) else state.New) ≡ state.New → true ≡ not opened
new_tests true true h = cc
new_tests true false h = cc
new_tests false closed h = refl

old_tests : (opened closed : Bool) → ((if opened then (if closed then state.Closed else state.Open) else state.New) ≡ state.New → ⊥) → false ≡ not opened
old_tests true closed h = refl
old_tests false closed h = absurd (h refl)

-- a new keyset is one that the past doesn't open
pub new_lacks : (keyset : Keyset) (past : List Entry) → state_of keyset past ≡ state.New → true ≡ not (list_any (is_open_of keyset) past)
new_lacks keyset past h = new_tests (list_any (is_open_of keyset) past) (list_any (is_close_of keyset) past) h

pub other_has : (keyset : Keyset) (past : List Entry) → (state_of keyset past ≡ state.New → ⊥) → false ≡ not (list_any (is_open_of keyset) past)
other_has keyset past h = old_tests (list_any (is_open_of keyset) past) (list_any (is_close_of keyset) past) h

-- the Opens of one keyset more
pub opens_more : (by moment : ℕ) (past : List Entry) (keysets : List (Keyset × KeysetFacts)) (keyset : Keyset × KeysetFacts)
    → opens_of by moment past (keysets ++ keyset ∷ []) ≡ opens_of by moment past keysets ++ opens_of by moment past (keyset ∷ [])
opens_more by moment past [] keyset = refl
opens_more by moment past (first ∷ keysets) keyset = by_test (not (list_any (is_open_of first.0) past)) refl (opens_more by moment past keysets keyset)
  where
    by_test : (t : Bool) → not (list_any (is_open_of first.0) past) ≡ t
        → opens_of by moment past (keysets ++ keyset ∷ []) ≡ opens_of by moment past keysets ++ opens_of by moment past (keyset ∷ [])
        → opens_of by moment past (first ∷ keysets ++ keyset ∷ []) ≡ opens_of by moment past (first ∷ keysets) ++ opens_of by moment past (keyset ∷ [])
    by_test true is more = rw (is, more) refl
    by_test false is more = rw (is, more) refl

-- the Opens of the keysets up to one, and of that one
pub opens_step : (by moment : ℕ) (past : List Entry) (keysets : List (Keyset × KeysetFacts)) (index : ℕ) (item : Keyset × KeysetFacts) (before after : List Entry)
    → index < length keysets → item ≡ get_or keysets index item → before ≡ opens_of by moment past (take index keysets) → after ≡ before ++ opens_of by moment past (item ∷ [])
    → after ≡ opens_of by moment past (take (index + 1) keysets)
opens_step by moment past keysets index item before after below is so_far then_is =
    let step : suc index ≡ index + 1 = omega arith in
    then_is
    ∙ ap (λ (l : List Entry). l ++ opens_of by moment past (item ∷ [])) so_far
    ∙ ap (λ (x : Keyset × KeysetFacts). opens_of by moment past (take index keysets) ++ opens_of by moment past (x ∷ [])) is
    ∙ sym (opens_more by moment past (take index keysets) (get_or keysets index item))
    ∙ ap (opens_of by moment past) (sym (take-suc keysets index item below))
    ∙ ap (λ (n : ℕ). opens_of by moment past (take n keysets)) step
