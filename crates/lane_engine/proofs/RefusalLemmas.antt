-- Calls that do nothing: what the history refuses, and want of memory before the first call of the site.
use Rattle.std.proofs.Common.{◌≡◌, ℕ, nat_le, Bool, true, false, not, Option, Some, None, Err, List, [], ◌∷◌, length, if◌then◌else◌, refl, sym, ◌∙◌, ap, subst, arith, append-nil}
use Rattle.std.specs.Option.{option_or}
use Rattle.std.specs.List.{list_any}
use Rattle.disk_model.specs.Counts.{Counts}
use Rattle.disk_model.specs.Disk.{Meaning, Tells}
use Rattle.ota_core.specs.Entry.{Reservation, is_refusal_of, is_reserve_of, is_settlement_of}
use Rattle.ota_core.specs.History.{last_reservation, next_counter, LAST_COUNTER}
use Rattle.ota_core.specs.Questions.{state_of}
use Rattle.ota_core.specs.declared.entries.Entry.{Entry}
use Rattle.ota_core.specs.declared.jobs.Job.{Job}
use Rattle.ota_core.specs.declared.questions.KeysetState.{KeysetState}
use Rattle.ota_core.specs.declared.questions.KeysetState.TheVariants as state
use Rattle.site_model.specs.Port.{PortState}
use Rattle.site_model.specs.declared.departures.Departure.{Departure}
use Rattle.world_core.specs.declared.lines.Line.{Line}
use Rattle.lane_engine.specs.Adding.{AddingAnswer, AnswerCause, IsAddition, IsAddingRun, IsNoFault, LaneCause, adding_events, batch_left}
use Rattle.lane_engine.specs.Departing.{AreHandedOver, IsResent, IsSending, IsUnasked, ResendAnswer, ResendingEvents, SendingEvents}
use Rattle.lane_engine.specs.LaneValue.{LaneValue, IsLane, IsSameLane}
use Rattle.lane_engine.specs.Reserving.{counter_refusal, job_refusal, jobs_refusal, resend_refusal, reserve_of, state_refusal, taken_refusal}
use Rattle.lane_engine.specs.declared.answers.LaneErr.{LaneErr}
use Rattle.lane_engine.specs.declared.answers.LaneErr.TheVariants as lane_err
use Rattle.lane_engine.proofs.KeysetLemmas.{refused_run}

-- a refusal by the history
abbrev pub IsRefusal : LaneErr → Type 0
IsRefusal lane_err.Memory = ⊥
IsRefusal lane_err.Stale = ⊥
IsRefusal (lane_err.SiteFault fault) = ⊥
IsRefusal (lane_err.Full length need) = ⊥
IsRefusal lane_err.Closed = Unit {0}
IsRefusal lane_err.Exhausted = Unit {0}
IsRefusal lane_err.UnknownKeyset = Unit {0}
IsRefusal (lane_err.AlreadyReserved counter) = Unit {0}
IsRefusal lane_err.NotReserved = Unit {0}

abbrev IsRefusalIf : Option LaneErr → Type 0
IsRefusalIf None = Unit {0}
IsRefusalIf (Some error) = IsRefusal error

or_refuses : (first second : Option LaneErr) → IsRefusalIf first → IsRefusalIf second → IsRefusalIf (option_or first second)
or_refuses None second a b = b
or_refuses (Some error) second a b = a

state_refuses : (s : KeysetState) → IsRefusalIf (state_refusal s)
state_refuses state.New = tt
state_refuses state.Open = tt
state_refuses state.Closed = tt

taken_refuses : (past : List Entry) (last : Option Reservation) → IsRefusalIf (taken_refusal past last)
taken_refuses past None = tt
taken_refuses past (Some last) = by_test (list_any (is_refusal_of last) past) refl
  where
    by_test : (t : Bool) → list_any (is_refusal_of last) past ≡ t → IsRefusalIf (taken_refusal past (Some last))
    by_test true is = rw is tt
    by_test false is = rw is tt

counter_refuses : (next : ℕ) → IsRefusalIf (counter_refusal next)
counter_refuses next = by_test (nat_le next LAST_COUNTER) refl
  where
    by_test : (t : Bool) → nat_le next LAST_COUNTER ≡ t → IsRefusalIf (counter_refusal next)
    by_test true is = rw is tt
    by_test false is = rw is tt

job_refuses : (past : List Entry) (job : Job) → IsRefusalIf (job_refusal past job)
job_refuses past job =
    or_refuses (state_refusal (state_of job.keyset past)) (option_or (taken_refusal past (last_reservation job.id past)) (counter_refusal (next_counter job.keyset past)))
    (state_refuses (state_of job.keyset past))
    (or_refuses (taken_refusal past (last_reservation job.id past)) (counter_refusal (next_counter job.keyset past)) (taken_refuses past (last_reservation job.id past)) (counter_refuses (next_counter job.keyset past)))

jobs_refuse : (by moment : ℕ) (name : List ℕ) (past : List Entry) (jobs : List Job) → IsRefusalIf (jobs_refusal by moment name past jobs)
jobs_refuse by moment name past [] = tt
jobs_refuse by moment name past (job ∷ jobs) =
    or_refuses (job_refusal past job) (jobs_refusal by moment name (reserve_of by moment name past job ∷ past) jobs) (job_refuses past job)
    (jobs_refuse by moment name (reserve_of by moment name past job ∷ past) jobs)

pub jobs_refused : (by moment : ℕ) (name : List ℕ) (past : List Entry) (jobs : List Job) (error : LaneErr) → jobs_refusal by moment name past jobs ≡ Some error → IsRefusal error
jobs_refused by moment name past jobs error is = subst IsRefusalIf is (jobs_refuse by moment name past jobs)

resend_refuses : (past : List Entry) (place : Reservation) → IsRefusalIf (resend_refusal past place)
resend_refuses past place =
    or_refuses (state_refusal (state_of place.keyset past)) _ (state_refuses (state_of place.keyset past))
    (by_tests (list_any (is_reserve_of place) past) (list_any (is_settlement_of place) past) refl refl)
  where
    by_tests : (t s : Bool) → list_any (is_reserve_of place) past ≡ t → list_any (is_settlement_of place) past ≡ s
        → IsRefusalIf (if not (list_any (is_reserve_of place) past) then Some lane_err.NotReserved else (if list_any (is_settlement_of place) past then Some lane_err.NotReserved else None))
    by_tests false s is settled = rw is tt
    by_tests true true is settled = rw (is, settled) tt
    by_tests true false is settled = rw (is, settled) tt

pub resend_refused : (past : List Entry) (place : Reservation) (error : LaneErr) → resend_refusal past place ≡ Some error → IsRefusal error
resend_refused past place error is = subst IsRefusalIf is (resend_refuses past place)

-- ---- what a call leaves that does nothing

-- what holds of each answer but a fault of the site
pub no_fault : (P : LaneErr → Type 0) → P lane_err.Memory → P lane_err.Stale → ((long need : ℕ) → P (lane_err.Full long need)) → P lane_err.Closed → P lane_err.Exhausted → P lane_err.UnknownKeyset
    → ((counter : ℕ) → P (lane_err.AlreadyReserved counter)) → P lane_err.NotReserved → (error : LaneErr) → IsNoFault error → P error
no_fault P memory stale full closed exhausted unknown taken unreserved lane_err.Memory is = memory
no_fault P memory stale full closed exhausted unknown taken unreserved lane_err.Stale is = stale
no_fault P memory stale full closed exhausted unknown taken unreserved (lane_err.SiteFault fault) is = absurd is
no_fault P memory stale full closed exhausted unknown taken unreserved (lane_err.Full long need) is = full long need
no_fault P memory stale full closed exhausted unknown taken unreserved lane_err.Closed is = closed
no_fault P memory stale full closed exhausted unknown taken unreserved lane_err.Exhausted is = exhausted
no_fault P memory stale full closed exhausted unknown taken unreserved lane_err.UnknownKeyset is = unknown
no_fault P memory stale full closed exhausted unknown taken unreserved (lane_err.AlreadyReserved counter) is = taken counter
no_fault P memory stale full closed exhausted unknown taken unreserved lane_err.NotReserved is = unreserved

-- and of each refusal by the history
refusal : (P : LaneErr → Type 0) → P lane_err.Closed → P lane_err.Exhausted → P lane_err.UnknownKeyset → ((counter : ℕ) → P (lane_err.AlreadyReserved counter)) → P lane_err.NotReserved
    → (error : LaneErr) → IsRefusal error → P error
refusal P closed exhausted unknown taken unreserved lane_err.Memory is = absurd is
refusal P closed exhausted unknown taken unreserved lane_err.Stale is = absurd is
refusal P closed exhausted unknown taken unreserved (lane_err.SiteFault fault) is = absurd is
refusal P closed exhausted unknown taken unreserved (lane_err.Full long need) is = absurd is
refusal P closed exhausted unknown taken unreserved lane_err.Closed is = closed
refusal P closed exhausted unknown taken unreserved lane_err.Exhausted is = exhausted
refusal P closed exhausted unknown taken unreserved lane_err.UnknownKeyset is = unknown
refusal P closed exhausted unknown taken unreserved (lane_err.AlreadyReserved counter) is = taken counter
refusal P closed exhausted unknown taken unreserved lane_err.NotReserved is = unreserved

pub refuses_no_fault : (error : LaneErr) → IsRefusal error → IsNoFault error
refuses_no_fault error is = refusal (λ e. IsNoFault e) tt tt tt (λ counter. tt) tt error is

pub refused_answer : {D : Type 0} (lane : LaneValue D) (named : Option LaneErr) (batch : List Entry) (error : LaneErr) → IsRefusal error → lane.is_stale ≡ false → named ≡ Some error
    → AddingAnswer lane named batch (Err error)
refused_answer lane named batch error is live refused =
    refusal (λ e. named ≡ Some e → AddingAnswer lane named batch (Err e)) (λ n. (live, n)) (λ n. (live, n)) (λ n. (live, n)) (λ counter n. (live, n)) (λ n. (live, n)) error is refused

pub refused_resend : {D : Type 0} (lane : LaneValue D) (named : Option LaneErr) (error : LaneErr) → IsRefusal error → lane.is_stale ≡ false → named ≡ Some error → ResendAnswer lane named (Err error)
refused_resend lane named error is live refused =
    refusal (λ e. named ≡ Some e → ResendAnswer lane named (Err e)) (λ n. (live, n)) (λ n. (live, n)) (λ n. (live, n)) (λ counter n. (live, n)) (λ n. (live, n)) error is refused

pub same_lane : {D : Type 0} (lane : LaneValue D) → IsSameLane lane lane
same_lane lane = record {
  site = refl;
  entries = refl;
  length = refl;
  is_stale = refl;
  lost = refl;
  rest = record { element = refl; pieces = refl; lane = refl; lanes = refl; settings = record { moment = refl; name = refl; end = refl; opened = refl } };
}

pub none_added : {D : Type 0} (lane : LaneValue D) (batch : List Entry) (error : LaneErr) → IsNoFault error → IsAddition lane lane batch (Err error)
none_added lane batch error is =
    (let same = same_lane lane in no_fault (λ e. IsAddition lane lane batch (Err e)) same same (λ long need. same) same same same (λ counter. same) same error is)

pub none_sending : {D : Type 0} (lane : LaneValue D) (batch : List Entry) (error : LaneErr) → IsNoFault error → IsSending lane lane batch (Err error)
none_sending lane batch error is =
    (let same = same_lane lane in no_fault (λ e. IsSending lane lane batch (Err e)) same same (λ long need. same) same same same (λ counter. same) same error is)

pub none_resent : {D : Type 0} (lane : LaneValue D) (error : LaneErr) → IsNoFault error → IsResent lane lane (Err error)
none_resent lane error is = no_fault (λ e. IsResent lane lane (Err e)) refl refl (λ long need. refl) refl refl refl (λ counter. refl) refl error is

-- where nothing was sent, none or the first none of the pieces were
pub none_handed : (departures : List Departure) (before now : PortState) (error : LaneErr) → now.sent ≡ before.sent → AreHandedOver departures before now (Err error)
none_handed departures before now (lane_err.SiteFault fault) is = (0, omega arith, is ∙ sym (append-nil before.sent))
none_handed departures before now lane_err.Memory is = is
none_handed departures before now lane_err.Stale is = is
none_handed departures before now (lane_err.Full long need) is = is
none_handed departures before now lane_err.Closed is = is
none_handed departures before now lane_err.Exhausted is = is
none_handed departures before now lane_err.UnknownKeyset is = is
none_handed departures before now (lane_err.AlreadyReserved counter) is = is
none_handed departures before now lane_err.NotReserved is = is

pub none_asked : (before now : PortState) → now ≡ before → IsUnasked before now
none_asked before now is = record { given = ap (λ (p : PortState). p.given) is; polls = ap (λ (p : PortState). p.polls) is }

pub no_events : (batch : List Entry) (error : LaneErr) → IsNoFault error → (adding_events batch (Err error) ≡ []) × (batch_left batch (Err error) ≡ None)
no_events [] error is =
    no_fault (λ e. (adding_events [] (Err e) ≡ []) × (batch_left [] (Err e) ≡ None)) (refl, refl) (refl, refl) (λ long need. (refl, refl)) (refl, refl) (refl, refl) (refl, refl) (λ counter. (refl, refl)) (refl, refl) error is
no_events (entry ∷ batch) error is =
    no_fault (λ e. (adding_events (entry ∷ batch) (Err e) ≡ []) × (batch_left (entry ∷ batch) (Err e) ≡ None)) (refl, refl) (refl, refl) (λ long need. (refl, refl)) (refl, refl) (refl, refl) (refl, refl)
    (λ counter. (refl, refl)) (refl, refl) error is

pub none_cause : (counts : Counts) (error : LaneErr) → IsNoFault error → LaneCause {T = Unit {0}} counts counts (Err error)
none_cause counts error is =
    record {
      faults = omega arith;
      wants = omega arith;
      answer = no_fault (λ e. AnswerCause {T = Unit {0}} counts counts (Err e)) (refl, refl) (refl, refl) (λ long need. (refl, refl)) (refl, refl) (refl, refl) (refl, refl) (λ counter. (refl, refl)) (refl, refl) error is;
    }

module _ {D B C : Type 0} (told : Meaning D B C) (counts : D → Counts) (port : B → PortState) (lines : C → ℕ → List Line) (lane : LaneValue D) where
  pub none_run : (batch : List Entry) (error : LaneErr) → IsNoFault error → IsLane told lane → Tells told lane.site → IsAddingRun told port lines lane lane batch (Err error)
  none_run batch error is of tells = (let none = no_events batch error is in refused_run told port lines lane batch (Err error) of tells none.0 none.1)

  pub none_sending_events : (batch : List Entry) (error : LaneErr) → IsNoFault error → SendingEvents told port lines lane lane batch (Err error)
  none_sending_events batch error is =
      (let same = same_lane lane in no_fault (λ e. SendingEvents told port lines lane lane batch (Err e)) same same (λ long need. same) same same same (λ counter. same) same error is)

  pub none_resending_events : (place : Reservation) (error : LaneErr) → IsNoFault error → ResendingEvents told port lines lane lane place (Err error)
  none_resending_events place error is = no_fault (λ e. ResendingEvents told port lines lane lane place (Err e)) refl refl (λ long need. refl) refl refl refl (λ counter. refl) refl error is
