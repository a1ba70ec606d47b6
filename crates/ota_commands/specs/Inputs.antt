-- What the inputs of a command say.
use Rattle.std.specs.Prelude.{◌≡◌, ℕ, ◌<◌, ◌^◌, nat_le, Bool, IsTrue, if◌then◌else◌, Option, Some, None, IfSome, Result, Ok, Err, List, length, All}
use Rattle.ota_io.specs.Calls.{HasRisen}
use Rattle.ota_io.specs.Octets.{text_limit, TakesAtMost}
use Rattle.ota_core.specs.declared.jobs.Job.{Job}
use Rattle.plan_reader.specs.Jobs.{are_distinct}
use Rattle.plan_reader.specs.PlanTable.{plan_of}
use Rattle.plan_reader.specs.JobRows.{jobs_of}
use Rattle.plan_reader.specs.declared.plans.Plan.{Plan}
use Rattle.lane_session.specs.Lanes.{HasScript}
use Rattle.ota_commands.specs.declared.faults.Which.{Which}
use Rattle.ota_commands.specs.declared.faults.Which.TheVariants as which
use Rattle.ota_commands.specs.declared.faults.Fault.{Fault}
use Rattle.ota_commands.specs.declared.faults.Fault.TheVariants as fault

-- an input as a call was handed it: its octets, where it tells them, and its count of faults before and after the call
pub record Input : Type 0 where
  pub octets : Option (List ℕ)
  pub before : ℕ
  pub now : ℕ

-- by whether it tells, its octets, and the two counts
abbrev pub input_of : Bool → List ℕ → ℕ → ℕ → Input
input_of tells octets before now = record { octets = if tells then Some octets else None; before = before; now = now }

-- a source as an input
abbrev pub source_input : {S : Type 0} → (S → Bool) → (S → List ℕ) → (S → ℕ) → S → S → Input
source_input tells left faults old new = input_of (tells old) (left old) (faults old) (faults new)

-- from a source that tells, at most one octet more than the greatest length of an input was taken
abbrev pub IsReadWithin : {S : Type 0} → (S → Bool) → (S → List ℕ) → S → S → Type 0
IsReadWithin tells left old new = IsTrue (tells old) → TakesAtMost 8388609 (left old) (left new)

-- the text of an input, or that it is too long
abbrev pub text_reading : Which → List ℕ → Result (List ℕ) Fault
text_reading of octets = if nat_le (length octets) text_limit then Ok octets else Err (fault.InputTooLong of)

-- what a reading says, or the fault of the command by its own
abbrev pub or_fault : {T F : Type 0} → (F → Fault) → Result T F → Result T Fault
or_fault refusal (Ok value) = Ok value
or_fault refusal (Err refused) = Err (refusal refused)

-- the plan that an input says, or the fault
abbrev pub plan_reading : List ℕ → Result Plan Fault
plan_reading octets =
    if nat_le (length octets) text_limit then or_fault (λ refused. fault.PlanRefused refused.0 refused.1 refused.2) (plan_of octets)
    else Err (fault.InputTooLong which.Plan)

-- the jobs that an input lists, or the fault
abbrev pub jobs_reading : Plan → List ℕ → Result (List Job) Fault
jobs_reading plan octets =
    if nat_le (length octets) text_limit then or_fault (λ refused. fault.JobsRefused refused.0 refused.1) (jobs_of plan octets)
    else Err (fault.InputTooLong which.Jobs)

-- the value is what the input says
abbrev pub Says : {T : Type 0} → (List ℕ → Result T Fault) → Input → T → Type 0
Says reading input value = IfSome input.octets (λ octets. reading octets ≡ Ok value)

-- when a fault comes while an input is read that has this reading: want of memory at any time, a fault of the source
-- only where its count rose, and a refusal only as the reading says
abbrev pub ReadFaultComes : {T : Type 0} → Which → (List ℕ → Result T Fault) → Input → Fault → Type 0
ReadFaultComes of reading input fault.Memory = Unit {0}
ReadFaultComes of reading input (fault.SourceFault source) = (source ≡ of) × HasRisen input.before input.now
ReadFaultComes of reading input (fault.InputTooLong source) = (source ≡ of) × IfSome input.octets (λ octets. reading octets ≡ Err (fault.InputTooLong source))
ReadFaultComes of reading input (fault.PlanRefused table row field) = (which.Plan ≡ of) × IfSome input.octets (λ octets. reading octets ≡ Err (fault.PlanRefused table row field))
ReadFaultComes of reading input (fault.JobsRefused row column) = (which.Jobs ≡ of) × IfSome input.octets (λ octets. reading octets ≡ Err (fault.JobsRefused row column))
ReadFaultComes of reading input _ = ⊥

-- the rows that a list of jobs gives: scripts of 1 to 4,096 octets, no job twice, and so few that their numbers fit 32 bits
pub record AreRows (jobs : List Job) : Type 0 where
  pub scripts : All HasScript jobs
  pub distinct : IsTrue (are_distinct jobs)
  pub few : length jobs < 2 ^ 32
