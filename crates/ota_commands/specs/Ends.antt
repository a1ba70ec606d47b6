-- The faults by which lanes are refused and stop.
use Rattle.std.specs.Prelude.{◌≡◌, ℕ, ◌<◌, Option, Some, None, option_map, List, [], ◌∷◌, length, slice_index, slice_index_or}
use Rattle.std.specs.Option.{option_or}
use Rattle.std.specs.Int.{w16, from_be_bytes}
use Rattle.disk_model.specs.declared.faults.DiskFault.TheVariants as disk_fault
use Rattle.gate_log.specs.declared.log_errors.LogErr.{LogErr}
use Rattle.gate_log.specs.declared.log_errors.LogErr.TheVariants as log_err
use Rattle.ota_core.specs.declared.entries.Entry.{Entry}
use Rattle.ota_core.specs.declared.jobs.Job.{Job}
use Rattle.plan_reader.specs.declared.plans.Plan.{Plan}
use Rattle.lane_session.specs.Differences.{keyset_difference, job_difference}
use Rattle.lane_session.specs.declared.lanes.Lane.{Lane}
use Rattle.lane_session.specs.declared.opening.OpeningErr.{OpeningErr}
use Rattle.lane_session.specs.declared.opening.OpeningErr.TheVariants as opening_err
use Rattle.ota_commands.specs.declared.faults.Fault.{Fault}
use Rattle.ota_commands.specs.declared.faults.Fault.TheVariants.{JobDiffers, KeysetDiffers, SiteFault, NotAJournal, WrongLane, Damaged, Full, Unformatted, Memory}

-- the number that two octets of a head say
abbrev pub two_at : List ℕ → ℕ → ℕ → ℕ
two_at octets first second = from_be_bytes w16 (slice_index octets first ∷ slice_index octets second ∷ [])

-- the fault of a lane by the error of its journal
abbrev pub fault_of_log : ℕ → LogErr → Fault
fault_of_log lane log_err.Memory = Memory
fault_of_log lane (log_err.DiskFault disk_fault.Failed) = SiteFault lane
fault_of_log lane (log_err.DiskFault disk_fault.Memory) = Memory
fault_of_log lane log_err.Unformatted = Unformatted lane
fault_of_log lane log_err.NotALog = NotAJournal lane
fault_of_log lane (log_err.OtherHead rest) = WrongLane lane (two_at rest 0 1) (two_at rest 2 3)
fault_of_log lane (log_err.Damaged number) = Damaged lane number
fault_of_log lane (log_err.Full len need) = Full lane len need

-- the fault by which the journals weren't all opened or made
abbrev pub fault_of_opening : OpeningErr → Fault
fault_of_opening opening_err.Memory = Memory
fault_of_opening (opening_err.Refused lane error) = fault_of_log lane error

-- the first fault of histories that differ from the plan, or else from the rows
abbrev pub difference : Plan → List Job → List (List Entry) → Option Fault
difference plan jobs histories =
    option_or (option_map KeysetDiffers (keyset_difference plan histories)) (option_map (λ row. JobDiffers row.0 row.1) (job_difference jobs histories))

-- the fault by which a lane stopped
abbrev pub end_of : ℕ → Option LogErr → Option Fault
end_of lane end = option_map (fault_of_log lane) end

-- the ends of the lanes, by their numbers from 0
pub record AreEnds (lanes : List Lane) (ends : List (Option Fault)) : Type 0 where
  pub same : length ends ≡ length lanes
  pub each : (k : ℕ) (lane : Lane) (end : Option Fault) → k < length lanes → slice_index_or ends k end ≡ end_of k (slice_index_or lanes k lane).end

-- the fault of the first lane that stopped
abbrev pub first_end : List (Option Fault) → Option Fault
first_end [] = None
first_end (None ∷ ends) = first_end ends
first_end (Some fault ∷ ends) = Some fault
