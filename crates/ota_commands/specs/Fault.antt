use Rattle.std.specs.Prelude.{ℕ, Option, Some, None}
use Rattle.plan_reader.specs.declared.plans.PlanErr.{PlanErr}
use Rattle.plan_reader.specs.declared.plans.PlanErr.TheVariants as plan_err
use Rattle.plan_reader.specs.declared.job_lists.JobsErr.{JobsErr}
use Rattle.plan_reader.specs.declared.job_lists.JobsErr.TheVariants as jobs_err
use Rattle.ota_commands.specs.declared.faults.Fault.{Fault}
use Rattle.ota_commands.specs.declared.faults.Fault.TheVariants.{Usage, PlanRefused, JobsRefused, InputTooLong, JobDiffers, KeysetDiffers, KeysetClosed, KeysetUnknown, ScriptRefused, SourceFault, SinkFault, SiteFault, NotAJournal, WrongLane, Damaged, Full, Unformatted, Memory}

-- the exit status of a command that ends with the fault
abbrev pub status_of : Fault → ℕ
status_of Usage = 10
status_of (PlanRefused table row field) = 11
status_of (JobsRefused row column) = 12
status_of (InputTooLong which) = 13
status_of (JobDiffers row counter) = 14
status_of (KeysetDiffers keyset) = 15
status_of (KeysetClosed keyset) = 16
status_of (KeysetUnknown keyset) = 17
status_of (ScriptRefused error) = 18
status_of (SourceFault which) = 20
status_of SinkFault = 21
status_of (SiteFault lane) = 22
status_of (NotAJournal lane) = 23
status_of (WrongLane place lane lanes) = 23
status_of (Damaged lane number) = 23
status_of (Full lane len need) = 24
status_of (Unformatted lane) = 25
status_of Memory = 30

-- the exit status of a command
abbrev pub status_of_end : Option Fault → ℕ
status_of_end None = 0
status_of_end (Some fault) = status_of fault

-- the fault of a command by that of its plan
abbrev pub fault_of_plan : PlanErr → Fault
fault_of_plan (plan_err.Refused table row field) = PlanRefused table row field
fault_of_plan plan_err.Memory = Memory

-- the fault of a command by that of its jobs
abbrev pub fault_of_jobs : JobsErr → Fault
fault_of_jobs (jobs_err.Refused row column) = JobsRefused row column
fault_of_jobs jobs_err.Memory = Memory
