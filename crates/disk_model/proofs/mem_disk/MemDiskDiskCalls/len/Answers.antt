use Rattle.disk_model.proofs.MemRuns.{quiet_run}
use Rattle.disk_model.proofs.mem_disk.MemDiskDiskCalls.len.Goals as goal

pub returns-in_err-step-clause-moments : goal.returns-in_err-step-clause-moments
returns-in_err-step-clause-moments c = quiet_run c.args.self.now c.step.new.self _ _ c.step.ensures.step

pub returns-clause-moments : goal.returns-clause-moments
returns-clause-moments c = quiet_run c.args.self.now c.step.new.self _ _ c.step.ensures.step
