use Rattle.disk_model.proofs.MemRuns.{cut_run}
use Rattle.disk_model.proofs.mem_disk.MemDiskDiskCalls.cut.Goals as goal

pub returns-clause-moments : goal.returns-clause-moments
returns-clause-moments c = cut_run c.args.self.now c.step.new.self _ _ c.args.len c.step.ensures.step
