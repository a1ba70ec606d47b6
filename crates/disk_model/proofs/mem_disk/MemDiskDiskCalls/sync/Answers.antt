use Rattle.disk_model.proofs.MemRuns.{synced, sync_run}
use Rattle.disk_model.proofs.mem_disk.MemDiskDiskCalls.sync.Goals as goal

pub returns-clause-durable : goal.returns-clause-durable
returns-clause-durable c = synced c.args.self.now c.step.new.self _ _ c.step.ensures.step

pub returns-clause-moments : goal.returns-clause-moments
returns-clause-moments c = sync_run c.args.self.now c.step.new.self _ _ c.step.ensures.step
