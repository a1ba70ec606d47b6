use Rattle.std.proofs.Common.{◌-◌}
use Rattle.gate_log.proofs.Windowed.{IsTaking}
use Rattle.gate_log.proofs.windows.Windows.take.Given as goal

abbrev pub invariant-loop-wanted : goal.invariant-loop-wanted
invariant-loop-wanted g l = IsTaking g.D.DiskCalls.told g.D.DiskCalls.counts l.fn.disk l.disk l.fn.into.items l.into.items l.fn.count l.wanted l.fn.self l.self

abbrev pub decreases-loop-wanted : goal.decreases-loop-wanted
decreases-loop-wanted g l = l.self.long - l.self.read
