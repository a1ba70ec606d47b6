use Rattle.std.proofs.Common.{arith}
use Rattle.world_core.proofs.RunLemmas.{runs_more}
use Rattle.world_core.proofs.worlds.World.run_all.Goals as goal

pub loop-position-preserved : goal.loop-position-preserved
loop-position-preserved c =
    runs_more c.args.self.now c.loop-position.self c.step.new.self c.args.events.now c.loop-position.position c.index-events-position.result (omega arith)
    c.index-events-position.is c.loop-position.invariant c.in_default.ensures.allowed c.in_default.ensures.effect
