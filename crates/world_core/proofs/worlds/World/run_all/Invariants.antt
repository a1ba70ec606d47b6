use Rattle.std.proofs.Common.{take}
use Rattle.world_core.specs.Run.{Runs}
use Rattle.world_core.proofs.worlds.World.run_all.Given as goal

abbrev pub invariant-loop-position : goal.invariant-loop-position
invariant-loop-position l = Runs l.initial.self (take l.position l.events) l.self
