use Rattle.std.proofs.Common.{arith}
use Rattle.expanded_scripts.proofs.Forms.{whole-long, whole-short}
use Rattle.expanded_scripts.proofs.running.run_alone.Goals as goal

pub run_one-requires-clause-within : goal.run_one-requires-clause-within
run_one-requires-clause-within c = omega (arith, whole-long c.args.command.now c.requires)

pub run_one-requires-clause-fits : goal.run_one-requires-clause-fits
run_one-requires-clause-fits c = omega (arith, whole-short c.args.command.now c.requires (omega (arith, c.type_inv.command 4)))
