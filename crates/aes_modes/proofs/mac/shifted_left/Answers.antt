use Rattle.aes_modes.proofs.Codes.{shifted_left-all, shifted_left-more}
use Rattle.std.proofs.Common.{◌∙◌, arith}
use Rattle.std.proofs.lemmas.List.{length-set}
use Rattle.aes_modes.proofs.mac.shifted_left.Goals as goal

pub loop-i-preserved : goal.loop-i-preserved
loop-i-preserved c = (
  length-set c.loop-i.shifted c.loop-i.i _ ∙ c.loop-i.invariant.0,
  shifted_left-more c.args.block.now c.loop-i.shifted c.loop-i.i (omega arith) c.loop-i.invariant.1,
)

pub returns : goal.returns
returns c = shifted_left-all c.args.block.now c.loop-i.shifted c.loop-i.i c.told-block c.loop-i.invariant.0 (omega arith) c.loop-i.invariant.1
