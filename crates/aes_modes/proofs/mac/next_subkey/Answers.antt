use Rattle.std.proofs.Common.{◌∙◌}
use Rattle.aes_modes.proofs.Codes.{next_subkey-high, next_subkey-low}
use Rattle.aes_modes.proofs.mac.next_subkey.Goals as goal

pub returns-then-block-ge128 : goal.returns-then-block-ge128
returns-then-block-ge128 c = rw c.shifted_left-subkey.ensures (next_subkey-high c.args.block.now c.if-block-ge128.true)

pub returns-else-block-ge128 : goal.returns-else-block-ge128
returns-else-block-ge128 c = c.shifted_left-subkey.ensures ∙ next_subkey-low c.args.block.now c.if-block-ge128.false
