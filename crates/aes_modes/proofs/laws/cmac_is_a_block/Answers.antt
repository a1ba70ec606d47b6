use Rattle.aes_modes.proofs.Macs.{cmac-block}
use Rattle.aes_modes.proofs.laws.cmac_is_a_block.Goals as goal

pub returns : goal.returns
returns c = cmac-block
