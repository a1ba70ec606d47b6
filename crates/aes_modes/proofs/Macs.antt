-- A CMAC is a block.
use Rattle.std.proofs.Common.{ℕ, List}
use Rattle.std.proofs.Common.{◌*◌, drop}
use Rattle.gf_aes.specs.Cipher.{IsBlock, xor_lists}
use Rattle.gf_aes.proofs.Blocks.{always-block}
use Rattle.aes_modes.specs.Modes.{blocks_before, chained, cmac_of, last_block}

pub cmac-block : (key m : List ℕ) → IsBlock (cmac_of key m)
unfolding cmac_of
cmac-block key m = always-block key (xor_lists (chained key m (blocks_before m)) (last_block key (drop (16 * blocks_before m) m)))
