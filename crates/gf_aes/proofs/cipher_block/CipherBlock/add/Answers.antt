use Rattle.std.proofs.Common.{◌∙◌}
use Rattle.std.specs.Prelude.{slice_index}
use Rattle.gf_aes.specs.Cipher.{xor_lists}
use Rattle.gf_aes.proofs.Words.{halves-xor}
use Rattle.gf_aes.proofs.cipher_block.CipherBlock.add.Goals as goal

pub returns : goal.returns
returns c =
    let a = c.self.inside.halves in
    let b = c.other.inside.halves in
    halves-xor (slice_index a 0) (slice_index a 1) (slice_index b 0) (slice_index b 1)
    ∙ (λ i. xor_lists (c.self.view_is i) (c.other.view_is i))
