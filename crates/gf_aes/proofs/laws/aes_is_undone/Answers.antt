use Rattle.gf_aes.proofs.Blocks.{always-block}
use Rattle.gf_aes.proofs.Inverse.{aes_decrypts-aes_encrypts}
use Rattle.gf_aes.proofs.laws.aes_is_undone.Goals as goal

pub returns-clause-blocks : goal.returns-clause-blocks
returns-clause-blocks c = always-block

pub returns-clause-undone : goal.returns-clause-undone
returns-clause-undone c = aes_decrypts-aes_encrypts
