use Rattle.aes_modes.proofs.Chains.{cbc_plain_of-cbc_of, length-cbc_of}
use Rattle.aes_modes.proofs.laws.cbc_is_undone.Goals as goal

pub returns-clause-len : goal.returns-clause-len
returns-clause-len c = length-cbc_of

pub returns-clause-undone : goal.returns-clause-undone
returns-clause-undone c = cbc_plain_of-cbc_of
