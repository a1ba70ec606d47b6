use Rattle.aes_modes.proofs.Chains.{IsEncryptedTo}
use Rattle.aes_modes.proofs.cbc.cbc_encrypt.Given as goal

abbrev pub invariant-loop-i : goal.invariant-loop-i
invariant-loop-i l = IsEncryptedTo l.key l.fn.octets l.chain l.octets l.i
