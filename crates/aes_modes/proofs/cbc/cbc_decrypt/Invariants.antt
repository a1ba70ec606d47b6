use Rattle.aes_modes.proofs.Chains.{IsDecryptedTo}
use Rattle.aes_modes.proofs.cbc.cbc_decrypt.Given as goal

abbrev pub invariant-loop-i : goal.invariant-loop-i
invariant-loop-i l = IsDecryptedTo l.key l.fn.octets l.before l.octets l.i
