use Rattle.std.proofs.Common.{◌≡◌, [], ◌∷◌}
use Rattle.gf_aes.specs.Cipher.{block_of, inverse_rounds}
use Rattle.gf_aes.proofs.cipher.decrypt.Given as goal

abbrev pub invariant-loop-r : goal.invariant-loop-r
invariant-loop-r l = block_of (l.a ∷ l.b ∷ l.c ∷ l.d ∷ []) ≡ inverse_rounds l.words l.rounds (block_of l.fn.block) l.r
