use Rattle.std.proofs.Common.{◌≡◌, ◌+◌, ◌*◌}
use Rattle.gf_aes.specs.Cipher.{block_of, rounds}
use Rattle.gf_aes.proofs.cipher.encrypt.Given as goal

abbrev pub invariant-loop-turn : goal.invariant-loop-turn
invariant-loop-turn l = block_of l.block ≡ rounds l.words (block_of l.fn.block) (2 * l.turn + 1)
