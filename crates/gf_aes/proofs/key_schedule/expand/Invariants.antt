use Rattle.std.proofs.Common.{◌≡◌, take}
use Rattle.gf_aes.specs.Cipher.{first_words}
use Rattle.gf_aes.proofs.key_schedule.expand.Given as goal

-- the words so far are the first of the expansion
abbrev pub invariant-loop-i : goal.invariant-loop-i
invariant-loop-i l = take l.i l.words ≡ first_words l.key l.i
