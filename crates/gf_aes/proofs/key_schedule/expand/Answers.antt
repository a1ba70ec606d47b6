use Rattle.std.proofs.Common.{refl, arith}
use Rattle.gf_aes.specs.Cipher.{first_words}
use Rattle.gf_aes.proofs.Expansion.{first_words-more, key_words-all}
use Rattle.gf_aes.proofs.key_schedule.expand.Goals as goal

pub loop-i-init : goal.loop-i-init
unfolding first_words
loop-i-init c = refl

pub loop-i-preserved : goal.loop-i-preserved
loop-i-preserved c =
    first_words-more c.args.key.now c.loop-i.words c.loop-i.i c.next_word.result (omega arith) c.loop-i.invariant c.next_word.ensures

pub returns : goal.returns
returns c = key_words-all c.args.key.now c.loop-i.words c.loop-i.i (omega arith) c.loop-i.invariant
