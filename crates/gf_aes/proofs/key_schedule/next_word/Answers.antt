use Rattle.std.proofs.Common.{◌∙◌, ◌-◌, ◌/◌, sym, ap, length, arith}
use Rattle.std.specs.Prelude.{bit_xor, slice_index}
use Rattle.gf_aes.proofs.Expansion.{next_word-later, next_word-own}
use Rattle.gf_aes.proofs.key_schedule.next_word.Goals as goal

pub returns-then-i-key_len : goal.returns-then-i-key_len
returns-then-i-key_len c =
    c.word.ensures ∙ sym (next_word-own c.args.key.now _ c.args.i c.if-i-key_len.true)

pub returns-else-i-key_len : goal.returns-else-i-key_len
returns-else-i-key_len c =
    ap (λ x. bit_xor (slice_index c.args.words.now (c.args.i - length c.args.key.now / 4)) x) c.key_step.ensures
    ∙ sym (next_word-later c.args.key.now c.args.words.now c.args.i (omega arith) c.if-i-key_len.false)
