use Rattle.std.proofs.Common.{◌∙◌, sym, ap}
use Rattle.std.specs.Prelude.{bit_xor}
use Rattle.gf_aes.specs.Cipher.{sub_word}
use Rattle.gf_aes.proofs.Expansion.{key_step-first, key_step-middle, key_step-other, key_step-short, round_constant-of}
use Rattle.gf_aes.proofs.key_schedule.key_step.Goals as goal
use Rattle.gf_aes.proofs.key_schedule.key_step.Goals.{else-key_len-gt6-via-then-key_len-gt6+else-i-key_len-eq4, else-key_len-gt6-via-else-key_len-gt6}

pub returns-then-i-key_len-eq0 : goal.returns-then-i-key_len-eq0
returns-then-i-key_len-eq0 c =
    let word = c.word.ensures ∙ round_constant-of c.args.key_len c.args.i c.requires.some c.requires.later c.requires.within in
    (λ i. bit_xor ((c.sub_word.ensures ∙ ap sub_word c.rot_word.ensures) i) (word i))
    ∙ sym (key_step-first c.args.key_len c.args.i c.args.before c.if-i-key_len-eq0.true)

pub returns-then-i-key_len-eq4 : goal.returns-then-i-key_len-eq4
returns-then-i-key_len-eq4 c =
    c.sub_word-then-i-key_len-eq4.ensures
    ∙ sym (key_step-middle c.args.key_len c.args.i c.args.before c.if-i-key_len-eq4.true c.if-key_len-gt6.true)

pub returns-else-key_len-gt6 : goal.returns-else-key_len-gt6
returns-else-key_len-gt6 c = elim c.else-key_len-gt6.branch [
  | else-key_len-gt6-via-then-key_len-gt6+else-i-key_len-eq4 w ↦
      sym (key_step-other c.args.key_len c.args.i c.args.before c.if-i-key_len-eq0.false w.if-key_len-gt6.true w.if-i-key_len-eq4.false)
  | else-key_len-gt6-via-else-key_len-gt6 w ↦
      sym (key_step-short c.args.key_len c.args.i c.args.before c.if-i-key_len-eq0.false w.if-key_len-gt6.false)
]
