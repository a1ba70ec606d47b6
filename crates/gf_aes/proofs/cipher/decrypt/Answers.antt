use Rattle.std.proofs.Common.{◌≡◌, ℕ, ◌+◌, ◌-◌, ◌*◌, ap, ◌∙◌, refl, arith}
use Rattle.std.specs.Prelude.{slice_index}
use Rattle.gf_aes.specs.Cipher.{block_of, inverse_rounds}
use Rattle.gf_aes.proofs.Rounds.{block_of-add, inverse_rounds_more, inverse_cipher_end}
use Rattle.gf_aes.proofs.cipher.decrypt.Goals as goal

pub loop-r-init : goal.loop-r-init
unfolding inverse_rounds
loop-r-init c = block_of-add c.args.words.now c.args.rounds (slice_index c.args.block.now 0) (slice_index c.args.block.now 1) (slice_index c.args.block.now 2) (slice_index c.args.block.now 3)

pub loop-r-preserved : goal.loop-r-preserved
loop-r-preserved c =
    let n = c.args.rounds in
    let k : ℕ = 4 * (n - (c.loop-r.r + 1)) in
    inverse_rounds_more c.args.words.now c.args.mixed.now _ n c.loop-r.r k c.loop-r.a c.loop-r.b c.loop-r.c c.loop-r.d _ _ _ _ c.loop-r.invariant refl (λ i low high. c.requires.mixed i (omega arith) (omega arith)) c.inverse_round_word-next_a.ensures c.inverse_round_word-next_b.ensures c.inverse_round_word-next_c.ensures c.inverse_round_word-next_d.ensures

pub returns : goal.returns
returns c =
    let w = c.args.words.now in
    let done : c.loop-r.r ≡ c.args.rounds - 1 = omega arith in
    inverse_cipher_end w (block_of c.args.block.now) c.args.rounds c.loop-r.a c.loop-r.b c.loop-r.c c.loop-r.d _ _ _ _ (c.loop-r.invariant ∙ ap (λ n. inverse_rounds w c.args.rounds (block_of c.args.block.now) n) done) c.inverse_last_word.ensures c.inverse_last_word-2.ensures c.inverse_last_word-3.ensures c.inverse_last_word-4.ensures
