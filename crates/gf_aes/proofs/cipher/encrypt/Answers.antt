use Rattle.std.proofs.Common.{◌≡◌, ◌+◌, ◌-◌, ◌*◌, refl, ap, ◌∙◌, arith}
use Rattle.std.specs.Prelude.{slice_index}
use Rattle.gf_aes.specs.Cipher.{add_round_key, block_of, mix_columns, rounds, shift_rows, sub_bytes}
use Rattle.gf_aes.proofs.Rounds.{block_of-add, rounds_more, cipher_end}
use Rattle.gf_aes.proofs.cipher.encrypt.Goals as goal

pub loop-turn-init : goal.loop-turn-init
unfolding rounds
loop-turn-init c =
    let w = c.args.words.now in
    let s = block_of c.args.block.now in
    rounds_more w s _ _ 0 1 refl (block_of-add w 0 (slice_index c.args.block.now 0) (slice_index c.args.block.now 1) (slice_index c.args.block.now 2) (slice_index c.args.block.now 3)) c.round.ensures

pub loop-turn-preserved : goal.loop-turn-preserved
loop-turn-preserved c =
    let w = c.args.words.now in
    let s = block_of c.args.block.now in
    let r = c.loop-turn.turn in
    let first = rounds_more w s _ _ (2 * r + 1) (2 * r + 2) (omega arith) c.loop-turn.invariant c.round-in-loop-turn.ensures in
    rounds_more w s _ _ (2 * r + 2) (2 * (r + 1) + 1) (omega arith) first (c.round-in-loop-turn-2.ensures ∙ ap (λ n. add_round_key w (mix_columns (shift_rows (sub_bytes (block_of c.round-in-loop-turn.new.block)))) n) (omega arith))

pub returns : goal.returns
returns c =
    let w = c.args.words.now in
    let s = block_of c.args.block.now in
    let done : 2 * c.loop-turn.turn + 1 ≡ c.args.rounds - 1 = omega arith in
    cipher_end w s _ _ c.args.rounds (c.loop-turn.invariant ∙ ap (λ n. rounds w s n) done) c.last_round.ensures
