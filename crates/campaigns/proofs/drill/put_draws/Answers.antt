use Rattle.std.proofs.Common.{◌+◌, ap, sym, ◌∙◌, arith, append_assoc, string_bytes, ◌∷◌, []}
use Rattle.std.proofs.lemmas.List.{append-nil}
use Rattle.hex.specs.Hex.{encode_lower}
use Rattle.campaigns.specs.Drill.{state_at, next_state, draw, draws}
use Rattle.campaigns.proofs.DrillLemmas.{draws_none, draws_more, draw_is, state_next}
use Rattle.campaigns.proofs.drill.put_draws.Goals as goal

pub loop-drawn-init : goal.loop-drawn-init
loop-drawn-init c = λ number before is.
    (rw (draws_none number before) (sym (append-nil (string_bytes c.args.text.now))), is ∙ ap (state_at number) (omega arith))

pub loop-drawn-preserved : goal.loop-drawn-preserved
loop-drawn-preserved c = λ number before is.
    let so_far = c.loop-drawn.invariant number before is in
    let drawn = c.draw.ensures.state ∙ ap next_state so_far.1 ∙ sym (state_next number (before + c.loop-drawn.drawn)) in (
      c.in_ok-put_hex.ensures
          ∙ rw (so_far.0, draw_is number (before + c.loop-drawn.drawn) c.draw.result c.draw.new.state c.draw.ensures.octet drawn, draws_more number before c.loop-drawn.drawn)
          (append_assoc (string_bytes c.args.text.now) (encode_lower (draws number before c.loop-drawn.drawn)) (encode_lower (draw number (before + c.loop-drawn.drawn) ∷ []))),
      drawn ∙ ap (state_at number) (omega arith),
    )
