use Rattle.std.proofs.Common.{◌+◌, ◌*◌, ap, sym, ◌∙◌, refl, arith, append_assoc}
use Rattle.campaigns.specs.Drill.{state_at, next_state}
use Rattle.campaigns.proofs.DrillLemmas.{state_next, draw_is}
use Rattle.campaigns.proofs.drill.put_job.Goals as goal

pub returns-clause-text : goal.returns-clause-text
returns-clause-text c = λ number is.
    let drawn = c.draw.ensures.state ∙ ap next_state is ∙ sym (state_next number (29 * c.args.before)) in
    let octet = draw_is number (29 * c.args.before) c.draw.result c.draw.new.state c.draw.ensures.octet drawn in
    let octets = c.in_ok-put_draws.ensures.text number (29 * c.args.before + 1) drawn in
    simp (
      append_assoc,
      c.in_ok-push_str-4.ensures.bytes,
      octets,
      c.in_ok-push_str-3.ensures.bytes,
      c.script_middle.ensures,
      c.in_ok-put_hex.ensures,
      octet,
      c.in_ok-push_str-2.ensures.bytes,
      c.script_front.ensures,
      c.in_ok-push_str.ensures.bytes,
      c.tar_of.ensures,
      c.in_ok-write.ensures.bytes,
    ) refl

pub returns-clause-state : goal.returns-clause-state
returns-clause-state c = λ number is.
    let drawn = c.draw.ensures.state ∙ ap next_state is ∙ sym (state_next number (29 * c.args.before)) in
    c.in_ok-put_draws.ensures.state number (29 * c.args.before + 1) drawn ∙ ap (state_at number) (omega arith)
