use Rattle.std.proofs.Common.{reverse, ◌∙◌, ap}
use Rattle.lane_engine.specs.Reserving.{is_refusal}
use Rattle.lane_engine.proofs.ReserveLemmas.{refusal-is}
use Rattle.lane_engine.proofs.reserving.has_refusal.Goals as goal

pub returns : goal.returns
returns c = λ history stands.
    c.is_refusal.ensures ∙ (ap is_refusal (c.settlement.ensures history stands) ∙ refusal-is c.args.last (reverse history) stands.legal)
