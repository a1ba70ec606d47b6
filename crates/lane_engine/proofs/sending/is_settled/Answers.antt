use Rattle.std.proofs.Common.{◌∙◌, ap, is_some, reverse, sym}
use Rattle.lane_engine.proofs.ResponseLemmas.{settled_some}
use Rattle.lane_engine.proofs.sending.is_settled.Goals as goal

pub returns-in-Some : goal.returns-in-Some
returns-in-Some c = λ history stands. ap is_some (sym c.in-Some.is ∙ c.settlement.ensures history stands) ∙ settled_some c.args.place (reverse history)

pub returns-in-None : goal.returns-in-None
returns-in-None c = λ history stands. ap is_some (sym c.in-None.is ∙ c.settlement.ensures history stands) ∙ settled_some c.args.place (reverse history)
