use Rattle.std.proofs.Common.{◌∙◌, ap}
use Rattle.campaigns.specs.DifferenceSteps.{is_refusal}
use Rattle.campaigns.proofs.DifferenceLemmas.{refused_by}
use Rattle.campaigns.proofs.differences.is_refused.Goals as goal

pub returns : goal.returns
returns c = λ history stands. c.is_refusal.ensures ∙ ap is_refusal (c.settlement.ensures history stands) ∙ refused_by c.args.place history stands.legal
