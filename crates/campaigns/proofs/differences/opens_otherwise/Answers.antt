use Rattle.std.proofs.Common.{◌∙◌, ap}
use Rattle.campaigns.specs.DifferenceSteps.{unlike_facts}
use Rattle.campaigns.proofs.DifferenceLemmas.{opened_otherwise}
use Rattle.campaigns.proofs.differences.opens_otherwise.Goals as goal

pub returns : goal.returns
returns c = λ history stands.
    c.unlike_facts.ensures ∙ ap (unlike_facts c.args.facts.now) (c.opened_facts.ensures history stands)
    ∙ opened_otherwise c.args.keyset c.args.facts.now history stands.legal
