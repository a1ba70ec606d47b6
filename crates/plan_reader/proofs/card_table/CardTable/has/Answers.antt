use Rattle.std.proofs.Common.{◌∙◌, ap, is_some, ◌==◌}
use Rattle.plan_reader.specs.PlanTable.{has_number}
use Rattle.plan_reader.proofs.PlaceLemmas.{position-any}
use Rattle.plan_reader.proofs.card_table.CardTable.has.Goals as goal

pub returns : goal.returns
returns c =
    c.contains_key.ensures ∙ ap is_some (c.self.invariant.found c.args.number)
    ∙ position-any (λ card. card.card.0 == c.args.number) 0 c.self.inside.cards.items ∙ ap (has_number c.args.number) c.self.view_is
