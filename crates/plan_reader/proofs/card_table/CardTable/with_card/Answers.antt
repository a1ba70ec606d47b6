use Rattle.plan_reader.proofs.PlaceLemmas.{placed-push}
use Rattle.plan_reader.proofs.card_table.CardTable.with_card.Goals as goal

pub invariant_of-result : goal.invariant_of-result
invariant_of-result c =
    rw c.in_ok-push.ensures.items
    (placed-push c.self.inside.places c.insert.new.self c.self.inside.cards.items c.args.card c.self.invariant (rw (← c.self.view_is) at c.requires.new) (rw (c.len.ensures, c.self.inside.cards.ok.0) at c.in_ok-insert.ensures.updates))
