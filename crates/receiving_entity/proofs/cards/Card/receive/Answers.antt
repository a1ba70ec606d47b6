use Rattle.std.proofs.Common.{◌≡◌, ◌∙◌, true, false, ap, subst}
use Rattle.receiving_entity.specs.Card.{CardValue, packet_by}
use Rattle.receiving_entity.specs.Receiving.{reaction}
use Rattle.receiving_entity.proofs.CardLemmas.{empty_is, stays}
use Rattle.receiving_entity.proofs.cards.Card.receive.Goals as goal

pub returns-then-is_passed_over-clause-moments : goal.returns-then-is_passed_over-clause-moments
returns-then-is_passed_over-clause-moments g c = λ tells content past is.
    let card = c.args.self.now in
    let off : c.self.inside.off ≡ false = ap (λ (v : CardValue g.row.D.Denot). v.off) c.self.view_is ∙ is.on in
    let ready : card.store.ready ≡ true = subst (λ (v : CardValue g.row.D.Denot). v.store.ready ≡ true) c.self.view_is (c.self.invariant.2 off) in
    stays g.D.DiskCalls.told card.store content is.store ready tells (reaction card.store.facts content past c.args.message.now)

pub returns-clause-empty : goal.returns-clause-empty
returns-clause-empty g c = λ content past is.
    let card = c.args.self.now in
    let new = c.take_message.new.self in
    empty_is g.D.DiskCalls.told card.store new.store content card.store.facts (packet_by card.store.facts past c.args.message.now) new.off c.take_message.result (c.take_message.ensures.reacts content past is)
