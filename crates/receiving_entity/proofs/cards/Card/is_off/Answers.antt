use Rattle.std.proofs.Common.{subst}
use Rattle.receiving_entity.specs.Card.{CardValue, IsCard}
use Rattle.receiving_entity.proofs.cards.Card.is_off.Goals as goal

pub returns-clause-known : goal.returns-clause-known
returns-clause-known g c = λ on.
    let told = g.D.DiskCalls.told in
    let stands = c.lines-lines.ensures.stands in
    let known : IsCard told (record { store = c.self.inside.store; kept = c.self.inside.assembler; off = c.self.inside.off }) stands.0 c.self.invariant.3 =
    record { on = on; ready = c.self.invariant.2 on; store = stands.1; kept = c.self.invariant.4 } in
    (stands.0, c.self.invariant.3, subst (λ (v : CardValue g.row.D.Denot). IsCard told v stands.0 c.self.invariant.3) c.self.view_is known)
