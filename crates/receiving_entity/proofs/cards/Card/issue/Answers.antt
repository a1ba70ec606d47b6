use Rattle.std.proofs.Common.{false, refl}
use Rattle.receiving_entity.proofs.CardLemmas.{issued_is}
use Rattle.receiving_entity.proofs.cards.Card.issue.Goals as goal

pub returns-clause-opened : goal.returns-clause-opened
returns-clause-opened g c = λ tells.
    let told = g.D.DiskCalls.told in
    issued_is told (told.seen c.args.disk) (record { store = c.in_ok-store.store; kept = c.new.result; off = false }) refl c.in_ok-store.ensures.ready.1 c.new.ensures.keeps (c.in_ok-store.ensures.opened tells)

pub returns-clause-begins : goal.returns-clause-begins
returns-clause-begins g c =
    let stands = c.in_ok-store.ensures.stands in
    (stands.0, record { on = refl; ready = c.in_ok-store.ensures.ready.1; store = stands.1; kept = c.new.ensures.keeps })
