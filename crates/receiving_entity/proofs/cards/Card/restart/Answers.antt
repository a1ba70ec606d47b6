use Rattle.std.proofs.Common.{false, refl, subst}
use Rattle.card_store.specs.Store.{IsOpenedStore}
use Rattle.disk_model.specs.Disk.{Tells}
use Rattle.receiving_entity.specs.Card.{CardValue}
use Rattle.receiving_entity.proofs.CardLemmas.{issued_is}
use Rattle.receiving_entity.proofs.cards.Card.restart.Goals as goal

pub returns-clause-opened : goal.returns-clause-opened
returns-clause-opened g c = λ tells.
    let told = g.D.DiskCalls.told in
    let opened : Tells told c.args.self.now.store.disk → IsOpenedStore told (told.seen c.args.self.now.store.disk) c.reopen.new.self =
    subst (λ (v : CardValue g.row.D.Denot). Tells told v.store.disk → IsOpenedStore told (told.seen v.store.disk) c.reopen.new.self) c.self.view_is c.in_ok-reopen.ensures.opened in
    issued_is told (told.seen c.args.self.now.store.disk) (record { store = c.reopen.new.self; kept = c.new.result; off = false }) refl c.in_ok-reopen.ensures.ready c.new.ensures.keeps (opened tells)

pub returns-clause-begins : goal.returns-clause-begins
returns-clause-begins g c =
    let stands = c.in_ok-reopen.ensures.stands in
    (stands.0, record { on = refl; ready = c.in_ok-reopen.ensures.ready; store = stands.1; kept = c.new.ensures.keeps })
