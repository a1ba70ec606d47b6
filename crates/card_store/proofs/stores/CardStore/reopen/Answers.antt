use Rattle.std.proofs.Common.{◌≡◌, true, sym, subst, ap}
use Rattle.disk_model.specs.Disk.{Tells}
use Rattle.card_store.specs.Store.{IsOpenedStore}
use Rattle.card_store.proofs.StoreLaws.{stands_unready, opened_stands, opened_store}
use Rattle.card_store.proofs.stores.CardStore.reopen.Goals as goal

pub invariant_of-self : goal.invariant_of-self
invariant_of-self g c =
    let inside = c.self.inside in
    (c.self.invariant.0, c.self.invariant.1, stands_unready g.D.DiskCalls.told c.open_log.new.disk inside.facts inside.kept inside.log c.self.invariant.1 c.self.invariant.2.shows)

pub invariant_of-self-2 : goal.invariant_of-self-2
invariant_of-self-2 g c =
    let inside = c.self.inside in
    let opened = c.in_ok-opened.ensures in
    let stands = opened_stands g.D.DiskCalls.told inside.disk c.open_log.new.disk inside.facts c.in_ok-opened.opened opened.tells opened.shown opened.answer opened.settled in
    (c.self.invariant.0, stands.0, stands.1)

pub returns-clause-opened : goal.returns-clause-opened
returns-clause-opened g c =
    let told = g.D.DiskCalls.told in
    let inside = c.self.inside in
    let opened = c.in_ok-opened.ensures in
    subst (λ s. Tells told s.disk → IsOpenedStore told (told.seen s.disk) (record { disk = c.open_log.new.disk; facts = inside.facts; shown = c.in_ok-opened.opened.kept; length = c.in_ok-opened.opened.log; ready = true }))
    c.self.view_is
    (λ tells. opened_store told inside.disk c.open_log.new.disk inside.facts c.in_ok-opened.opened opened.tells (opened.answer tells) (opened.settled tells))

pub returns-clause-stands : goal.returns-clause-stands
returns-clause-stands g c =
    let inside = c.self.inside in
    let opened = c.in_ok-opened.ensures in
    opened_stands g.D.DiskCalls.told inside.disk c.open_log.new.disk inside.facts c.in_ok-opened.opened opened.tells opened.shown opened.answer opened.settled
