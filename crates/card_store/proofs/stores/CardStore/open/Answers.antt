use Rattle.std.proofs.Common.{◌≡◌, sym, subst}
use Rattle.disk_model.specs.Disk.{Tells}
use Rattle.ota_core.specs.declared.cards.CardFacts.{CardFacts}
use Rattle.card_store.specs.Opening.{IsReplayedAs}
use Rattle.card_store.proofs.StoreLaws.{opened_stands, opened_store}
use Rattle.card_store.proofs.stores.CardStore.open.Goals as goal

pub invariant_of-result : goal.invariant_of-result
invariant_of-result g c =
    let told = g.D.DiskCalls.told in
    let anew = c.in-Ok.anew in
    let e = c.in-Ok.ensures in
    let answer = subst (λ (facts : CardFacts). Tells told c.args.disk → IsReplayedAs facts (told.seen c.args.disk) (told.seen c.open_anew.new.disk) anew.opened) (sym e.made.0) e.answer in
    let stands = opened_stands told c.args.disk c.open_anew.new.disk anew.facts anew.opened e.tells e.shown answer e.settled in
    (e.made.1, stands.0, stands.1)

pub returns-in-Ok-clause-opened : goal.returns-in-Ok-clause-opened
returns-in-Ok-clause-opened g c = λ tells.
    let told = g.D.DiskCalls.told in
    let anew = c.in-Ok.anew in
    let e = c.in-Ok.ensures in
    let answer = subst (λ (facts : CardFacts). Tells told c.args.disk → IsReplayedAs facts (told.seen c.args.disk) (told.seen c.open_anew.new.disk) anew.opened) (sym e.made.0) e.answer in
    opened_store told c.args.disk c.open_anew.new.disk anew.facts anew.opened e.tells (answer tells) (e.settled tells)

pub returns-in-Ok-clause-stands : goal.returns-in-Ok-clause-stands
returns-in-Ok-clause-stands g c =
    let told = g.D.DiskCalls.told in
    let anew = c.in-Ok.anew in
    let e = c.in-Ok.ensures in
    let answer = subst (λ (facts : CardFacts). Tells told c.args.disk → IsReplayedAs facts (told.seen c.args.disk) (told.seen c.open_anew.new.disk) anew.opened) (sym e.made.0) e.answer in
    opened_stands told c.args.disk c.open_anew.new.disk anew.facts anew.opened e.tells e.shown answer e.settled
