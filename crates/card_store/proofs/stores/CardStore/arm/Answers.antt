use Rattle.std.proofs.Common.{◌≡◌, ◌∙◌, sym}
use Rattle.disk_model.specs.Disk.{image_now}
use Rattle.disk_model.specs.Runs.{left_now}
use Rattle.card_store.proofs.StoreLaws.{kept_same}
use Rattle.card_store.proofs.stores.CardStore.arm.Goals as goal

pub invariant_of-self : goal.invariant_of-self
invariant_of-self g c =
    let told = g.D.DiskCalls.told in
    let inside = c.self.inside in
    let content = c.self.invariant.1 in
    let stands = c.self.invariant.2 in
    let armed = c.arm.ensures in (
      c.self.invariant.0,
      content,
      record {
        shows = stands.shows;
        kept = λ ready tells.
            let on = sym armed.tells ∙ tells in
            kept_same told inside.disk c.arm.new.self inside.facts inside.log content (armed.content on) (left_now told inside.disk c.arm.new.self (image_now told inside.disk) (armed.moments on)) (stands.kept ready on);
      },
    )
