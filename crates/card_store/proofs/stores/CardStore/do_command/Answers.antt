use Rattle.std.proofs.Common.{◌≡◌, ◌⊎◌, Some, List, ℕ, sym, ap, subst, ◌∙◌}
use Rattle.disk_model.specs.Disk.{Tells, DiskRun}
use Rattle.card_store.specs.Content.{Content, after_command}
use Rattle.card_store.specs.Laws.{after_command_part}
use Rattle.card_store.specs.Parts.{command_part}
use Rattle.card_store.specs.Replay.{Holds, HoldsAfterCommand, IsAfterCommand}
use Rattle.card_store.specs.Store.{Shown, Shows, StandsFor}
use Rattle.card_store.proofs.StoreLaws.{stands_unready, stands_next, run_after_command}
use Rattle.card_store.proofs.stores.CardStore.do_command.Goals as goal

pub invariant_of-self : goal.invariant_of-self
invariant_of-self g c =
    let inside = c.self.inside in (
      c.self.invariant.0,
      c.self.invariant.1,
      subst (λ (shown : Shown). StandsFor g.D.DiskCalls.told (record { disk = inside.disk; facts = inside.facts; shown = shown; length = inside.log; ready = inside.ready }) c.self.invariant.1)
          (sym c.in_err-step.ensures.err) c.self.invariant.2,
    )

pub invariant_of-self-in_err-append_part : goal.invariant_of-self-in_err-append_part
invariant_of-self-in_err-append_part g c =
    let ran = c.in_ok-step.ensures.ran c.self.invariant.1 c.self.invariant.2.shows in
    (c.self.invariant.0, ran.0, stands_unready g.D.DiskCalls.told c.append_part.new.disk c.self.inside.facts c.run_command.new.self c.append_part.new.log ran.0 ran.2)

pub returns-in_err-append_part-clause-moments : goal.returns-in_err-append_part-clause-moments
returns-in_err-append_part-clause-moments g c =
    let told = g.D.DiskCalls.told in
    subst (λ s. Tells told s.disk → (content : Content) → StandsFor told s content → DiskRun told s.disk c.append_part.new.disk (λ image. Holds s.facts content image ⊎ HoldsAfterCommand s.facts content image))
    c.self.view_is
    (λ tells content stands.
    let ran = c.in_ok-step.ensures.ran content stands.shows in
    let ready = ap (λ s. s.ready) c.self.view_is ∙ c.requires.ready in
    run_after_command told c.self.inside.disk c.append_part.new.disk c.self.inside.facts content ran.0 ran.1
    (c.append_part.ensures.moments tells c.self.inside.facts content ran.0 command_part c.self.invariant.0 (stands.kept ready tells) (after_command_part c.self.inside.facts content ∙ ran.1)))

pub invariant_of-self-2 : goal.invariant_of-self-2
invariant_of-self-2 g c =
    let told = g.D.DiskCalls.told in
    let inside = c.self.inside in
    let content = c.self.invariant.1 in
    let stands = c.self.invariant.2 in
    let ran = c.in_ok-step.ensures.ran content stands.shows in
    let ready = ap (λ s. s.ready) c.self.view_is ∙ c.requires.ready in
    let added = c.in_ok-append_part.ensures in (
      c.self.invariant.0,
      ran.0,
      stands_next told inside.disk c.append_part.new.disk inside.facts inside.kept c.run_command.new.self inside.log c.append_part.new.log inside.ready content ran.0 ready added.tells stands ran.2
          (λ tells kept. added.kept tells inside.facts content ran.0 command_part c.self.invariant.0 kept (after_command_part inside.facts content ∙ ran.1)),
    )

pub returns-clause-ran : goal.returns-clause-ran
returns-clause-ran g c = λ content now_stands.
    let told = g.D.DiskCalls.told in
    let inside = c.self.inside in
    let stands = subst (λ s. StandsFor told s content) (sym c.self.view_is) now_stands in
    let ran = c.in_ok-step.ensures.ran content stands.shows in
    let ready = ap (λ s. s.ready) c.self.view_is ∙ c.requires.ready in
    let added = c.in_ok-append_part.ensures in (
      ran.0,
      ran.1,
      stands_next told inside.disk c.append_part.new.disk inside.facts inside.kept c.run_command.new.self inside.log c.append_part.new.log inside.ready content ran.0 ready added.tells stands ran.2
          (λ tells kept. added.kept tells inside.facts content ran.0 command_part c.self.invariant.0 kept (after_command_part inside.facts content ∙ ran.1)),
    )

pub returns-clause-lent : goal.returns-clause-lent
returns-clause-lent g c = λ content shows. c.in_ok-step.ensures.ran content (subst (Shows content) (sym (ap (λ s. s.shown) c.self.view_is)) shows)

pub returns-clause-moments : goal.returns-clause-moments
returns-clause-moments g c =
    let told = g.D.DiskCalls.told in
    subst (λ s. Tells told s.disk → (content : Content) → StandsFor told s content → DiskRun told s.disk c.append_part.new.disk (λ image. Holds s.facts content image ⊎ HoldsAfterCommand s.facts content image))
    c.self.view_is
    (λ tells content stands.
    let ran = c.in_ok-step.ensures.ran content stands.shows in
    let ready = ap (λ s. s.ready) c.self.view_is ∙ c.requires.ready in
    run_after_command told c.self.inside.disk c.append_part.new.disk c.self.inside.facts content ran.0 ran.1
    (c.append_part.ensures.moments tells c.self.inside.facts content ran.0 command_part c.self.invariant.0 (stands.kept ready tells) (after_command_part c.self.inside.facts content ∙ ran.1)))
