use Rattle.std.proofs.Common.{◌≡◌, IfErr, OnOk, subst}
use Rattle.world_core.specs.WorldState.{WorldState}
use Rattle.world_core.specs.Run.{IsLater}
use Rattle.world_core.specs.Settling.{BeginsSettlement}
use Rattle.world_core.specs.Delivery.{DeliversWhole, DeliversNoWhole}
use Rattle.world_core.specs.declared.refusals.NotAllowed.TheVariants as refusal
use Rattle.world_core.proofs.SoundLemmas.{sound_after}
use Rattle.world_core.proofs.StepLemmas.{later_after, whole_after, not_whole_after, settles_after}
use Rattle.world_core.proofs.worlds.World.step.Goals as goal

pub invariant_of-self : goal.invariant_of-self
invariant_of-self c = sound_after c.self.inside.parts c.step.new.self c.args.event.now c.step.result c.self.invariant c.step.ensures

pub returns-clause-later : goal.returns-clause-later
returns-clause-later c = subst (λ (w : WorldState). IsLater w c.step.new.self) c.self.view_is
    (later_after c.self.inside.parts c.step.new.self c.args.event.now c.step.result c.step.ensures)

pub returns-clause-whole : goal.returns-clause-whole
returns-clause-whole c = subst (λ (w : WorldState). OnOk c.step.result (DeliversWhole w c.args.event.now)) c.self.view_is
    (whole_after c.self.inside.parts c.step.new.self c.args.event.now c.step.result c.step.ensures)

pub returns-clause-not_whole : goal.returns-clause-not_whole
returns-clause-not_whole c = subst (λ (w : WorldState). IfErr c.step.result (λ named. named ≡ refusal.NotWhole → DeliversNoWhole w c.args.event.now)) c.self.view_is
    (not_whole_after c.self.inside.parts c.step.new.self c.args.event.now c.step.result c.step.ensures)

pub returns-clause-settles : goal.returns-clause-settles
returns-clause-settles c = subst (λ (w : WorldState). IfErr c.step.result (λ named. BeginsSettlement w c.args.event.now → named ≡ refusal.Memory)) c.self.view_is
    (settles_after c.self.inside.parts c.step.new.self c.args.event.now c.step.result c.self.invariant c.step.ensures)
