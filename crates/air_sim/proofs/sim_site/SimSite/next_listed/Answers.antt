use Rattle.std.proofs.Common.{◌≡◌, ◌∙◌, Some, ap, arith, length, subst, sym}
use Rattle.std.specs.Prelude.{slice_get}
use Rattle.air_sim.specs.Acts.{acts_of}
use Rattle.air_sim.specs.Polls.{IsListed, progress_of}
use Rattle.air_sim.proofs.AnswerLemmas.{made_there}
use Rattle.air_sim.proofs.ListedLemmas.{listed_begins, listed_ends, listed_gives, listed_goes_on, listed_passes, listed_same, listed_stepped_same, listed_stepped_works, listed_wants, listed_works, schedule_is}
use Rattle.air_sim.proofs.SendLemmas.{handed_on}
use Rattle.air_sim.proofs.sim_site.SimSite.next_listed.Goals as goal

pub loop-index-init : goal.loop-index-init
loop-index-init g c = listed_begins g.D.DiskCalls.told g.D.DiskCalls.counts c.args.self.now

pub act-requires : goal.act-requires
act-requires g c =
    omega (arith, c.loop-index-test.true, c.len-index-end.ensures, ap (λ schedule. length (acts_of schedule)) (schedule_is g.D.DiskCalls.told g.D.DiskCalls.counts c.args.self.now c.loop-index.self c.loop-index.index c.loop-index.invariant))

pub loop-index-preserved : goal.loop-index-preserved
loop-index-preserved g c =
    listed_goes_on g.D.DiskCalls.told g.D.DiskCalls.counts c.args.self.now c.loop-index.self c.loop-index.index c.loop-index.invariant c.hand_over.new.self c.hand_over.result c.in-Deliver.sent c.in-Deliver.cut (subst (λ schedule. slice_get (acts_of schedule) c.loop-index.index ≡ Some c.act.result) (schedule_is g.D.DiskCalls.told g.D.DiskCalls.counts c.args.self.now c.loop-index.self c.loop-index.index c.loop-index.invariant) c.act.ensures ∙ ap Some c.in-Deliver.is) c.hand_over.ensures.works c.hand_over.ensures.hands c.hand_over.ensures.same
    c.in_ok-hand_over-in-Deliver.was

pub returns-clause-goes : goal.returns-clause-goes
returns-clause-goes g c =
    listed_ends g.D.DiskCalls.told g.D.DiskCalls.counts c.args.self.now c.loop-index.self c.loop-index.index c.loop-index.invariant (omega (arith, c.loop-index-test.false, c.len-index-end.ensures))

pub returns-in-Give-clause-works : goal.returns-in-Give-clause-works
returns-in-Give-clause-works g c = listed_stepped_works g.D.DiskCalls.told g.D.DiskCalls.counts c.args.self.now c.loop-index.self c.loop-index.index c.loop-index.invariant

pub returns-in-Give-clause-same : goal.returns-in-Give-clause-same
returns-in-Give-clause-same g c = listed_stepped_same g.D.DiskCalls.told g.D.DiskCalls.counts c.args.self.now c.loop-index.self c.loop-index.index c.loop-index.invariant

pub returns-in-Give-clause-there : goal.returns-in-Give-clause-there
returns-in-Give-clause-there g c = made_there (length c.loop-index.self.parts.messages.items) c.in-Give.made c.made_position.result c.made_position.ensures

pub returns-in-Give-clause-goes : goal.returns-in-Give-clause-goes
returns-in-Give-clause-goes g c =
    listed_gives g.D.DiskCalls.told g.D.DiskCalls.counts c.args.self.now c.loop-index.self c.loop-index.index c.loop-index.invariant c.in-Give.made c.made_position.result
    (subst (λ schedule. slice_get (acts_of schedule) c.loop-index.index ≡ Some c.act.result) (schedule_is g.D.DiskCalls.told g.D.DiskCalls.counts c.args.self.now c.loop-index.self c.loop-index.index c.loop-index.invariant) c.act.ensures ∙ ap Some c.in-Give.is)
    c.made_position.ensures

pub returns-in-Pass-clause-works : goal.returns-in-Pass-clause-works
returns-in-Pass-clause-works g c = listed_stepped_works g.D.DiskCalls.told g.D.DiskCalls.counts c.args.self.now c.loop-index.self c.loop-index.index c.loop-index.invariant

pub returns-in-Pass-clause-same : goal.returns-in-Pass-clause-same
returns-in-Pass-clause-same g c = listed_stepped_same g.D.DiskCalls.told g.D.DiskCalls.counts c.args.self.now c.loop-index.self c.loop-index.index c.loop-index.invariant

pub returns-in-Pass-clause-goes : goal.returns-in-Pass-clause-goes
returns-in-Pass-clause-goes g c =
    listed_passes g.D.DiskCalls.told g.D.DiskCalls.counts c.args.self.now c.loop-index.self c.loop-index.index c.loop-index.invariant
    (subst (λ schedule. slice_get (acts_of schedule) c.loop-index.index ≡ Some c.act.result) (schedule_is g.D.DiskCalls.told g.D.DiskCalls.counts c.args.self.now c.loop-index.self c.loop-index.index c.loop-index.invariant) c.act.ensures ∙ ap Some c.in-Pass.is)

pub returns-in_err-hand_over-in-Deliver-clause-works : goal.returns-in_err-hand_over-in-Deliver-clause-works
returns-in_err-hand_over-in-Deliver-clause-works g c = listed_works g.D.DiskCalls.told g.D.DiskCalls.counts c.args.self.now c.loop-index.self c.loop-index.index c.loop-index.invariant c.hand_over.new.self c.hand_over.result c.in-Deliver.sent c.in-Deliver.cut (subst (λ schedule. slice_get (acts_of schedule) c.loop-index.index ≡ Some c.act.result) (schedule_is g.D.DiskCalls.told g.D.DiskCalls.counts c.args.self.now c.loop-index.self c.loop-index.index c.loop-index.invariant) c.act.ensures ∙ ap Some c.in-Deliver.is) c.hand_over.ensures.works c.hand_over.ensures.hands c.hand_over.ensures.same

pub returns-in_err-hand_over-in-Deliver-clause-same : goal.returns-in_err-hand_over-in-Deliver-clause-same
returns-in_err-hand_over-in-Deliver-clause-same g c = listed_same g.D.DiskCalls.told g.D.DiskCalls.counts c.args.self.now c.loop-index.self c.loop-index.index c.loop-index.invariant c.hand_over.new.self c.hand_over.result c.in-Deliver.sent c.in-Deliver.cut (subst (λ schedule. slice_get (acts_of schedule) c.loop-index.index ≡ Some c.act.result) (schedule_is g.D.DiskCalls.told g.D.DiskCalls.counts c.args.self.now c.loop-index.self c.loop-index.index c.loop-index.invariant) c.act.ensures ∙ ap Some c.in-Deliver.is) c.hand_over.ensures.works c.hand_over.ensures.hands c.hand_over.ensures.same

pub returns-in_err-hand_over-in-Deliver-clause-goes : goal.returns-in_err-hand_over-in-Deliver-clause-goes
returns-in_err-hand_over-in-Deliver-clause-goes g c =
    subst (λ result. IsListed g.D.DiskCalls.told g.D.DiskCalls.counts (progress_of c.args.self.now) (progress_of c.hand_over.new.self) (acts_of c.args.self.now.schedule) result)
    (sym (handed_on c.from_residual.result c.in_err-hand_over-in-Deliver.field-0.0 c.from_residual.ensures.1))
    (listed_wants g.D.DiskCalls.told g.D.DiskCalls.counts c.args.self.now c.loop-index.self c.loop-index.index c.loop-index.invariant c.hand_over.new.self c.hand_over.result c.in-Deliver.sent c.in-Deliver.cut (subst (λ schedule. slice_get (acts_of schedule) c.loop-index.index ≡ Some c.act.result) (schedule_is g.D.DiskCalls.told g.D.DiskCalls.counts c.args.self.now c.loop-index.self c.loop-index.index c.loop-index.invariant) c.act.ensures ∙ ap Some c.in-Deliver.is) c.hand_over.ensures.works c.hand_over.ensures.hands c.hand_over.ensures.same c.in_err-hand_over-in-Deliver.field-0.0 c.in_err-hand_over-in-Deliver.was)
