use Rattle.std.proofs.Common.{◌∙◌, Ok, ap, subst, sym}
use Rattle.air_sim.specs.Handing.{HandsMessage}
use Rattle.air_sim.proofs.HandingLemmas.{message_dropped}
use Rattle.air_sim.proofs.PlaceLemmas.{not_there}
use Rattle.air_sim.proofs.WorkingLemmas.{works_still}
use Rattle.air_sim.proofs.sim_site.SimSite.hand_to.Goals as goal

pub returns-in-None-clause-works : goal.returns-in-None-clause-works
returns-in-None-clause-works g c =
    let same = c.place_of.ensures.same in
    works_still g.D.DiskCalls.told c.args.self.now c.place_of.new.self (ap (λ s. s.past.items) same) (ap (λ s. s.parts.journal) same) (ap (λ s. s.parts.cards.items) same) (ap (λ s. s.parts.sent.items) same)

pub returns-in-None-clause-hands : goal.returns-in-None-clause-hands
returns-in-None-clause-hands g c =
    subst (λ after. HandsMessage g.D.DiskCalls.told g.D.DiskCalls.counts c.args.self.now.parts after.parts c.args.card c.args.message.items c.args.cut (Ok tt)) (sym c.place_of.ensures.same)
    (message_dropped g.D.DiskCalls.told g.D.DiskCalls.counts c.args.self.now.parts c.args.card c.args.message.items c.args.cut (not_there c.args.card.0 c.args.self.now.parts.cards.items (sym c.place_of.ensures.place ∙ c.in-None.is)))
