use Rattle.std.proofs.Common.{ap, refl}
use Rattle.air_sim.proofs.HandingLemmas.{addressed_none, addressed_some, piece_dropped, piece_handed}
use Rattle.air_sim.proofs.WorkingLemmas.{works_still}
use Rattle.air_sim.proofs.sim_site.SimSite.hand_over.Goals as goal

pub returns-in-None-clause-works : goal.returns-in-None-clause-works
returns-in-None-clause-works g c = works_still g.D.DiskCalls.told c.args.self.now c.args.self.now refl refl refl refl

pub returns-in-None-clause-hands : goal.returns-in-None-clause-hands
returns-in-None-clause-hands g c =
    piece_dropped g.D.DiskCalls.told g.D.DiskCalls.counts c.args.self.now.parts c.args.position c.args.cut (addressed_none c.addressed.result _ c.addressed.ensures c.in-None.is)
