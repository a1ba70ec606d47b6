use Rattle.air_sim.proofs.ListedLemmas.{ListedSoFar}
use Rattle.air_sim.proofs.sim_site.SimSite.next_listed.Given as goal

abbrev pub invariant-loop-index : goal.invariant-loop-index
invariant-loop-index g l = ListedSoFar g.D.DiskCalls.told g.D.DiskCalls.counts l.initial.self l.self l.index
