use Rattle.air_sim.proofs.PollLemmas.{InOrderSoFar}
use Rattle.air_sim.proofs.sim_site.SimSite.hand_over_in_order.Given as goal

abbrev pub invariant-loop-position : goal.invariant-loop-position
invariant-loop-position g l = InOrderSoFar g.D.DiskCalls.told g.D.DiskCalls.counts l.initial.self l.self l.position
