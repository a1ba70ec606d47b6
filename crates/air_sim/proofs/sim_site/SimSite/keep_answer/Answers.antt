use Rattle.std.specs.Prelude.{refl}
use Rattle.air_sim.proofs.WorkingLemmas.{works_still}
use Rattle.air_sim.proofs.sim_site.SimSite.keep_answer.Goals as goal

pub returns-clause-works : goal.returns-clause-works
returns-clause-works g c = works_still g.D.DiskCalls.told _ _ refl refl refl refl
