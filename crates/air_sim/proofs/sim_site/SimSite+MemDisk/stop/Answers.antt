use Rattle.std.specs.Prelude.{refl}
use Rattle.disk_model.specs.MemDisk.{mem_told}
use Rattle.air_sim.proofs.CallLemmas.{quiet_port}
use Rattle.air_sim.proofs.sim_site.SimSite+MemDisk.stop.Goals as goal

pub returns-in-Ok-clause-lists : goal.returns-in-Ok-clause-lists
returns-in-Ok-clause-lists c = quiet_port mem_told c.args.self (record c.args.self { past = c.and-site.result; parts = record c.args.self.parts { journal = c.in-Ok.journal } }) refl refl c.and-site.ensures
