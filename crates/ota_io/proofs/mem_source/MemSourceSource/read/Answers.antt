use Rattle.std.proofs.Common.{arith, drop, take-append-drop}
use Rattle.std.proofs.lemmas.List.{drop-drop}
use Rattle.std.proofs.lemmas.Grind.{common_steps}
use Rattle.ota_io.proofs.mem_source.MemSourceSource.read.Goals as goal

pub returns-clause-octets : goal.returns-clause-octets
returns-clause-octets c = grind (arith, common_steps, drop-drop, take-append-drop c.copy_front-count.result (drop c.self.inside.at c.self.inside.octets.items))
