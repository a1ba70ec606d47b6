use Rattle.std.proofs.Common.{refl}
use Rattle.world_core.proofs.packets.packet_of.Goals as goal

pub returns-in-Some : goal.returns-in-Some
returns-in-Some c = rw c.in-Reserve.is (rw (← c.in-Some.ensures) refl)
