use Rattle.reports.proofs.PacketLemmas.{command_octets-some}
use Rattle.reports.proofs.packets.build.Goals as goal

pub returns-clause-some : goal.returns-clause-some
returns-clause-some c = rw (c.build_in.ensures.packet) (command_octets-some _ _ _ _ _ _)
