use Rattle.command_packet.proofs.BuiltLaws.{carries-what_is_built, has-packet_length}
use Rattle.command_packet.proofs.laws.packets_carry_their_command.Goals as goal

pub returns-clause-len : goal.returns-clause-len
returns-clause-len c = has-packet_length

pub returns-clause-carries : goal.returns-clause-carries
returns-clause-carries c = carries-what_is_built
