use Rattle.command_packet.proofs.NamedLemmas.{names_its_keyset, names_one_keyset}
use Rattle.command_packet.proofs.laws.packets_name_their_keyset.Goals as goal

pub returns-clause-named : goal.returns-clause-named
returns-clause-named c = names_its_keyset

pub returns-clause-one : goal.returns-clause-one
returns-clause-one c = names_one_keyset
