use Rattle.std.proofs.Common.{rules}
use Rattle.aes_modes.specs.Modes.{AreOctets}
use Rattle.aes_modes.proofs.Chains.{cbc_plain_of-cbc_of}
use Rattle.secured_packet.proofs.protection.encrypt.Goals as goal

pub returns-clause-undone : goal.returns-clause-undone
returns-clause-undone c =
    let below : AreOctets c.args.octets.now = λ i. search rules in
    cbc_plain_of-cbc_of c.args.key.now c.args.octets.now below c.requires
