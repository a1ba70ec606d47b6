use Rattle.std.proofs.Common.{rules, ◌≡◌, Some, inr}
use Rattle.ota_commands.specs.declared.words.Command.TheVariants.{Packet}
use Rattle.ota_commands.proofs.plain.run.Goals as goal

pub returns-in-Some-Packet-clause-course : goal.returns-in-Some-Packet-clause-course
returns-in-Some-Packet-clause-course g c =
    let said : c.args.command ≡ Some Packet = search rules in
    inr (inr (inr (record { command_is = said; run = c.packet.ensures.course c.args.ends.now c.requires.not_ended })))
