use Rattle.std.proofs.Common.{string_bytes}
use Rattle.reports.specs.Packets.{message_line}
use Rattle.reports.proofs.PacketLemmas.{one_line_more}
use Rattle.reports.proofs.packets.put_messages.Goals as goal

pub loop-before-preserved : goal.loop-before-preserved
loop-before-preserved c =
    rw (c.in_ok-put_message.ensures)
    (one_line_more (message_line c.args.job c.args.counter c.args.reference c.args.packet.now) (string_bytes c.args.text.now) (string_bytes c.loop-before.text)
    c.loop-before.before c.loop-before.invariant)
