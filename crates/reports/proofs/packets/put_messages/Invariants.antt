use Rattle.std.proofs.Common.{◌≡◌, ◌++◌, string_bytes}
use Rattle.std.specs.List.{flat_map, range_with_len}
use Rattle.reports.specs.Packets.{message_line}
use Rattle.reports.proofs.packets.put_messages.Given as goal

abbrev pub invariant-loop-before : goal.invariant-loop-before
invariant-loop-before l =
    string_bytes l.text ≡ string_bytes l.fn.text ++ flat_map (message_line l.job l.counter l.reference l.packet) (range_with_len 1 l.before)
