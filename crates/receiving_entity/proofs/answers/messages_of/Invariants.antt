use Rattle.std.proofs.Common.{◌≡◌, map}
use Rattle.std.specs.List.{range_with_len}
use Rattle.sms_segments.specs.Cut.{piece_of}
use Rattle.receiving_entity.specs.Answer.{octets_of}
use Rattle.receiving_entity.proofs.answers.messages_of.Given as goal

-- the pieces before this one
abbrev pub invariant-loop-before : goal.invariant-loop-before
invariant-loop-before l = octets_of l.messages.items ≡ map (piece_of l.packet 0x71 l.reference) (range_with_len 1 l.before)
