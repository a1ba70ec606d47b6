use Rattle.std.proofs.Common.{◌≡◌, length}
use Rattle.sms_segments.specs.Assembled.{joined, with_piece}
use Rattle.sms_segments.specs.Kept.{kept_in}
use Rattle.sms_segments.proofs.kept_pieces.KeptPieces.joined_len.Given as goal

-- the places before this one are counted
abbrev pub invariant-loop-before : goal.invariant-loop-before
invariant-loop-before l = l.len ≡ length (joined l.before (with_piece l.arrival.place l.octets (kept_in l.self.pieces l.arrival.of)))
