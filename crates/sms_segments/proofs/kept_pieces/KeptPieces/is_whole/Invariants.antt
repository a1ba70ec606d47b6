use Rattle.std.proofs.Common.{◌≡◌}
use Rattle.sms_segments.specs.Assembled.{is_whole, with_piece}
use Rattle.sms_segments.specs.Kept.{kept_in}
use Rattle.sms_segments.proofs.kept_pieces.KeptPieces.is_whole.Given as goal

-- whether the packet is whole is decided by the places up to this one
abbrev pub invariant-loop-place : goal.invariant-loop-place
invariant-loop-place l =
    let pieces = with_piece l.arrival.place l.octets (kept_in l.self.pieces l.arrival.of) in
    is_whole l.place pieces ≡ is_whole l.arrival.of.total pieces

abbrev pub decreases-loop-place : goal.decreases-loop-place
decreases-loop-place l = l.place
