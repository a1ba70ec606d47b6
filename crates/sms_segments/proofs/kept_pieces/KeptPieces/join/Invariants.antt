use Rattle.std.proofs.Common.{◌≡◌, ◌≤◌, vec_capacity}
use Rattle.sms_segments.specs.Assembled.{joined, with_piece}
use Rattle.sms_segments.specs.Kept.{kept_in}
use Rattle.sms_segments.proofs.kept_pieces.KeptPieces.join.Given as goal

-- the places before this one are joined
abbrev pub invariant-loop-before : goal.invariant-loop-before
invariant-loop-before l =
    let pieces = with_piece l.arrival.place l.octets (kept_in l.self.pieces l.arrival.of) in
    (l.packet.items ≡ joined l.before pieces) × (vec_capacity l.fn.packet ≤ vec_capacity l.packet)
