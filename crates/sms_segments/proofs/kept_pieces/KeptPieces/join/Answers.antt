use Rattle.std.proofs.Common.{◌≡◌, ◌≤◌, ◌<◌, ℕ, ◌+◌, Some, length, ap, arith, rules, vec_capacity}
use Rattle.sms_segments.specs.Assembled.{Pieces, joined, with_piece}
use Rattle.sms_segments.specs.Kept.{kept_in}
use Rattle.sms_segments.proofs.KeptLemmas.{joined-within}
use Rattle.sms_segments.proofs.kept_pieces.KeptPieces.join.Goals as goal

pub returns-in_err-reserve-clause-room : goal.returns-in_err-reserve-clause-room
returns-in_err-reserve-clause-room c = λ room.
    let empty : length c.args.packet.now.items ≡ 0 = ap length c.requires.empty in
    absurd (omega (arith, c.joined_len.ensures.most, empty, room, c.in_err-reserve.ensures.full))

pub returns-in_err-extend_from_slice-clause-room : goal.returns-in_err-extend_from_slice-clause-room
returns-in_err-extend_from_slice-clause-room c = λ room.
    let arrival = c.args.arrival.now in
    let pieces : Pieces = with_piece arrival.place c.args.octets.now (kept_in c.args.self.now.pieces arrival.of) in
    let before : ℕ = c.loop-before.before in
    let is : pieces (before + 1) ≡ Some c.in-Some.next.now = search rules in
    let within = joined-within before arrival.of.total pieces c.in-Some.next.now c.loop-before-test.true is in
    let done : length c.loop-before.packet.items ≡ length (joined before pieces) = ap length c.loop-before.invariant.0 in
    let kept : vec_capacity c.args.packet.now ≤ vec_capacity c.reserve.new.self = c.reserve.ensures.capacity in
    let full : vec_capacity c.loop-before.packet < length c.loop-before.packet.items + length c.in-Some.next.now = omega (arith, c.in_err-extend_from_slice.ensures.full) in
    absurd (omega (arith, within, c.joined_len.ensures.len, c.joined_len.ensures.most, done, full, kept, room, c.loop-before.invariant.1))
