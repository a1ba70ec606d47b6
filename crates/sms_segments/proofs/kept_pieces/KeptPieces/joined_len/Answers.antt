use Rattle.std.proofs.Common.{◌≡◌, ◌≤◌, ◌+◌, Some, length, arith, rules, subst, sym}
use Rattle.sms_segments.specs.Assembled.{Pieces, joined, with_piece}
use Rattle.sms_segments.specs.Kept.{Holding, kept_in}
use Rattle.sms_segments.proofs.KeptLemmas.{arrival-small, joined-longest, joined-within}
use Rattle.sms_segments.proofs.kept_pieces.KeptPieces.joined_len.Goals as goal

pub overflow_add-len : goal.overflow_add-len
overflow_add-len c =
    let arrival = c.args.arrival.now in
    let pieces : Pieces = with_piece arrival.place c.args.octets.now (kept_in c.self.inside.pieces.entries arrival.of) in
    let is : pieces (c.loop-before.before + 1) ≡ Some c.in-Some.next.now = search rules in
    let within = joined-within c.loop-before.before arrival.of.total pieces c.in-Some.next.now c.loop-before-test.true is in
    let few : arrival.of.total ≤ 255 = search rules in
    let whole = joined-longest arrival.of.total pieces few (arrival-small arrival.of arrival.place c.args.octets.now c.self.inside.pieces.entries c.requires c.self.invariant) in
    let done : c.loop-before.len ≡ length (joined c.loop-before.before pieces) =
    subst (λ (v : Holding). c.loop-before.len ≡ length (joined c.loop-before.before (with_piece arrival.place c.args.octets.now (kept_in v.pieces arrival.of)))) (sym c.self.view_is) c.loop-before.invariant in
    let most : c.loop-before.len + length c.in-Some.next.now ≤ 34168 = omega (arith, within, whole, done) in
    search rules

pub returns-clause-most : goal.returns-clause-most
returns-clause-most c =
    let arrival = c.args.arrival.now in
    let pieces : Pieces = with_piece arrival.place c.args.octets.now (kept_in c.self.inside.pieces.entries arrival.of) in
    let few : arrival.of.total ≤ 255 = search rules in
    let whole = joined-longest arrival.of.total pieces few (arrival-small arrival.of arrival.place c.args.octets.now c.self.inside.pieces.entries c.requires c.self.invariant) in
    let done : c.loop-before.len ≡ length (joined c.loop-before.before pieces) =
    subst (λ (v : Holding). c.loop-before.len ≡ length (joined c.loop-before.before (with_piece arrival.place c.args.octets.now (kept_in v.pieces arrival.of)))) (sym c.self.view_is) c.loop-before.invariant in
    let end : c.loop-before.before ≡ arrival.of.total = search rules in
    let all : c.loop-before.len ≡ length (joined arrival.of.total pieces) = subst (λ n. c.loop-before.len ≡ length (joined n pieces)) end done in
    omega (arith, all, whole)
