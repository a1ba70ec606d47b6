use Rattle.std.proofs.Common.{length, sym, subst, arith}
use Rattle.lane_lock.specs.Locks.{IsOf}
use Rattle.senders.specs.Desks.{IsSeatAt}
use Rattle.senders.specs.Pieces.{IsPiece}
use Rattle.senders.proofs.ClosingLemmas.{each_in}
use Rattle.senders.proofs.HeldLemmas.{fit, row_held}
use Rattle.senders.proofs.RowLemmas.{at_is, at_put}
use Rattle.senders.proofs.rows.hold_at.Goals as goal

pub bounds-locks-place : goal.bounds-locks-place
bounds-locks-place g c = (each_in (IsPiece g.P.Terms.batch (length c.args.locks.now)) c.args.piece.now g.P.Terms.works c.requires.pieces.1 c.requires.piece).there

pub index_mut-requires : goal.index_mut-requires
index_mut-requires g c =
    let there = (each_in (IsPiece g.P.Terms.batch (length c.args.locks.now)) c.args.piece.now g.P.Terms.works c.requires.pieces.1 c.requires.piece).there in
    let same = c.requires.seated.0 in
    let long = c.args.row.now.ok.0 in
    omega (arith, there, same, long)

pub hold_seat-requires-clause-of : goal.hold_seat-requires-clause-of
hold_seat-requires-clause-of g c = λ κs lives.
    let there = (each_in (IsPiece g.P.Terms.batch (length c.args.locks.now)) c.args.piece.now g.P.Terms.works c.requires.pieces.1 c.requires.piece).there in
    at_is (λ place lock seat. IsOf lock seat) c.args.locks.now c.args.row.now.items c.args.piece.now.lane c.index-locks-place.result c.index_mut.result.now there c.index-locks-place.is c.requires.seated
    c.index_mut.ensures.value

pub hold_seat-requires-clause-piece : goal.hold_seat-requires-clause-piece
hold_seat-requires-clause-piece g c = λ κs lives.
    let piece = each_in (IsPiece g.P.Terms.batch (length c.args.locks.now)) c.args.piece.now g.P.Terms.works c.requires.pieces.1 c.requires.piece in
    fit g.P.Terms.batch (length c.args.locks.now) c.index-locks-place.result c.args.piece.now c.requires.pieces.0 piece
    (subst (λ l. Rattle.senders.specs.Desks.IsLockAt (length c.args.locks.now) g.P.Terms.batch c.args.piece.now.lane l) (sym c.index-locks-place.is)
    (c.requires.locks c.args.piece.now.lane c.index-locks-place.result piece.there))

pub returns-clause-seated : goal.returns-clause-seated
returns-clause-seated g c =
    let there = (each_in (IsPiece g.P.Terms.batch (length c.args.locks.now)) c.args.piece.now g.P.Terms.works c.requires.pieces.1 c.requires.piece).there in
    at_put (λ place lock seat. IsOf lock seat) (λ place lock seat. IsOf lock seat) c.args.locks.now c.args.row.now.items c.args.piece.now.lane c.index-locks-place.result c.hold_seat.new.seat there
    c.index-locks-place.is c.requires.seated c.hold_seat.ensures.of (λ place lock seat apart is. is)

pub returns-clause-held : goal.returns-clause-held
returns-clause-held g c = λ numbers had undone rows.
    let there = (each_in (IsPiece g.P.Terms.batch (length c.args.locks.now)) c.args.piece.now g.P.Terms.works c.requires.pieces.1 c.requires.piece).there in
    row_held numbers had undone c.args.locks.now c.args.row.now.items c.args.piece.now c.index-locks-place.result c.index_mut.result.now c.hold_seat.new.seat c.hold_seat.result there
    c.index-locks-place.is rows c.index_mut.ensures.value
    (c.hold_seat.ensures.held numbers had undone
    (at_is (λ place lock seat. IsSeatAt numbers had undone place lock seat) c.args.locks.now c.args.row.now.items c.args.piece.now.lane c.index-locks-place.result c.index_mut.result.now there
    c.index-locks-place.is rows c.index_mut.ensures.value))
