use Rattle.std.proofs.Common.{◌≡◌, ◌+◌, ℕ, None, [], length, sym, subst, ap, ◌∙◌, arith}
use Rattle.crossbeam_queue.specs.Passes.{view, IsPassOf}
use Rattle.lane_lock.specs.Numbers.{same, total, Each}
use Rattle.lane_lock.proofs.Trials.{all_from_each}
use Rattle.senders.specs.Desks.{AreLocks, IsReady, IsRow}
use Rattle.senders.specs.Pieces.{IsPiece}
use Rattle.senders.specs.declared.benches.Hand.{Hand}
use Rattle.senders.specs.declared.pieces.Work.{Work}
use Rattle.senders.proofs.WorkingLemmas.{all_shared, are_locks, desk_for, may_close, numbers_beside, ready, some_there, unrefused}
use Rattle.senders.proofs.PlaceLemmas.{all_beside, beside_length, each_all}
use Rattle.senders.proofs.working.work_shared.Goals as goal

pub share-pass-requires-clause-pieces : goal.share-pass-requires-clause-pieces
share-pass-requires-clause-pieces g c = λ κs lives. (
  c.requires.terms.1,
  subst (λ l. Each (IsPiece g.P.Terms.batch (length c.as_slice.result.now)) l) (sym c.requires.terms.0)
      (subst (λ n. Each (IsPiece g.P.Terms.batch n) c.args.work.items) (c.args.hall.locks.ok.0 ∙ ap length (sym c.as_slice.ensures.value))
      (each_all (IsPiece g.P.Terms.batch c.args.hall.locks.len) c.args.work.items c.requires.pieces)),
)

pub share-pass-requires-clause-locks : goal.share-pass-requires-clause-locks
share-pass-requires-clause-locks g c = λ κs lives. subst (λ l. AreLocks g.P.Terms.batch l) (sym c.as_slice.ensures.value)
    (are_locks g.T.DiskCalls.told g.T.DiskCalls.counts g.T.SiteCalls.port g.T.SiteCalls.lines g.P.Terms.batch c.args.hall.rows.len c.args.hall.locks.len c.args.work.items c.args.hall.locks.items
    c.args.hall.locks.ok.0 c.requires.locks c.requires.lanes)

pub share-pass-requires-clause-pass : goal.share-pass-requires-clause-pass
share-pass-requires-clause-pass g c = λ κs lives.
    let long = beside_length _ 0 c.args.hall.rows.items c.seat_senders-desks.result.items c.seat_senders-desks.ensures.desks in
    let a = c.args.hall.rows.ok.0 in
    let b = c.seat_senders-desks.result.ok.0 in
    (c.seat_senders-desks.ensures.pass.0, c.seat_senders-desks.ensures.pass.1 ∙ ap (λ (n : ℕ). Rattle.senders.specs.Bench.hand n g.P.Terms.works []) (omega (arith, long, a, b)))

pub share-pass-requires-clause-senders : goal.share-pass-requires-clause-senders
share-pass-requires-clause-senders g c = λ κs lives.
    let long = beside_length _ 0 c.args.hall.rows.items c.seat_senders-desks.result.items c.seat_senders-desks.ensures.desks in
    let a = c.requires.rows.0 in
    let b = c.requires.rows.1 in
    let d = c.args.hall.rows.ok.0 in
    let e = c.seat_senders-desks.result.ok.0 in
    (omega (arith, long, a, b, d, e), omega (arith, long, a, b, d, e))

pub share-pass-requires-clause-numbers : goal.share-pass-requires-clause-numbers
share-pass-requires-clause-numbers g c = λ κs lives.
    let long = beside_length _ 0 c.args.hall.rows.items c.seat_senders-desks.result.items c.seat_senders-desks.ensures.desks in
    numbers_beside _ (λ desk. desk.number) c.args.hall.rows.items c.seat_senders-desks.result.items c.seat_senders-desks.result.len (λ place row desk is. is.0) c.seat_senders-desks.ensures.desks
    (sym long ∙ sym c.seat_senders-desks.result.ok.0)

pub share-pass-requires-clause-desks : goal.share-pass-requires-clause-desks
share-pass-requires-clause-desks g c = λ κs lives. all_from_each _ c.seat_senders-desks.result.items
    (all_beside (λ place row. IsRow (λ n. same n (place + 1)) [] [] c.args.hall.locks.items row.items)
    (λ place row desk. (desk.number ≡ place + 1) × (desk.row ≡ row) × (desk.refused ≡ None) × IsPassOf c.args.bench desk.pass × (view {T = Work} {V = Hand} desk.pass ≡ Rattle.senders.specs.Bench.hand 1 [] []))
    (λ desk. IsPassOf c.args.bench desk.pass × IsReady g.P.Terms.works c.as_slice.result.now desk.number (view {T = Work} {V = Hand} desk.pass) desk.row.items desk.refused)
    0 c.args.hall.rows.items c.seat_senders-desks.result.items
    (λ place row desk at is. (
      is.3,
      ready g.P.Terms.works c.as_slice.result.now place desk.number (view {T = Work} {V = Hand} desk.pass) desk.row.items desk.refused
          (subst (λ l. IsRow (λ n. same n (place + 1)) [] [] l desk.row.items) (sym c.as_slice.ensures.value)
          (subst (λ r. IsRow (λ n. same n (place + 1)) [] [] c.args.hall.locks.items r.items) (sym is.1) at)) is.0 is.2 is.4,
    )) c.requires.rows.2 c.seat_senders-desks.ensures.desks)

pub close_all-lanes-requires-clause-all : goal.close_all-lanes-requires-clause-all
close_all-lanes-requires-clause-all g c = λ κs lives.
    let long = beside_length _ 0 c.args.hall.rows.items c.seat_senders-desks.result.items c.seat_senders-desks.ensures.desks in
    let a = c.args.hall.rows.ok.0 in
    let b = c.seat_senders-desks.result.ok.0 in
    may_close g.T.DiskCalls.told g.T.DiskCalls.counts g.T.SiteCalls.port g.T.SiteCalls.lines g.P.Terms.batch c.args.hall.rows.len c.args.hall.locks.len c.args.work.items c.args.hall.locks.items
    c.args.hall.locks.ok.0 c.requires.locks c.requires.lanes _ c.share-pass.result.row.items c.share-pass.result.refused
    (desk_for g.P.Terms.works c.args.work.items c.seat_senders-desks.result.len c.args.hall.rows.len _ c.as_slice.result.now c.args.hall.locks.items c.share-pass.result.row.items c.share-pass.result.refused
    c.requires.terms.0 c.as_slice.ensures.value (omega (arith, long, a, b)) c.share-pass.ensures.desk)

pub unreachable-requires : goal.unreachable-requires
unreachable-requires g c =
    let long = beside_length _ 0 c.args.hall.rows.items c.seat_senders-desks.result.items c.seat_senders-desks.ensures.desks in
    let a = c.args.hall.rows.ok.0 in
    let b = c.seat_senders-desks.result.ok.0 in
    some_there c.share-pass.result.refused (sym c.is_some.ensures ∙ c.if-is_some.true)
    (unrefused g.T.DiskCalls.told g.T.DiskCalls.counts g.T.SiteCalls.port g.T.SiteCalls.lines g.P.Terms.batch c.args.hall.rows.len c.args.hall.locks.len c.args.work.items c.args.hall.locks.items
    c.args.hall.locks.ok.0 c.requires.locks c.requires.lanes (view {T = Work} {V = Hand} c.share-pass.result.pass).taken c.share-pass.result.row.items c.share-pass.result.refused
    (desk_for g.P.Terms.works c.args.work.items c.seat_senders-desks.result.len c.args.hall.rows.len _ c.as_slice.result.now c.args.hall.locks.items c.share-pass.result.row.items c.share-pass.result.refused
    c.requires.terms.0 c.as_slice.ensures.value (omega (arith, long, a, b)) c.share-pass.ensures.desk) c.close_all-lanes.result.items c.close_all-lanes.ensures.closed
    (λ h. ap (total h) (sym c.requires.terms.0) ∙ c.share-pass.ensures.whole h) (each_all (IsPiece g.P.Terms.batch c.args.hall.locks.len) c.args.work.items c.requires.pieces) c.requires.differ)

pub returns : goal.returns
returns g c =
    let long = beside_length _ 0 c.args.hall.rows.items c.seat_senders-desks.result.items c.seat_senders-desks.ensures.desks in
    let a = c.args.hall.rows.ok.0 in
    let b = c.seat_senders-desks.result.ok.0 in
    all_shared g.T.DiskCalls.told g.T.DiskCalls.counts g.T.SiteCalls.port g.T.SiteCalls.lines g.P.Terms.batch c.args.hall.rows.len c.args.hall.locks.len c.args.work.items c.args.hall.locks.items
    c.args.hall.locks.ok.0 c.requires.locks c.requires.lanes (view {T = Work} {V = Hand} c.share-pass.result.pass).taken c.share-pass.result.row.items c.share-pass.result.refused
    (desk_for g.P.Terms.works c.args.work.items c.seat_senders-desks.result.len c.args.hall.rows.len _ c.as_slice.result.now c.args.hall.locks.items c.share-pass.result.row.items c.share-pass.result.refused
    c.requires.terms.0 c.as_slice.ensures.value (omega (arith, long, a, b)) c.share-pass.ensures.desk) c.close_all-lanes.result.items c.close_all-lanes.ensures.closed
    (λ h. ap (total h) (sym c.requires.terms.0) ∙ c.share-pass.ensures.whole h) (each_all (IsPiece g.P.Terms.batch c.args.hall.locks.len) c.args.work.items c.requires.pieces) c.requires.differ
