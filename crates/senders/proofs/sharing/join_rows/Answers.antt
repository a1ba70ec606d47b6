use Rattle.std.proofs.Common.{IsSomeAnd, None, slice_index_or, sym, subst, ◌∙◌, arith}
use Rattle.lane_lock.specs.Locks.{IsOf}
use Rattle.senders.specs.Desks.{IsJoined}
use Rattle.senders.proofs.RowLemmas.{all_found, at_now, at_there, row_found, up_more, up_none}
use Rattle.senders.proofs.sharing.join_rows.Goals as goal

pub loop-place-init : goal.loop-place-init
loop-place-init g c = up_none _ _ _ _

pub index_mut-requires : goal.index_mut-requires
index_mut-requires g c =
    let lt = c.loop-place-test.true in
    let a = c.loop-place.invariant.row_length in
    let b = c.requires.seated.1.0 in
    let d = c.loop-place.row.ok.0 in
    omega (arith, lt, a, b, d)

pub index_mut-requires-in-Some : goal.index_mut-requires-in-Some
index_mut-requires-in-Some g c =
    let lt = c.loop-place-test.true in
    let a = c.loop-place.invariant.all_length in
    let b = c.requires.seated.0.0 in
    let d = c.loop-place.all.ok.0 in
    omega (arith, lt, a, b, d)

pub join_seat-requires-clause-of : goal.join_seat-requires-clause-of
join_seat-requires-clause-of g c = λ κs lives.
    let lt = c.loop-place-test.true in
    let inv = c.loop-place.invariant in
    let seated = c.requires.seated in
    let a = seated.0.0 in
    let b = seated.1.0 in (
      at_now (λ place lock seat. IsOf lock seat) c.args.locks.now c.args.all.now.items c.loop-place.place c.index-locks-place.result c.index_mut-in-Some.result.now lt c.index-locks-place.is seated.0
          (all_found (λ lock one other both. IsJoined lock one other both) c.args.locks.now c.args.all.now.items c.args.row.items c.loop-place.place c.loop-place.all.items c.loop-place.row.items c.index_mut-in-Some.result.now inv (omega (arith, lt, a)) c.index_mut-in-Some.ensures.value),
      subst (λ o. IsSomeAnd o (IsOf c.index-locks-place.result)) (sym c.take.ensures.value ∙ c.in-Some.is)
          (at_now (λ place lock seat. IsOf lock seat) c.args.locks.now c.args.row.items c.loop-place.place c.index-locks-place.result c.index_mut.result.now lt c.index-locks-place.is seated.1
          (row_found (λ lock one other both. IsJoined lock one other both) c.args.locks.now c.args.all.now.items c.args.row.items c.loop-place.place c.loop-place.all.items c.loop-place.row.items c.index_mut.result.now inv (omega (arith, lt, b)) c.index_mut.ensures.value)),
    )

pub unreachable-requires : goal.unreachable-requires
unreachable-requires g c =
    let lt = c.loop-place-test.true in
    let inv = c.loop-place.invariant in
    let seated = c.requires.seated in
    let a = seated.0.0 in
    let b = seated.1.0 in
    at_there (λ place lock seat. IsOf lock seat) c.args.locks.now c.args.row.items c.loop-place.place c.index_mut.result.now lt seated.1
    (row_found (λ lock one other both. IsJoined lock one other both) c.args.locks.now c.args.all.now.items c.args.row.items c.loop-place.place c.loop-place.all.items c.loop-place.row.items c.index_mut.result.now inv (omega (arith, lt, b)) c.index_mut.ensures.value)
    (sym c.take.ensures.value ∙ c.in-None.is)

pub loop-place-preserved : goal.loop-place-preserved
loop-place-preserved g c =
    let lt = c.loop-place-test.true in
    let inv = c.loop-place.invariant in
    let seated = c.requires.seated in
    let a = seated.0.0 in
    let b = seated.1.0 in
    up_more (λ lock one other both. IsJoined lock one other both) c.args.locks.now c.args.all.now.items c.args.row.items c.loop-place.place c.loop-place.all.items c.loop-place.row.items c.index-locks-place.result c.join_seat.new.seat c.take.new.self inv lt (omega (arith, lt, a)) c.index-locks-place.is
    (subst (λ o. IsJoined c.index-locks-place.result o (slice_index_or c.args.row.items c.loop-place.place None) c.join_seat.new.seat)
    (all_found (λ lock one other both. IsJoined lock one other both) c.args.locks.now c.args.all.now.items c.args.row.items c.loop-place.place c.loop-place.all.items c.loop-place.row.items c.index_mut-in-Some.result.now inv (omega (arith, lt, a)) c.index_mut-in-Some.ensures.value)
    (subst (λ o. IsJoined c.index-locks-place.result c.index_mut-in-Some.result.now o c.join_seat.new.seat)
    (sym (sym c.take.ensures.value ∙ c.in-Some.is)
    ∙ row_found (λ lock one other both. IsJoined lock one other both) c.args.locks.now c.args.all.now.items c.args.row.items c.loop-place.place c.loop-place.all.items c.loop-place.row.items c.index_mut.result.now inv (omega (arith, lt, b)) c.index_mut.ensures.value)
    c.join_seat.ensures))

pub returns : goal.returns
returns g c =
    let end = c.loop-place-test.false in
    record { joined = (c.loop-place.invariant.all_length, λ place lock below. c.loop-place.invariant.done place lock (omega (arith, end, below))) }
