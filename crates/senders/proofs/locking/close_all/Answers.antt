use Rattle.std.proofs.Common.{◌≡◌, ◌+◌, ◌<◌, ◌≤◌, ℕ, IsSomeAnd, None, [], ◌∷◌, drop, length, slice_index_or, ap, refl, sym, subst, ◌∙◌, arith}
use Rattle.std.specs.Vec.Iter.{into_iter_items}
use Rattle.lane_lock.specs.Grown.{HasAll}
use Rattle.lane_lock.specs.Locks.{IsOf, key_of, view_of}
use Rattle.senders.specs.Desks.{IsClosed}
use Rattle.senders.proofs.RowLemmas.{GivesTo, drop_head, gives_more, gives_none, seat_found}
use Rattle.senders.proofs.locking.close_all.Goals as goal

pub loop-lock-init : goal.loop-lock-init
loop-lock-init g c =
    let len = c.into_iter-left.ensures.len in
    let ok = c.args.locks.ok.0 in
    record {
      gives = subst (λ l. GivesTo (λ lock seat lane. IsClosed g.T.DiskCalls.told g.T.DiskCalls.counts g.T.SiteCalls.port g.T.SiteCalls.lines lock seat lane) c.args.locks.items c.args.row.items 0 l c.args.row.items c.args.lanes.items) (sym c.into_iter-left.ensures.rest)
          (subst (λ l. GivesTo (λ lock seat lane. IsClosed g.T.DiskCalls.told g.T.DiskCalls.counts g.T.SiteCalls.port g.T.SiteCalls.lines lock seat lane) c.args.locks.items c.args.row.items 0 c.args.locks.items c.args.row.items l) (sym c.requires.room.0) (gives_none (λ lock seat lane. IsClosed g.T.DiskCalls.told g.T.DiskCalls.counts g.T.SiteCalls.port g.T.SiteCalls.lines lock seat lane) c.args.locks.items c.args.row.items));
      room = c.requires.room.1;
      capacity = refl;
      rest = omega (arith, len, ok);
    }

pub close_one-requires-clause-all : goal.close_one-requires-clause-all
close_one-requires-clause-all g c = λ κs lives.
    let inv = c.loop-lock.invariant.gives in
    let d = drop_head c.args.locks.items c.loop-lock.place c.in-Some.lock (into_iter_items c.next.new.self) (sym inv.left_is ∙ c.in-Some.ensures.items) in
    let lt = d.0 in
    let same = c.requires.all.0 in
    let was = seat_found (λ lock seat lane. IsClosed g.T.DiskCalls.told g.T.DiskCalls.counts g.T.SiteCalls.port g.T.SiteCalls.lines lock seat lane) c.args.locks.items c.args.row.items c.loop-lock.place (into_iter_items c.loop-lock.left) c.loop-lock.row.items c.loop-lock.lanes.items c.index_mut.result.now inv (omega (arith, lt, same)) c.index_mut.ensures.value in
    subst (λ o. IsSomeAnd o (λ s. IsOf c.in-Some.lock s × HasAll (key_of c.in-Some.lock) (view_of s))) (sym (c.take.ensures.value ∙ was))
    (subst (λ l. IsSomeAnd (slice_index_or c.args.row.items c.loop-lock.place None) (λ s. IsOf l s × HasAll (key_of l) (view_of s))) (d.1 c.in-Some.lock)
    (c.requires.all.1 c.loop-lock.place c.in-Some.lock lt))

pub loop-lock-preserved : goal.loop-lock-preserved
loop-lock-preserved g c =
    let inv = c.loop-lock.invariant.gives in
    let d = drop_head c.args.locks.items c.loop-lock.place c.in-Some.lock (into_iter_items c.next.new.self) (sym inv.left_is ∙ c.in-Some.ensures.items) in
    let lt = d.0 in
    let same = c.requires.all.0 in
    let was = seat_found (λ lock seat lane. IsClosed g.T.DiskCalls.told g.T.DiskCalls.counts g.T.SiteCalls.port g.T.SiteCalls.lines lock seat lane) c.args.locks.items c.args.row.items c.loop-lock.place (into_iter_items c.loop-lock.left) c.loop-lock.row.items c.loop-lock.lanes.items c.index_mut.result.now inv (omega (arith, lt, same)) c.index_mut.ensures.value in
    let room = c.loop-lock.invariant.room in
    let kept = c.push_reserved.ensures.capacity in
    record {
      gives = subst (λ l. GivesTo (λ lock seat lane. IsClosed g.T.DiskCalls.told g.T.DiskCalls.counts g.T.SiteCalls.port g.T.SiteCalls.lines lock seat lane) c.args.locks.items c.args.row.items (c.loop-lock.place + 1) (into_iter_items c.next.new.self) (Rattle.std.proofs.Common.slice_set c.loop-lock.row.items c.loop-lock.place c.take.new.self) l) (sym c.push_reserved.ensures.items)
          (gives_more (λ lock seat lane. IsClosed g.T.DiskCalls.told g.T.DiskCalls.counts g.T.SiteCalls.port g.T.SiteCalls.lines lock seat lane) c.args.locks.items c.args.row.items c.loop-lock.place (into_iter_items c.loop-lock.left) (into_iter_items c.next.new.self) c.in-Some.lock c.loop-lock.row.items c.loop-lock.lanes.items c.take.new.self c.close_one.result inv c.in-Some.ensures.items
          (subst (λ o. IsClosed g.T.DiskCalls.told g.T.DiskCalls.counts g.T.SiteCalls.port g.T.SiteCalls.lines c.in-Some.lock o c.close_one.result) (c.take.ensures.value ∙ was) c.close_one.ensures));
      room = omega (arith, room, kept);
      capacity = kept ∙ c.loop-lock.invariant.capacity;
      rest = let left = c.loop-lock.invariant.rest in let one = c.in-Some.ensures.cases.1 in omega (arith, left, one);
    }

pub returns-clause-closed : goal.returns-clause-closed
returns-clause-closed g c =
    let inv = c.loop-lock.invariant.gives in
    let left = c.loop-lock.invariant.rest in
    let end = c.in_default.ensures.cases.0 in
    let count = inv.count in
    (omega (arith, left, end, count), λ place lock lane lt. inv.done place lock lane (omega (arith, lt, left, end)))
