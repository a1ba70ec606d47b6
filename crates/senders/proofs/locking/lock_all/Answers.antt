use Rattle.std.proofs.Common.{◌≡◌, ◌+◌, ◌<◌, ◌≤◌, ◌∷◌, ◌++◌, All, [], length, map, slice_index_or, ap, sym, subst, ◌∙◌, arith}
use Rattle.std.specs.Prelude.{vec_capacity, vec_len}
use Rattle.std.specs.Vec.Iter.{into_iter_items}
use Rattle.lane_lock.specs.Locks.{key_of}
use Rattle.lane_lock.specs.Numbers.{same, Each}
use Rattle.lane_lock.proofs.Counting.{Each_map}
use Rattle.senders.specs.Desks.{HasLock, IsRow, put_in}
use Rattle.senders.specs.Pieces.{EachBeside}
use Rattle.senders.specs.Worked.{IsUntouched}
use Rattle.senders.proofs.HeldLemmas.{written}
use Rattle.senders.proofs.LockingLemmas.{all_untouched, locks_more, locks_whole, next_at_home, rows_written}
use Rattle.senders.proofs.PlaceLemmas.{at_first}
use Rattle.senders.proofs.locking.lock_all.Goals as goal

pub lock_one-requires-clause-at_home : goal.lock_one-requires-clause-at_home
lock_one-requires-clause-at_home g c = λ κs lives.
    next_at_home g.T.DiskCalls.told g.T.DiskCalls.counts g.T.SiteCalls.port g.T.SiteCalls.lines c.args.pace c.loop-lane.hall.locks.items c.args.lanes.items (into_iter_items c.next.new.self) c.in-Some.lane
    (ap (λ l. map put_in c.loop-lane.hall.locks.items ++ l) (sym c.in-Some.ensures.items) ∙ c.loop-lane.invariant.whole) c.requires.lanes

pub lock_one-requires-clause-room : goal.lock_one-requires-clause-room
lock_one-requires-clause-room g c = λ κs lives.
    let inv = c.loop-lane.invariant in
    let rest = inv.rest in
    let room = inv.room in
    let one = c.in-Some.ensures.cases.1 in
    let ok = c.args.lanes.ok.0 in
    let locks = c.loop-lane.hall.locks.ok.0 in (
      omega (arith, rest, room, one, ok, locks),
      subst (All (λ row. vec_len row < vec_capacity row)) (sym c.as_mut_slice.ensures.value)
          (λ k d lt.
          let row = inv.rows k d lt in
          let wide = row.0 in
          let count = row.1.0 in
          let len = (slice_index_or c.loop-lane.hall.rows.items k d).ok.0 in
          omega (arith, rest, one, ok, wide, count, len)),
    )

pub unlock-requires-clause-rows : goal.unlock-requires-clause-rows
unlock-requires-clause-rows g c = λ κs lives. λ place row lt.
    let same_rows = c.in-Err.ensures.err.2 ∙ c.as_mut_slice.ensures.value in
    subst (λ l. IsRow (λ n. same n (place + 1)) [] [] c.lock_one.new.locks.items (slice_index_or l place row).items)
    (sym (written c.loop-lane.hall.rows.len c.lock_one.new.rows _ (ap length same_rows ∙ sym c.loop-lane.hall.rows.ok.0) ∙ same_rows))
    (subst (λ locks. IsRow (λ n. same n (place + 1)) [] [] locks.items (slice_index_or c.loop-lane.hall.rows.items place row).items) (sym c.in-Err.ensures.err.1)
    (c.loop-lane.invariant.rows place row (let ok = c.loop-lane.hall.rows.ok.0 in omega (arith, lt, ok))).1)

pub unlock-requires-clause-seats : goal.unlock-requires-clause-seats
unlock-requires-clause-seats g c = λ κs lives.
    subst (λ locks. Each (λ lock. (key_of lock).seats ≡ c.loop-lane.hall.rows.len) locks.items) (sym c.in-Err.ensures.err.1)
    (Each_map (λ lock. ((key_of lock).pace ≡ c.args.pace) × ((key_of lock).seats ≡ vec_len c.args.hall.rows)) (λ lock. (key_of lock).seats ≡ c.loop-lane.hall.rows.len) c.loop-lane.hall.locks.items
    (λ lock key. key.1 ∙ sym c.loop-lane.invariant.count) c.loop-lane.invariant.keys)

pub put_back-requires-clause-room : goal.put_back-requires-clause-room
put_back-requires-clause-room g c = λ κs lives.
    let inv = c.loop-lane.invariant in
    let rest = inv.rest in
    let room = inv.back_room in
    let one = c.in-Some.ensures.cases.1 in
    let ok = c.args.lanes.ok.0 in
    let kept = c.unlock.ensures.room in
    let count = c.unlock.ensures.count in
    let locks = ap vec_len c.in-Err.ensures.err.1 in
    let put = c.loop-lane.hall.locks.ok.0 in
    omega (arith, rest, room, one, ok, kept, count, locks, put)

pub returns-in-Err-clause-untouched : goal.returns-in-Err-clause-untouched
returns-in-Err-clause-untouched g c =
    let inv = c.loop-lane.invariant in
    let err = c.in-Err.ensures.err in
    subst (EachBeside (IsUntouched g.T.DiskCalls.told g.T.DiskCalls.counts g.T.SiteCalls.port g.T.SiteCalls.lines c.args.pace) 0 c.args.lanes.items)
    (sym (c.put_back.ensures ∙ ap (λ lane. c.unlock.result.items ++ lane ∷ into_iter_items c.next.new.self) err.0))
    (all_untouched g.T.DiskCalls.told g.T.DiskCalls.counts g.T.SiteCalls.port g.T.SiteCalls.lines c.args.pace c.loop-lane.hall.locks.items c.args.lanes.items c.unlock.result.items
    (c.in-Some.lane ∷ into_iter_items c.next.new.self) (ap (λ l. map put_in c.loop-lane.hall.locks.items ++ l) (sym c.in-Some.ensures.items) ∙ inv.whole) c.requires.lanes
    (subst (λ locks. EachBeside (IsUntouched g.T.DiskCalls.told g.T.DiskCalls.counts g.T.SiteCalls.port g.T.SiteCalls.lines c.args.pace) 0 (map put_in locks.items) c.unlock.result.items) err.1
    (c.unlock.ensures.untouched c.args.pace
    (subst (λ locks. Each (λ lock. (key_of lock).pace ≡ c.args.pace) locks.items) (sym err.1)
    (Each_map (λ lock. ((key_of lock).pace ≡ c.args.pace) × ((key_of lock).seats ≡ vec_len c.args.hall.rows)) (λ lock. (key_of lock).pace ≡ c.args.pace) c.loop-lane.hall.locks.items
    (λ lock key. key.0) inv.keys)))))

pub loop-lane-preserved : goal.loop-lane-preserved
loop-lane-preserved g c =
    let inv = c.loop-lane.invariant in
    let made = c.in_default-lock_one.ensures in
    let more = locks_more c.args.lanes.items (into_iter_items c.next.new.self) c.in-Some.lane c.args.pace (vec_len c.args.hall.rows) c.loop-lane.hall.locks.items c.lock_one.new.locks.items
    (subst (λ n. HasLock c.in-Some.lane c.args.pace n c.loop-lane.hall.locks.items c.lock_one.new.locks.items) (c.as_mut_slice.ensures.len ∙ inv.count) made.locks)
    (ap (λ l. map put_in c.loop-lane.hall.locks.items ++ l) (sym c.in-Some.ensures.items) ∙ inv.whole) inv.keys in
    let rest = inv.rest in
    let one = c.in-Some.ensures.cases.1 in
    let count = more.2 in
    let room = inv.room in
    let kept = made.room.0 in
    record {
      whole = more.0;
      rest = omega (arith, rest, one, count);
      keys = more.1;
      room = omega (arith, room, kept);
      count = inv.count;
      rows = rows_written (λ place row. (vec_len c.args.lanes ≤ vec_capacity row) × IsRow (λ n. same n (place + 1)) [] [] c.loop-lane.hall.locks.items row.items)
          (λ place row. (vec_len c.args.lanes ≤ vec_capacity row) × IsRow (λ n. same n (place + 1)) [] [] c.lock_one.new.locks.items row.items) c.loop-lane.hall.rows.len c.loop-lane.hall.rows.items
          c.as_mut_slice.result.now c.lock_one.new.rows _ c.as_mut_slice.ensures.value (made.room.1 ∙ c.as_mut_slice.ensures.len) made.room.1 inv.rows
          (λ place row lt before.
          let now = made.rows place row lt in
          let wide = before.0 in
          let same_wide = now.0 in
          (omega (arith, wide, same_wide), now.1 before.1));
      back = inv.back;
      back_room = inv.back_room;
    }

pub returns-clause-locks : goal.returns-clause-locks
returns-clause-locks g c =
    let inv = c.loop-lane.invariant in
    let rest = inv.rest in
    let end = c.in_default.ensures.cases.0 in
    (locks_whole c.loop-lane.hall.locks.items (into_iter_items c.loop-lane.lanes) c.args.lanes.items inv.whole (omega (arith, rest, end)), inv.keys)

pub returns-clause-rows : goal.returns-clause-rows
returns-clause-rows g c = (
  c.loop-lane.invariant.count,
  at_first (λ place row. IsRow (λ n. same n (place + 1)) [] [] c.loop-lane.hall.locks.items row.items) c.loop-lane.hall.rows.items (λ place row lt. (c.loop-lane.invariant.rows place row lt).1),
)
