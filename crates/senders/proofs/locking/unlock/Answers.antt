use Rattle.std.proofs.Common.{◌≡◌, ◌+◌, [], length, ap, sym, subst, ◌∙◌, arith}
use Rattle.lane_lock.specs.Locks.{key_of}
use Rattle.lane_lock.specs.Numbers.{same, within, Each}
use Rattle.senders.specs.Desks.{IsRow, IsSeated}
use Rattle.senders.proofs.HeldLemmas.{rows_joined}
use Rattle.senders.proofs.LockingLemmas.{closed_untouched, last_number, number_before, row_closes, row_numbers, row_seated}
use Rattle.senders.proofs.PlaceLemmas.{front_count, place_front, place_last}
use Rattle.senders.proofs.locking.unlock.Goals as goal

pub loop-row-init : goal.loop-row-init
loop-row-init g c =
    let front = c.pop.new.self.items in
    let whole = c.args.hall.rows.items in
    let splits = c.in-Some.ensures.items in
    let count = front_count front whole c.in-Some.last splits in
    let ok = c.args.hall.rows.ok.0 in
    record {
      most = omega (arith, count);
      all = row_numbers (λ n. same n (length front + 1)) (within (length front + 1) (length whole + 1)) [] [] c.args.hall.locks.items c.in-Some.last.items (λ n. last_number (length whole) (length front) n count)
          (place_last (λ place row. IsRow (λ n. same n (place + 1)) [] [] c.args.hall.locks.items row.items) front whole c.in-Some.last splits (λ place row lt. c.requires.rows place row (omega (arith, lt, ok))));
      rows = place_front (λ place row. IsRow (λ n. same n (place + 1)) [] [] c.args.hall.locks.items row.items) front whole c.in-Some.last splits (λ place row lt. c.requires.rows place row (omega (arith, lt, ok)));
    }

pub join_rows-requires-clause-seated : goal.join_rows-requires-clause-seated
join_rows-requires-clause-seated g c = λ κs lives.
    let inv = c.loop-row.invariant in
    let last = place_last (λ place row. IsRow (λ n. same n (place + 1)) [] [] c.args.hall.locks.items row.items) c.pop-in-loop-row.new.self.items c.loop-row.rows.items c.in-Some-pop.row c.in-Some-pop.ensures.items inv.rows in (
      subst (λ l. IsSeated l c.loop-row.all.items) (sym c.as_slice.ensures.value) (row_seated _ [] [] c.args.hall.locks.items c.loop-row.all.items inv.all),
      subst (λ l. IsSeated l c.in-Some-pop.row.items) (sym c.as_slice.ensures.value) (row_seated _ [] [] c.args.hall.locks.items c.in-Some-pop.row.items last),
    )

pub loop-row-preserved : goal.loop-row-preserved
loop-row-preserved g c =
    let inv = c.loop-row.invariant in
    let front = c.pop-in-loop-row.new.self.items in
    let before = c.loop-row.rows.items in
    let senders = length c.args.hall.rows.items in
    let splits = c.in-Some-pop.ensures.items in
    let count = front_count front before c.in-Some-pop.row splits in
    let most = inv.most in
    let last = place_last (λ place row. IsRow (λ n. same n (place + 1)) [] [] c.args.hall.locks.items row.items) front before c.in-Some-pop.row splits inv.rows in
    record {
      most = omega (arith, most, count);
      all = row_numbers (λ n. within (length before + 1) (senders + 1) n + same n (length front + 1)) (within (length front + 1) (senders + 1)) [] [] c.args.hall.locks.items c.join_rows.new.all.items
          (λ n. ap (λ m. within (m + 1) (senders + 1) n + same n (length front + 1)) (sym count) ∙ number_before senders (length front) n (omega (arith, most, count)))
          (rows_joined (within (length before + 1) (senders + 1)) (λ n. same n (length front + 1)) [] [] [] [] c.args.hall.locks.items c.loop-row.all.items c.in-Some-pop.row.items c.join_rows.new.all.items inv.all last
          (subst (λ l. Rattle.senders.specs.Desks.AreJoined l c.loop-row.all.items c.in-Some-pop.row.items c.join_rows.new.all.items) c.as_slice.ensures.value c.join_rows.ensures.joined));
      rows = place_front (λ place row. IsRow (λ n. same n (place + 1)) [] [] c.args.hall.locks.items row.items) front before c.in-Some-pop.row splits inv.rows;
    }

pub close_all-requires-clause-all : goal.close_all-requires-clause-all
close_all-requires-clause-all g c = λ κs lives.
    let end = c.in_default.ensures.cases.0 in
    let ok = c.loop-row.rows.ok.0 in
    let none : length c.loop-row.rows.items ≡ 0 = omega (arith, end, ok) in
    row_closes (length c.args.hall.rows.items) [] [] c.args.hall.locks.items c.loop-row.all.items
    (subst (λ m. Each (λ lock. (key_of lock).seats ≡ m) c.args.hall.locks.items) c.args.hall.rows.ok.0 c.requires.seats)
    (subst (λ m. IsRow (within (m + 1) (length c.args.hall.rows.items + 1)) [] [] c.args.hall.locks.items c.loop-row.all.items) none c.loop-row.invariant.all)

pub returns-clause-untouched : goal.returns-clause-untouched
returns-clause-untouched g c = λ pace paced.
    closed_untouched g.T.DiskCalls.told g.T.DiskCalls.counts g.T.SiteCalls.port g.T.SiteCalls.lines _ [] pace c.args.hall.locks.items c.loop-row.all.items c.close_all.result.items paced c.loop-row.invariant.all c.close_all.ensures.closed

pub returns-clause-count : goal.returns-clause-count
returns-clause-count g c = c.close_all.result.ok.0 ∙ (c.close_all.ensures.closed.0 ∙ sym c.args.hall.locks.ok.0)
