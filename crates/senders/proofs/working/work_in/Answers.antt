use Rattle.std.proofs.Common.{◌≡◌, ◌+◌, ◌<◌, ◌≤◌, sym, ap, ◌∙◌, arith}
use Rattle.senders.proofs.WorkingLemmas.{all_home, all_worked, locks_as, locks_count, may_alone, may_as, pieces_as, shared_as}
use Rattle.senders.proofs.PlaceLemmas.{beside_length}
use Rattle.senders.proofs.working.work_in.Goals as goal

pub lock_all-requires-clause-lanes : goal.lock_all-requires-clause-lanes
lock_all-requires-clause-lanes g c = λ κs lives.
    all_home g.T.DiskCalls.told g.T.DiskCalls.counts g.T.SiteCalls.port g.T.SiteCalls.lines c.args.settings.now.batch c.args.lanes.len c.args.work.items 0 c.args.lanes.items c.requires.lanes

pub work_shared-lanes-requires-clause-locks : goal.work_shared-lanes-requires-clause-locks
work_shared-lanes-requires-clause-locks g c = λ κs lives.
    locks_as c.in-Ok.hall.locks.items c.args.settings.now.batch g.P.Terms.batch c.args.room.hall.rows.len c.in-Ok.hall.rows.len (sym c.requires.terms.1) (sym c.in-Ok.ensures.rows.0) c.in-Ok.ensures.locks.1

pub work_shared-lanes-requires-clause-back : goal.work_shared-lanes-requires-clause-back
work_shared-lanes-requires-clause-back g c = λ κs lives.
    let count = locks_count c.in-Ok.hall.locks.items c.args.lanes.items c.in-Ok.hall.locks.len c.args.lanes.len c.in-Ok.hall.locks.ok.0 c.args.lanes.ok.0 c.in-Ok.ensures.locks.0 in
    let room = c.in-Ok.ensures.back.1 in
    (c.in-Ok.ensures.back.0, omega (arith, count, room))

pub work_shared-lanes-requires-clause-lanes : goal.work_shared-lanes-requires-clause-lanes
work_shared-lanes-requires-clause-lanes g c = λ κs lives.
    may_as g.T.DiskCalls.told g.T.DiskCalls.counts g.T.SiteCalls.port g.T.SiteCalls.lines c.args.work.items c.args.settings.now.batch g.P.Terms.batch c.args.lanes.len c.in-Ok.hall.locks.len
    c.args.lanes.items _ c.requires.terms.1
    (locks_count c.in-Ok.hall.locks.items c.args.lanes.items c.in-Ok.hall.locks.len c.args.lanes.len c.in-Ok.hall.locks.ok.0 c.args.lanes.ok.0 c.in-Ok.ensures.locks.0) c.in-Ok.ensures.locks.0 c.requires.lanes

pub work_shared-lanes-requires-clause-pieces : goal.work_shared-lanes-requires-clause-pieces
work_shared-lanes-requires-clause-pieces g c = λ κs lives.
    pieces_as c.args.work.items c.args.settings.now.batch g.P.Terms.batch c.in-Ok.hall.locks.len c.args.lanes.len c.requires.terms.1
    (locks_count c.in-Ok.hall.locks.items c.args.lanes.items c.in-Ok.hall.locks.len c.args.lanes.len c.in-Ok.hall.locks.ok.0 c.args.lanes.ok.0 c.in-Ok.ensures.locks.0) c.requires.pieces

pub work_apart-requires-clause-may : goal.work_apart-requires-clause-may
work_apart-requires-clause-may g c = λ κs lives.
    may_alone g.T.DiskCalls.told g.T.DiskCalls.counts g.T.SiteCalls.port g.T.SiteCalls.lines g.P.Terms.batch c.in-Ok.hall.rows.len c.args.work.items 0 _ c.work_shared-lanes.result.items
    c.work_shared-lanes.ensures

pub work_apart-requires-clause-room : goal.work_apart-requires-clause-room
work_apart-requires-clause-room g c = λ κs lives.
    let shared = beside_length _ 0 _ c.work_shared-lanes.result.items c.work_shared-lanes.ensures in
    let lanes = ap Rattle.std.proofs.Common.length c.in-Ok.ensures.locks.0 in
    let ok = c.work_shared-lanes.result.ok.0 in
    let count = c.args.lanes.ok.0 in
    let room = c.requires.ends.1 in
    (c.requires.ends.0, omega (arith, shared, lanes, ok, count, room))

pub returns-in-Ok-clause-worked : goal.returns-in-Ok-clause-worked
returns-in-Ok-clause-worked g c =
    all_worked g.T.DiskCalls.told g.T.DiskCalls.counts g.T.SiteCalls.port g.T.SiteCalls.lines c.args.settings.now c.args.work.items c.args.watch.now c.args.lanes.items c.work_shared-lanes.result.items
    c.work_apart.result.lanes.items c.requires.senders.0
    (shared_as g.T.DiskCalls.told g.T.DiskCalls.counts g.T.SiteCalls.port g.T.SiteCalls.lines c.args.work.items g.P.Terms.batch c.args.settings.now.batch c.in-Ok.hall.rows.len c.args.settings.now.senders
    _ c.args.lanes.items c.work_shared-lanes.result.items c.requires.terms.1 (c.in-Ok.ensures.rows.0 ∙ c.requires.hall.2) c.in-Ok.ensures.locks.0 c.work_shared-lanes.ensures)
    c.work_apart.ensures.same c.work_apart.ensures.alone
