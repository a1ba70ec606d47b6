use denote.Param.{param}
use denote.Param.Send.{sendable}
use Rattle.std.proofs.Crossing as crossing
use Rattle.atomic_table.proofs.shared.Seat.TheSendSync.{the_send}
use Rattle.atomic_table.proofs.shared.Shared.TheSendSync.{the_sync}
use denote.Param.SendFields.{as_row_sync, declared_sync}
use Rattle.atomic_table.proofs.send_lease.SendLease.TheSendSync as lease
use Rattle.senders.proofs.CrossingLemmas.{lane_field_send, lane_send, lane_sync}
use Rattle.senders.proofs.sharing.run.Goals as goal

pub for_each_mut-requires-send-T : goal.for_each_mut-requires-send-T
for_each_mut-requires-send-T g c = λ κs lives.
    let l = lane_send (param 1 g.row.T) (param 5 g.row.T-Beside) (param 6 g.row.T-Choice) g.T.SiteCalls g.T.DiskCalls c.type_bounds.send-T in
    let f = lane_field_send (param 1 g.row.T) (param 5 g.row.T-Beside) (param 6 g.row.T-Choice) g.T.SiteCalls g.T.DiskCalls c.type_bounds.send-T in
    search (sendable, crossing.crosses, the_send) depth 60 fits 100000

pub for_each_mut-requires-sync-F : goal.for_each_mut-requires-sync-F
for_each_mut-requires-sync-F g c = λ κs _.
    let l = lane_send (param 1 g.row.T) (param 5 g.row.T-Beside) (param 6 g.row.T-Choice) g.T.SiteCalls g.T.DiskCalls c.type_bounds.send-T in
    let f = lane_field_send (param 1 g.row.T) (param 5 g.row.T-Beside) (param 6 g.row.T-Choice) g.T.SiteCalls g.T.DiskCalls c.type_bounds.send-T in
    let y = lane_sync (param 1 g.row.T) (param 5 g.row.T-Beside) (param 6 g.row.T-Choice) g.T.SiteCalls g.T.DiskCalls c.type_bounds.sync-T in
    let a = c.type_bounds.sync-P in
    let b = c.type_bounds.sync-G in
    let e = c.type_bounds.sync-C in
    let h = c.type_bounds.sync-R in
    search (sendable, crossing.crosses, the_send, the_sync, lease.the_sync, lease.the_send, declared_sync, as_row_sync) depth 100 fits 200000
