use denote.Param.{param}
use Rattle.std.proofs.Common.{◌≡◌, ◌≤◌, ℕ, All, List, [], ◌∷◌, ◌++◌, length, refl, ap, subst, sym, ◌∙◌}
use Rattle.ota_core.specs.declared.jobs.Job.{Job}
use Rattle.lane_lock.specs.Grown.{MayLeave}
use Rattle.lane_lock.specs.Locks.{key_of, number_held, view_held, view_of}
use Rattle.lane_lock.specs.Meaning.{IsNoEarlier, shown}
use Rattle.lane_lock.specs.Views.{held_ticket, left, numbered}
use Rattle.lane_engine.specs.Keeping.{lane_meaning}
use Rattle.lane_engine.specs.Reserving.{IsJobOf, JobsDiffer}
use Rattle.senders.specs.Desks.{IsKnown, LaneView, WasRefused, put_in}
use Rattle.senders.specs.Served.{IsServed}
use Rattle.senders.proofs.CrossingLemmas.{sends, syncs}
use Rattle.senders.proofs.KnownLemmas.{held, may_leave, same_parts}
use Rattle.senders.proofs.rows.hold.Goals as goal

pub serve_open-refused-requires-clause-some : goal.serve_open-refused-requires-clause-some
serve_open-refused-requires-clause-some g c = λ κs lives. subst (λ (l : List Job). 1 ≤ length l) (sym c.as_slice.ensures) c.requires.piece.some

pub serve_open-refused-requires-clause-few : goal.serve_open-refused-requires-clause-few
serve_open-refused-requires-clause-few g c = λ κs lives. subst (λ (l : List Job). length l ≤ 16) (sym c.as_slice.ensures) c.requires.piece.few

pub serve_open-refused-requires-clause-differ : goal.serve_open-refused-requires-clause-differ
serve_open-refused-requires-clause-differ g c = λ κs lives. subst (λ (l : List Job). JobsDiffer l) (sym c.as_slice.ensures) c.requires.piece.differ

pub serve_open-refused-requires-clause-of_lane : goal.serve_open-refused-requires-clause-of_lane
serve_open-refused-requires-clause-of_lane g c = λ κs lives.
    let found = c.hold-held.ensures.found in
    subst (λ (l : List Job). All (IsJobOf c.hold-held.result.1.journal.lane c.hold-held.result.1.journal.lanes) l) (sym c.as_slice.ensures)
    (subst (λ (n : ℕ). All (IsJobOf c.hold-held.result.1.journal.lane n) c.args.piece.now.jobs) (sym found.later.later.lanes)
    (subst (λ (n : ℕ). All (IsJobOf n (put_in c.args.lock.now).journal.lanes) c.args.piece.now.jobs) (sym found.later.later.lane) c.requires.piece.of_lane))

pub leave-requires-clause-lane : goal.leave-requires-clause-lane
leave-requires-clause-lane g c = λ κs lives.
    let m = lane_meaning g.T.DiskCalls.told g.T.DiskCalls.counts g.T.SiteCalls.port g.T.SiteCalls.lines in
    let key = key_of c.args.lock.now in
    let lane = c.hold-held.result.1 in
    let new = c.serve_open-refused.new.lane in
    let refused = c.serve_open-refused.result in
    let by = c.number-by.result in
    subst (λ (v : LaneView _). MayLeave m key v (number_held c.hold-held.result.0) new) (sym c.hold-held.ensures.taken)
    (may_leave g.T.DiskCalls.told g.T.DiskCalls.counts g.T.SiteCalls.port g.T.SiteCalls.lines key (held_ticket (view_held c.hold-held.result.0).stage) (number_held c.hold-held.result.0)
    (view_of c.args.seat) lane c.hold-held.ensures.found by c.args.piece.now.jobs new refused c.serve_open-refused.ensures.ended
    (λ none. subst (λ (l : List Job). (lane.lost ≡ []) × IsServed g.T.DiskCalls.told g.T.DiskCalls.counts g.T.SiteCalls.port g.T.SiteCalls.lines key.pace by l lane new refused) c.as_slice.ensures
    (c.serve_open-refused.ensures.served key.pace none (subst (λ (l : List Job). length l ≤ key.pace) (sym c.as_slice.ensures) c.requires.piece.pace) c.hold-held.ensures.found.at_home))
    (c.number-by.ensures ∙ sym c.hold-held.ensures.number))

pub returns-clause-held : goal.returns-clause-held
returns-clause-held g c = λ numbers had undone at.
    let m = lane_meaning g.T.DiskCalls.told g.T.DiskCalls.counts g.T.SiteCalls.port g.T.SiteCalls.lines in
    let key = key_of c.args.lock.now in
    let put = put_in c.args.lock.now in
    let work = c.args.piece.now in
    let ticket = held_ticket (view_held c.hold-held.result.0).stage in
    let lane = c.hold-held.result.1 in
    let new = c.serve_open-refused.new.lane in
    let refused = c.serve_open-refused.result in
    let by = c.number-by.result in
    let number = c.args.seat.number in
    let v = view_of c.args.seat in
    let e = c.leave.ensures.left ∙ ap (left (shown m new)) c.hold-held.ensures.taken in
    let legal = c.serve_open-refused.ensures.legal in
    let was = c.hold-held.ensures.found in
    let h = held g.T.DiskCalls.told g.T.DiskCalls.counts g.T.SiteCalls.port g.T.SiteCalls.lines key ticket number work.lane had undone work refl v lane c.args.seat.led legal was at.2 by new refused
    c.serve_open-refused.ensures.ended
    (λ none. subst (λ (l : List Job). (lane.lost ≡ []) × IsServed g.T.DiskCalls.told g.T.DiskCalls.counts g.T.SiteCalls.port g.T.SiteCalls.lines key.pace by l lane new refused) c.as_slice.ensures
    (c.serve_open-refused.ensures.served key.pace none (subst (λ (l : List Job). length l ≤ key.pace) (sym c.as_slice.ensures) c.requires.piece.pace) was.at_home)) in
    record {
      after = h.after;
      follows = h.follows;
      later = subst (λ (w : LaneView _). IsNoEarlier v.seen w.seen) (sym e) h.later;
      known = (
        c.leave.ensures.of,
        (λ n. ap (λ (w : LaneView _). numbered n w.parts) e
            ∙ (same_parts g.T.DiskCalls.told g.T.DiskCalls.counts g.T.SiteCalls.port g.T.SiteCalls.lines key ticket number work.lane had undone work refl v lane c.args.seat.led legal was at.2 n new ∙ at.1 n)),
        subst (λ (w : LaneView _). IsKnown work.lane put (had ++ work ∷ []) h.after w) (sym e) h.known,
      );
      refusal = λ error is. let r = h.refusal error is in (r.0, subst (λ (w : LaneView _). WasRefused put w work) (sym e) r.1);
    }

pub number-by-requires-send-L : goal.number-by-requires-send-L
number-by-requires-send-L g c = λ κs lives. sends (param 0 g.row.T) (param 3 g.row.T-Beside) (param 4 g.row.T-Choice) g.T.SiteCalls g.T.DiskCalls _ c.type_bounds.send-T

pub number-by-requires-sync-L : goal.number-by-requires-sync-L
number-by-requires-sync-L g c = λ κs lives. syncs (param 0 g.row.T) (param 3 g.row.T-Beside) (param 4 g.row.T-Choice) g.T.SiteCalls g.T.DiskCalls _ c.type_bounds.sync-T

pub hold-held-requires-send-L : goal.hold-held-requires-send-L
hold-held-requires-send-L g c = λ κs lives. sends (param 0 g.row.T) (param 3 g.row.T-Beside) (param 4 g.row.T-Choice) g.T.SiteCalls g.T.DiskCalls _ c.type_bounds.send-T

pub hold-held-requires-sync-L : goal.hold-held-requires-sync-L
hold-held-requires-sync-L g c = λ κs lives. syncs (param 0 g.row.T) (param 3 g.row.T-Beside) (param 4 g.row.T-Choice) g.T.SiteCalls g.T.DiskCalls _ c.type_bounds.sync-T

pub leave-requires-send-L : goal.leave-requires-send-L
leave-requires-send-L g c = λ κs lives. sends (param 0 g.row.T) (param 3 g.row.T-Beside) (param 4 g.row.T-Choice) g.T.SiteCalls g.T.DiskCalls _ c.type_bounds.send-T

pub leave-requires-sync-L : goal.leave-requires-sync-L
leave-requires-sync-L g c = λ κs lives. syncs (param 0 g.row.T) (param 3 g.row.T-Beside) (param 4 g.row.T-Choice) g.T.SiteCalls g.T.DiskCalls _ c.type_bounds.sync-T
