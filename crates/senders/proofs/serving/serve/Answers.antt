use Rattle.senders.proofs.ServingLemmas.{serves, serves_but, serves_not}
use Rattle.senders.proofs.serving.serve.Goals as goal

pub returns-in-Err : goal.returns-in-Err
returns-in-Err g c = λ pace paced home none.
    let e = c.in-Err.ensures in
    serves_not g.T.DiskCalls.told g.T.DiskCalls.counts g.T.SiteCalls.port g.T.SiteCalls.lines pace c.args.by c.now.result c.args.jobs.now c.args.lane.now home c.requires.no_end none c.requires.some
    c.requires.few paced c.requires.of_lane c.at.new.self c.reserve_and_send.new.self c.at.ensures c.stop.new.lane c.stop.result c.in-Err.error (record {
      answer = e.answer;
      added = e.added;
      sent = e.sent;
      only_added = e.only_added;
      unasked = e.unasked;
      cause = e.cause;
      later = e.later;
      kept = e.kept;
    }) c.stop.ensures

pub returns-in-Ok : goal.returns-in-Ok
returns-in-Ok g c = λ pace paced home none.
    let e = c.in_default.ensures in
    let p = c.in-Ok.ensures in
    serves g.T.DiskCalls.told g.T.DiskCalls.counts g.T.SiteCalls.port g.T.SiteCalls.lines pace c.args.by c.now.result c.args.jobs.now c.args.lane.now home c.requires.no_end none c.requires.some
    c.requires.few paced c.requires.of_lane c.at.new.self c.reserve_and_send.new.self c.at.ensures c.in_default.field-0 (record {
      answer = e.answer;
      added = e.added;
      sent = e.sent;
      only_added = e.only_added;
      unasked = e.unasked;
      cause = e.cause;
      later = e.later;
      kept = e.kept;
    }) c.now-2.result c.at-2.new.self c.poll_settle.new.self c.at-2.ensures c.in-Ok.field-0 (record {
      answer = p.answer;
      polled = p.polled;
      ports = p.told;
      cause = p.cause;
      later = p.later;
      kept = p.kept;
    })

pub returns-in-Err-poll_settle : goal.returns-in-Err-poll_settle
returns-in-Err-poll_settle g c = λ pace paced home none.
    let e = c.in_default.ensures in
    let p = c.in-Err-poll_settle.ensures in
    serves_but g.T.DiskCalls.told g.T.DiskCalls.counts g.T.SiteCalls.port g.T.SiteCalls.lines pace c.args.by c.now.result c.args.jobs.now c.args.lane.now home c.requires.no_end none c.requires.some
    c.requires.few paced c.requires.of_lane c.at.new.self c.reserve_and_send.new.self c.at.ensures c.in_default.field-0 (record {
      answer = e.answer;
      added = e.added;
      sent = e.sent;
      only_added = e.only_added;
      unasked = e.unasked;
      cause = e.cause;
      later = e.later;
      kept = e.kept;
    }) c.now-2.result c.at-2.new.self c.poll_settle.new.self c.at-2.ensures c.stop-in-Err-poll_settle.new.lane c.stop-in-Err-poll_settle.result c.in-Err-poll_settle.error (record {
      answer = p.answer;
      polled = p.polled;
      ports = p.told;
      cause = p.cause;
      later = p.later;
      kept = p.kept;
    }) c.stop-in-Err-poll_settle.ensures

pub reserve_and_send-requires-clause-of_lane : goal.reserve_and_send-requires-clause-of_lane
reserve_and_send-requires-clause-of_lane g c = Rattle.std.proofs.Common.subst
    (λ (l : Rattle.lane_engine.specs.LaneValue.LaneValue _). Rattle.std.proofs.Common.All (Rattle.lane_engine.specs.Reserving.IsJobOf l.journal.lane l.journal.lanes) c.args.jobs.now)
    (Rattle.std.proofs.Common.sym c.at.ensures) c.requires.of_lane
