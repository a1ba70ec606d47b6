use Rattle.std.proofs.Common.{List, ap, length, subst, sym, ◌∙◌}
use Rattle.senders.specs.Alone.{HasSent}
use Rattle.senders.specs.Rounds.{departures_due, due_in}
use Rattle.senders.proofs.AloneLemmas.{alone_chain}
use Rattle.senders.proofs.StepLemmas.{alone_among, in_at, sent_more, take_whole}
use Rattle.senders.proofs.rounds.resend_all.Goals as goal

pub returns-in_err-resend_one-clause-alone : goal.returns-in_err-resend_one-clause-alone
returns-in_err-resend_one-clause-alone g c =
    let inv = c.loop-watched.invariant in
    alone_chain g.T.DiskCalls.told g.T.DiskCalls.counts g.T.SiteCalls.port g.T.SiteCalls.lines c.args.by c.args.place c.args.watch.now c.args.lane.now c.loop-watched.lane c.resend_one.new.lane inv.alone
    (alone_among g.T.DiskCalls.told g.T.DiskCalls.counts g.T.SiteCalls.port g.T.SiteCalls.lines c.args.by c.args.place c.args.watch.now _ c.loop-watched.lane c.resend_one.new.lane (in_at c.args.watch.now c.loop-watched.watched-index _ c.loop-watched-test.true) c.resend_one.ensures.alone)

pub loop-watched-preserved : goal.loop-watched-preserved
loop-watched-preserved g c =
    let inv = c.loop-watched.invariant in
    let sent = c.in_ok-resend_one.ensures.sent in
    record {
      alone = alone_chain g.T.DiskCalls.told g.T.DiskCalls.counts g.T.SiteCalls.port g.T.SiteCalls.lines c.args.by c.args.place c.args.watch.now c.args.lane.now c.loop-watched.lane c.resend_one.new.lane inv.alone
          (alone_among g.T.DiskCalls.told g.T.DiskCalls.counts g.T.SiteCalls.port g.T.SiteCalls.lines c.args.by c.args.place c.args.watch.now _ c.loop-watched.lane c.resend_one.new.lane (in_at c.args.watch.now c.loop-watched.watched-index _ c.loop-watched-test.true) c.resend_one.ensures.alone);
      entries = c.resend_one.ensures.entries ∙ inv.entries;
      live = sent.0;
      whole = sent.1;
      sent = λ tells. sent_more g.T.DiskCalls.told g.T.DiskCalls.counts g.T.SiteCalls.port g.T.SiteCalls.lines c.args.by c.args.place c.args.watch.now c.loop-watched.watched-index _ c.args.lane.now c.loop-watched.lane c.resend_one.new.lane c.loop-watched-test.true inv.entries (inv.sent tells)
          (sent.2 (subst Rattle.std.proofs.Common.IsTrue (sym inv.alone.later.later.tells) tells));
    }

pub returns-clause-sent : goal.returns-clause-sent
returns-clause-sent g c =
    let inv = c.loop-watched.invariant in (
      inv.live,
      inv.whole,
      λ tells. subst (λ l. HasSent g.T.DiskCalls.told g.T.DiskCalls.counts g.T.SiteCalls.port g.T.SiteCalls.lines (departures_due c.args.lane.now.journal.entries (due_in c.args.place l c.args.lane.now.journal.entries)) c.args.lane.now c.loop-watched.lane)
          (take_whole c.loop-watched.watched-index c.args.watch.now c.loop-watched-test.false) (inv.sent tells),
    )
