use Rattle.std.proofs.Common.{subst, sym, IsTrue, ◌*◌}
use Rattle.senders.specs.Alone.{HasPolled}
use Rattle.senders.proofs.AloneLemmas.{alone_chain}
use Rattle.senders.proofs.StepLemmas.{on_ok, round_of}
use Rattle.senders.proofs.rounds.make_round.Goals as goal

pub returns-clause-alone : goal.returns-clause-alone
returns-clause-alone g c = alone_chain g.T.DiskCalls.told g.T.DiskCalls.counts g.T.SiteCalls.port g.T.SiteCalls.lines c.args.by c.args.place c.args.watch.now c.args.lane.now c.resend_if.new.lane c.poll_each.new.lane c.resend_if.ensures.alone c.poll_each.ensures.alone

pub returns-clause-round : goal.returns-clause-round
returns-clause-round g c =
    let first = c.resend_if.ensures.alone in
    let sent = c.in_ok-resend_if.ensures.sent in
    on_ok _ _ c.poll_each.result (λ h. (
      h.0,
      h.1,
      λ tells.
          round_of g.T.DiskCalls.told g.T.DiskCalls.counts g.T.SiteCalls.port g.T.SiteCalls.lines c.args.by c.args.place c.args.watch.now c.args.resends c.args.polls c.args.lane.now c.resend_if.new.lane c.poll_each.new.lane
          (alone_chain g.T.DiskCalls.told g.T.DiskCalls.counts g.T.SiteCalls.port g.T.SiteCalls.lines c.args.by c.args.place c.args.watch.now c.args.lane.now c.resend_if.new.lane c.poll_each.new.lane first c.poll_each.ensures.alone).settling
          (sent.2 tells) (subst (λ n. HasPolled g.T.DiskCalls.told g.T.DiskCalls.counts g.T.SiteCalls.port g.T.SiteCalls.lines c.args.place c.args.watch.now (c.args.polls * n) c.resend_if.new.lane c.poll_each.new.lane) c.count_due-unsettled.ensures
          (h.2 (subst IsTrue (sym first.later.later.tells) tells))),
    )) c.poll_each.ensures.polled
