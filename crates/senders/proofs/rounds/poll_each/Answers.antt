use Rattle.std.proofs.Common.{inl, inr, ◌∙◌, arith, ⊎_elim}
use Rattle.std.proofs.lemmas.Result.{err_from_is_err_and}
use Rattle.senders.proofs.StepLemmas.{lt_or, none_after, none_due, polled_at, stopped_at}
use Rattle.senders.proofs.rounds.poll_each.Goals as goal

pub returns-then-next-watch-clause-polled : goal.returns-then-next-watch-clause-polled
returns-then-next-watch-clause-polled g c =
    let inv = c.loop.invariant in
    let last = c.if-next-watch.true in
    let few = c.loop.auto.counter-end in (
      inv.live,
      inv.whole,
      λ tells. record {
        sent = (inv.ports tells).0;
        count = c.loop.counter;
        asked = (inv.ports tells).1;
        enough = inr (
          omega (arith, few),
          none_due c.args.place c.loop.lane.journal.entries c.args.watch.now
              (λ k d lt. ⊎_elim (λ before. inv.none k d before) (λ from. c.next_due-next.ensures.none k d from (omega (arith, lt, last))) (lt_or k c.loop.next)),
        );
      },
    )

pub returns-in_err-poll_settle-clause-alone : goal.returns-in_err-poll_settle-clause-alone
returns-in_err-poll_settle-clause-alone g c =
    let inv = c.loop.invariant in
    let p = c.in_err-poll_settle.ensures in
    (stopped_at g.T.DiskCalls.told g.T.DiskCalls.counts g.T.SiteCalls.port g.T.SiteCalls.lines c.args.by c.args.place c.args.watch.now c.args.lane.now c.loop.lane c.at.new.self c.poll_settle.new.self c.now.result c.in_err-poll_settle.field-0.0 inv.alone inv.whole c.requires.may.0 inv.live c.at.ensures
    (record { answer = p.answer; polled = p.polled; ports = p.told; cause = p.cause; later = p.later; kept = p.kept })).0

pub returns-in_err-poll_settle-clause-stops : goal.returns-in_err-poll_settle-clause-stops
returns-in_err-poll_settle-clause-stops g c =
    let inv = c.loop.invariant in
    let p = c.in_err-poll_settle.ensures in
    let e = err_from_is_err_and c.from_residual.result c.from_residual.ensures.1 in
    rw (e.1, e.2)
    (stopped_at g.T.DiskCalls.told g.T.DiskCalls.counts g.T.SiteCalls.port g.T.SiteCalls.lines c.args.by c.args.place c.args.watch.now c.args.lane.now c.loop.lane c.at.new.self c.poll_settle.new.self c.now.result c.in_err-poll_settle.field-0.0 inv.alone inv.whole c.requires.may.0 inv.live c.at.ensures
    (record { answer = p.answer; polled = p.polled; ports = p.told; cause = p.cause; later = p.later; kept = p.kept })).1

pub loop-preserved : goal.loop-preserved
loop-preserved g c =
    let inv = c.loop.invariant in
    let p = c.in_ok-poll_settle.ensures in
    let at = polled_at g.T.DiskCalls.told g.T.DiskCalls.counts g.T.SiteCalls.port g.T.SiteCalls.lines c.args.by c.args.place c.args.watch.now c.args.lane.now c.loop.lane c.at.new.self c.poll_settle.new.self c.now.result c.in_ok-poll_settle.field-0 inv.alone inv.whole c.at.ensures
    (record { answer = p.answer; polled = p.polled; ports = p.told; cause = p.cause; later = p.later; kept = p.kept }) in
    record {
      alone = at.alone;
      live = at.live;
      whole = at.whole;
      within = c.next_due-next.ensures.within.1;
      none = none_after g.T.DiskCalls.told g.T.DiskCalls.counts g.T.SiteCalls.port g.T.SiteCalls.lines c.args.by c.args.place c.args.watch.now c.next_due-next.result c.loop.lane c.poll_settle.new.self at.settling
          (λ k d lt. ⊎_elim (λ before. inv.none k d before) (λ from. c.next_due-next.ensures.none k d from lt) (lt_or k c.loop.next));
      ports = λ tells. let a = inv.ports tells in let b = at.ports tells in (b.0 ∙ a.0, let x = a.1 in let y = b.1 in omega (arith, x, y));
    }

pub returns-clause-polled : goal.returns-clause-polled
returns-clause-polled g c =
    let inv = c.loop.invariant in
    let few = c.loop.auto.counter-end in
    let many = c.loop-test.false in (
      inv.live,
      inv.whole,
      λ tells. record { sent = (inv.ports tells).0; count = c.loop.counter; asked = (inv.ports tells).1; enough = inl (omega (arith, few, many)) },
    )
