use Rattle.std.proofs.Common.{add-one, refl, subst, sym, IsTrue, arith}
use Rattle.senders.specs.Rounds.{AreRounds}
use Rattle.senders.proofs.AloneLemmas.{alone_chain}
use Rattle.senders.proofs.StepLemmas.{rounds_more}
use Rattle.senders.proofs.rounds.try_rounds.Goals as goal

pub loop-init : goal.loop-init
loop-init g c =
    let one = c.in_ok-make_round.ensures.round in
    record {
      alone = c.make_round.ensures.alone;
      live = one.0;
      whole = one.1;
      rounds = λ tells. (c.make_round.new.lane, one.2 tells, refl);
    }

pub returns-in_err-make_round-2-clause-alone : goal.returns-in_err-make_round-2-clause-alone
returns-in_err-make_round-2-clause-alone g c =
    alone_chain g.T.DiskCalls.told g.T.DiskCalls.counts g.T.SiteCalls.port g.T.SiteCalls.lines c.args.by c.args.place c.args.watch.now c.args.lane.now c.loop.lane c.make_round-in-loop.new.lane c.loop.invariant.alone c.make_round-in-loop.ensures.alone

pub loop-preserved : goal.loop-preserved
loop-preserved g c =
    let inv = c.loop.invariant in
    let one = c.in_ok-make_round-2.ensures.round in
    record {
      alone = alone_chain g.T.DiskCalls.told g.T.DiskCalls.counts g.T.SiteCalls.port g.T.SiteCalls.lines c.args.by c.args.place c.args.watch.now c.args.lane.now c.loop.lane c.make_round-in-loop.new.lane inv.alone c.make_round-in-loop.ensures.alone;
      live = one.0;
      whole = one.1;
      rounds = λ tells.
          let before = inv.rounds tells in (
            before.0,
            before.1,
            subst (λ n. AreRounds g.T.DiskCalls.told g.T.SiteCalls.port g.T.SiteCalls.lines c.args.place c.args.by c.args.watch.now c.args.settings.now.polls n before.0 c.make_round-in-loop.new.lane)
                (sym (add-one c.loop.counter))
                (rounds_more g.T.DiskCalls.told g.T.DiskCalls.counts g.T.SiteCalls.port g.T.SiteCalls.lines c.args.by c.args.place c.args.watch.now c.args.settings.now.polls c.loop.counter before.0 c.loop.lane c.make_round-in-loop.new.lane before.2
                (one.2 (subst IsTrue (sym inv.alone.later.later.tells) tells))),
          );
    }

pub returns-clause-rounds : goal.returns-clause-rounds
returns-clause-rounds g c =
    let inv = c.loop.invariant in
    let few = c.loop.auto.counter-end in
    let many = c.loop-test.false in (
      inv.live,
      inv.whole,
      λ tells.
          let all = inv.rounds tells in (
            all.0,
            all.1,
            subst (λ n. AreRounds g.T.DiskCalls.told g.T.SiteCalls.port g.T.SiteCalls.lines c.args.place c.args.by c.args.watch.now c.args.settings.now.polls n all.0 c.loop.lane) (omega (arith, few, many)) all.2,
          ),
    )
