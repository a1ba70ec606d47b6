use Rattle.std.proofs.Common.{ap, length, ◌∙◌, arith}
use Rattle.senders.specs.Rounds.{due_in}
use Rattle.senders.proofs.StepLemmas.{count_step, take_whole}
use Rattle.senders.proofs.rounds.count_due.Goals as goal

pub loop-watched-preserved : goal.loop-watched-preserved
loop-watched-preserved g c =
    let inv = c.loop-watched.invariant in
    let b = inv.few in
    let e = c.one_due-count.ensures.few in
    record {
      count = count_step c.args.place c.args.lane.now.journal.entries c.args.watch.now c.loop-watched.watched-index _ c.loop-watched.count c.one_due-count.result c.loop-watched-test.true inv.count c.one_due-count.ensures.due;
      few = omega (arith, b, e);
    }

pub returns : goal.returns
returns g c =
    c.loop-watched.invariant.count ∙ ap (λ l. length (due_in c.args.place l c.args.lane.now.journal.entries)) (take_whole c.loop-watched.watched-index c.args.watch.now c.loop-watched-test.false)
