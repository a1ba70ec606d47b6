use Rattle.counter_journal.proofs.MarkLaws.{first_run}
use Rattle.counter_journal.proofs.marks.go_on.Goals as goal

pub returns-in-First-clause-moments : goal.returns-in-First-clause-moments
returns-in-First-clause-moments g c = λ tells head parts was.
    first_run g.D.DiskCalls.told c.args.disk.now c.add_mark.new.disk head parts c.args.version c.in-First.is (c.add_mark.ensures.moments tells head parts was)
