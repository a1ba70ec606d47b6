use Rattle.std.proofs.Common.{◌≡◌, [], ◌∷◌}
use Rattle.counter_journal.specs.EntryOctets.{MARK}
use Rattle.counter_journal.proofs.MarkLaws.{mark_put, added, marked_run}
use Rattle.counter_journal.proofs.marks.add_mark.Goals as goal

pub returns-in-Ok-clause-gone : goal.returns-in-Ok-clause-gone
returns-in-Ok-clause-gone g c =
    added g.D.DiskCalls.told c.args.disk.now c.append-appended.new.disk c.args.log c.append-appended.new.self c.put.new.self.parts
    (mark_put c.args.batch.now c.put.new.self c.requires.empty c.put.ensures) c.in-Ok.ensures.length c.in-Ok.ensures.answer
    c.in-Ok.ensures.clock c.in-Ok.ensures.settled c.in-Ok.ensures.content c.in-Ok.ensures.appended

pub returns-in-Ok-clause-moments : goal.returns-in-Ok-clause-moments
returns-in-Ok-clause-moments g c = λ tells head parts was.
    marked_run g.D.DiskCalls.told c.args.disk.now c.append-appended.new.disk head parts c.put.new.self.parts
    (mark_put c.args.batch.now c.put.new.self c.requires.empty c.put.ensures) (c.append-appended.ensures.moments tells head parts was)

pub returns-else-is_full-clause-moments : goal.returns-else-is_full-clause-moments
returns-else-is_full-clause-moments g c = λ tells head parts was.
    marked_run g.D.DiskCalls.told c.args.disk.now c.append-appended.new.disk head parts c.put.new.self.parts
    (mark_put c.args.batch.now c.put.new.self c.requires.empty c.put.ensures) (c.append-appended.ensures.moments tells head parts was)
