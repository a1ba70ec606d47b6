use Rattle.std.proofs.Common.{sym, subst}
use Rattle.counter_journal.specs.HistoryReading.{IsRead}
use Rattle.counter_journal.proofs.HistoryLaws.{bad_entry, good_entry}
use Rattle.counter_journal.proofs.histories_read.next_entry.Goals as goal

pub returns-then-not-belongs : goal.returns-then-not-belongs
returns-then-not-belongs c = λ history stands.
    bad_entry c.args.lane c.args.lanes history c.args.version c.args.part.now c.in-Some.entry
    (subst (IsRead c.args.version c.args.part.now) c.in-Some.is c.in_ok-read_entry.ensures) (sym (c.if-not-belongs.ensures history stands))

pub returns-else-not-belongs : goal.returns-else-not-belongs
returns-else-not-belongs c = λ history stands.
    good_entry c.args.lane c.args.lanes history c.args.version c.args.part.now c.in-Some.entry
    (subst (IsRead c.args.version c.args.part.now) c.in-Some.is c.in_ok-read_entry.ensures) (sym (c.if-not-belongs.ensures history stands))
