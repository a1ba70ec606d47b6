use Rattle.counter_journal.specs.JournalLaws.{written_are_read}
use Rattle.counter_journal.proofs.laws.written_entries_are_read.Goals as goal

pub returns : goal.returns
returns c = λ lane lanes entries octets number. written_are_read lane lanes entries octets number
