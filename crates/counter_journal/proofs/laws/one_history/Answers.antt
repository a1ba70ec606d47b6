use Rattle.counter_journal.specs.JournalLaws as journal
use Rattle.counter_journal.proofs.laws.one_history.Goals as goal

pub returns : goal.returns
returns c = λ lane lanes a b octets. journal.one_history lane lanes a b octets
