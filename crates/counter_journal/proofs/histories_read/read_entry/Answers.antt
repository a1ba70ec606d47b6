use Rattle.std.proofs.Common.{arith}
use Rattle.counter_journal.proofs.HistoryLaws.{is_read_ok}
use Rattle.counter_journal.proofs.histories_read.read_entry.Goals as goal

pub returns : goal.returns
returns c = is_read_ok c.args.version c.args.part.now c.entry_in.result (λ i. omega (arith, c.type_inv.part i)) c.entry_in.ensures
