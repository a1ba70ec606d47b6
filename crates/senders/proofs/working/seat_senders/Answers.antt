use Rattle.std.proofs.Common.{sym, subst}
use Rattle.lane_lock.specs.Numbers.{Each, IsIn}
use Rattle.senders.proofs.WorkingLemmas.{each_there}
use Rattle.senders.proofs.working.seat_senders.Goals as goal

pub put_all-requires-clause-pieces : goal.put_all-requires-clause-pieces
put_all-requires-clause-pieces g c = subst (λ l. Each (λ piece. IsIn piece l) c.args.work.items) (sym c.requires.terms) (each_there c.args.work.items)
