use Rattle.senders.specs.Desks.{IsJoined}
use Rattle.senders.proofs.RowLemmas.{UpTo}
use Rattle.senders.proofs.sharing.join_rows.Given as goal

abbrev pub invariant-loop-place : goal.invariant-loop-place
invariant-loop-place g l = UpTo (λ lock one other both. IsJoined lock one other both) l.locks l.initial.all.items l.initial.row.items l.place l.all.items l.row.items
