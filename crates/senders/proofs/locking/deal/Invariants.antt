use Rattle.std.proofs.Common.{◌≡◌, ◌∷◌, ◌++◌, [], Some, length}
use Rattle.std.specs.Prelude.{vec_capacity}
use Rattle.senders.proofs.LockingLemmas.{DealtFrom}
use Rattle.senders.proofs.locking.deal.Given as goal

abbrev pub invariant-loop-seat : goal.invariant-loop-seat
invariant-loop-seat g l = DealtFrom (λ old seat new. (vec_capacity new ≡ vec_capacity old) × (new.items ≡ old.items ++ Some seat ∷ [])) l.initial.rows l.initial.seats.items l.seats.len l.rows l.seats.items

abbrev pub decreases-loop-seat : goal.decreases-loop-seat
decreases-loop-seat g l = length l.seats.items
