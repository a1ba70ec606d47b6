use Rattle.std.proofs.Common.{◌≡◌, true}
use Rattle.card_store.proofs.tests.run.Given as goal

-- the store is ready as long as the disk answered no fault
abbrev pub invariant-loop : goal.invariant-loop
invariant-loop l = l.store.ready ≡ true
