use Rattle.std.proofs.Common.{take}
use Rattle.plan_reader.specs.PlanPlaces.{IsIndexOf}
use Rattle.plan_reader.proofs.plan_index.with_later.Given as goal

abbrev pub invariant-loop-keyset : goal.invariant-loop-keyset
invariant-loop-keyset l = IsIndexOf (record l.plan { later = take l.keyset-index l.keyset-items }) l.listings
