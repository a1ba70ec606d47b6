use Rattle.std.proofs.Common.{◌≡◌, take}
use Rattle.air_sim.proofs.store_sites.copy_of.Given as goal

abbrev pub invariant-loop-listing : goal.invariant-loop-listing
invariant-loop-listing l = l.keysets ≡ take l.listing-index l.listing-items
