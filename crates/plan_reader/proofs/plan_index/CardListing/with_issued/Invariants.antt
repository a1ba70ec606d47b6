use Rattle.std.proofs.Common.{◌≡◌, ◌||◌, ℕ, false, take, get_or}
use Rattle.ota_core.specs.KeysetList.{has_kvn}
use Rattle.plan_reader.proofs.plan_index.CardListing.with_issued.Given as goal

abbrev pub invariant-loop-kvn : goal.invariant-loop-kvn
invariant-loop-kvn l =
    (l.listing.wide ≡ l.fn.self.wide)
    × ((kvn : ℕ) → get_or l.listing.kvns kvn false ≡ (get_or l.fn.self.kvns kvn false || has_kvn kvn (take l.kvn-index l.kvn-items)))
