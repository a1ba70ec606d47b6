use Rattle.std.proofs.Common.{◌≡◌, ◌≤◌, false, subst, sym, take}
use Rattle.ota_core.specs.KeysetList.{IsKeysetList, has_kvn}
use Rattle.air_sim.proofs.FileLemmas.{keyset_at}
use Rattle.air_sim.proofs.store_sites.copy_of.Goals as goal

pub push-requires : goal.push-requires
push-requires c =
    let list = c.as_slice-listing-items.result.now in
    let index = c.loop-listing.listing-index in
    let item = c.listing-item.result in
    let may =
    subst (λ keyset. (1 ≤ keyset.0) × (keyset.0 ≤ 15) × (has_kvn keyset.0 (take index list) ≡ false)) (sym c.listing-item.is)
    (keyset_at list index item (subst IsKeysetList (sym c.as_slice-listing-items.ensures.keysets) c.as_slice-listing-items.ensures.distinct) c.loop-listing-test.true) in
    record { above = may.0; below = may.1; new = subst (λ keysets. has_kvn item.0 keysets ≡ false) (sym c.loop-listing.invariant) may.2 }
