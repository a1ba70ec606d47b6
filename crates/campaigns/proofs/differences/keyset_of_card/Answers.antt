use Rattle.std.proofs.Common.{sym, subst}
use Rattle.ota_core.specs.KeysetList.{IsKeysetList}
use Rattle.campaigns.proofs.DifferenceLemmas.{kvn_in_range}
use Rattle.campaigns.proofs.differences.keyset_of_card.Goals as goal

pub invariant_of-keyset : goal.invariant_of-keyset
invariant_of-keyset c =
    let keyset = c.loop-kvn-item.result in
    rw (c.loop-kvn-item.is) (kvn_in_range c.as_slice-kvn-items.result.now (subst IsKeysetList (sym c.as_slice-kvn-items.ensures.keysets) c.as_slice-kvn-items.ensures.distinct) c.loop-kvn.kvn-index keyset c.loop-kvn-test.true)
