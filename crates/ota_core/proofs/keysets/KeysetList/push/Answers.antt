use Rattle.ota_core.proofs.KeysetListLemmas.{IsKeysetList-push}
use Rattle.ota_core.proofs.keysets.KeysetList.push.Goals as goal

pub invariant_of-self-2 : goal.invariant_of-self-2
invariant_of-self-2 c =
    rw c.in_ok-push.ensures.items
    (IsKeysetList-push _ _ _ c.self.invariant c.requires.above c.requires.below (rw (← c.self.view_is) at c.requires.new))
