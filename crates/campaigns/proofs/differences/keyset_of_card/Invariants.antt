use Rattle.std.proofs.Common.{◌≡◌, List, drop}
use Rattle.ota_core.specs.History.{first_some}
use Rattle.ota_core.specs.declared.entries.Entry.{Entry}
use Rattle.campaigns.specs.WorkList.{AreBooksOf}
use Rattle.campaigns.specs.Differences.{keyset_otherwise}
use Rattle.campaigns.proofs.differences.keyset_of_card.Given as goal

abbrev pub invariant-loop-kvn : goal.invariant-loop-kvn
invariant-loop-kvn l = (histories : List (List Entry)) → AreBooksOf histories l.books
    → first_some (keyset_otherwise histories l.card) l.kvn-items ≡ first_some (keyset_otherwise histories l.card) (drop l.kvn-index l.kvn-items)
