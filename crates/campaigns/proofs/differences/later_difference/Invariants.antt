use Rattle.std.proofs.Common.{◌≡◌, List, drop}
use Rattle.ota_core.specs.History.{first_some}
use Rattle.ota_core.specs.declared.entries.Entry.{Entry}
use Rattle.campaigns.specs.WorkList.{AreBooksOf}
use Rattle.campaigns.specs.Differences.{later_otherwise}
use Rattle.campaigns.proofs.differences.later_difference.Given as goal

abbrev pub invariant-loop-keyset : goal.invariant-loop-keyset
invariant-loop-keyset l = (histories : List (List Entry)) → AreBooksOf histories l.books
    → first_some (later_otherwise histories) l.later ≡ first_some (later_otherwise histories) (drop l.keyset-index l.later)
