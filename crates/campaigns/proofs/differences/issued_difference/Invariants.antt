use Rattle.std.proofs.Common.{◌≡◌, List, drop}
use Rattle.ota_core.specs.History.{first_some}
use Rattle.ota_core.specs.declared.entries.Entry.{Entry}
use Rattle.campaigns.specs.WorkList.{AreBooksOf}
use Rattle.campaigns.specs.Differences.{keyset_of_card}
use Rattle.campaigns.proofs.differences.issued_difference.Given as goal

abbrev pub invariant-loop-card : goal.invariant-loop-card
invariant-loop-card l = (histories : List (List Entry)) → AreBooksOf histories l.books
    → first_some (keyset_of_card histories) l.cards ≡ first_some (keyset_of_card histories) (drop l.card-index l.cards)
