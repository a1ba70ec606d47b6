use Rattle.std.proofs.Common.{◌≡◌, List, drop}
use Rattle.ota_core.specs.declared.entries.Entry.{Entry}
use Rattle.campaigns.specs.WorkList.{AreBooksOf}
use Rattle.campaigns.specs.Differences.{is_opened_otherwise}
use Rattle.campaigns.proofs.differences.is_opened_otherwise.Given as goal

abbrev pub invariant-loop-book : goal.invariant-loop-book
invariant-loop-book l = (histories : List (List Entry)) → AreBooksOf histories l.books
    → is_opened_otherwise histories l.keyset l.facts ≡ is_opened_otherwise (drop l.book-index histories) l.keyset l.facts
