use Rattle.std.proofs.Common.{◌≡◌, List, None, reverse}
use Rattle.ota_core.specs.History.{broken_batch}
use Rattle.ota_core.specs.declared.entries.Entry.{Entry}
use Rattle.keyset_book.specs.Book.{StandsFor, HasRoom}
use Rattle.keyset_book.proofs.BatchLemmas.{IsPut}
use Rattle.keyset_book.proofs.books.Book.put.Given as goal

abbrev pub invariant-loop-entry : goal.invariant-loop-entry
invariant-loop-entry l =
    ((history : List Entry) → StandsFor l.fn.self history → broken_batch (reverse history) l.entries ≡ None → IsPut history l.entries l.entry-index l.self)
    × HasRoom l.self l.entries
    × ((others : List Entry) → HasRoom l.fn.self others → HasRoom l.self others)
