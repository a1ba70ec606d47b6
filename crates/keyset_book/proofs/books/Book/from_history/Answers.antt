use Rattle.std.proofs.Common.{[]}
use Rattle.keyset_book.proofs.BatchLemmas.{legal-whole}
use Rattle.keyset_book.proofs.books.Book.from_history.Goals as goal

pub returns : goal.returns
returns c = rw c.entries.ensures.entries at (c.in_ok-apply.ensures.ok [] c.new-book.ensures (legal-whole c.entries.result.now (rw c.entries.ensures.entries c.entries.ensures.legal)))
