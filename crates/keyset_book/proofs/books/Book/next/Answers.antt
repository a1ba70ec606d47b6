use Rattle.std.proofs.Common.{◌∙◌, ap, reverse}
use Rattle.keyset_book.specs.Asked.{next_after}
use Rattle.keyset_book.proofs.AskedLemmas.{next-is}
use Rattle.keyset_book.proofs.books.Book.next.Goals as goal

pub returns : goal.returns
returns c = λ history stands. c.next_after.ensures ∙ ap next_after (c.look.ensures ∙ stands.says.keysets c.args.keyset) ∙ next-is c.args.keyset (reverse history)
