use Rattle.std.proofs.Common.{◌∙◌, ap, reverse, is_some}
use Rattle.keyset_book.proofs.AskedLemmas.{reserved-is}
use Rattle.keyset_book.proofs.books.Book.has_reserve.Goals as goal

pub returns : goal.returns
returns c = λ history stands. c.is_some.ensures ∙ ap is_some (c.look.ensures ∙ stands.says.counters c.args.counter) ∙ reserved-is c.args.counter (reverse history)
