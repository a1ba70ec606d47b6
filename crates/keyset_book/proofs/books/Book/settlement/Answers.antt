use Rattle.std.proofs.Common.{◌∙◌, ap, reverse}
use Rattle.keyset_book.specs.Asked.{settled_with}
use Rattle.keyset_book.proofs.AskedLemmas.{settlement_by-is}
use Rattle.keyset_book.proofs.books.Book.settlement.Goals as goal

pub returns : goal.returns
returns c = λ history stands. c.settled_with.ensures ∙ ap settled_with (c.look.ensures ∙ stands.says.counters c.args.counter) ∙ settlement_by-is c.args.counter (reverse history) stands.legal
