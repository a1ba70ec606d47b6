use Rattle.std.proofs.Common.{◌∙◌, ap, reverse}
use Rattle.keyset_book.specs.Asked.{state_with}
use Rattle.keyset_book.proofs.AskedLemmas.{state-is}
use Rattle.keyset_book.proofs.books.Book.keyset_state.Goals as goal

pub returns : goal.returns
returns c = λ history stands. c.state_with.ensures ∙ ap state_with (c.look.ensures ∙ stands.says.keysets c.args.keyset) ∙ state-is c.args.keyset (reverse history)
