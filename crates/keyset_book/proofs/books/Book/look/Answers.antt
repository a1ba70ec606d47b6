use Rattle.std.proofs.Common.{◌∙◌, ap, reverse}
use Rattle.keyset_book.specs.Asked.{looked_after}
use Rattle.keyset_book.proofs.AskedLemmas.{looked-is}
use Rattle.keyset_book.proofs.books.Book.look.Goals as goal

pub returns : goal.returns
returns c = λ history stands. c.looked_after.ensures ∙ ap (looked_after c.args.self.now) (c.look.ensures ∙ stands.says.jobs c.args.job) ∙ looked-is c.args.job (reverse history) c.args.self.now stands.says
