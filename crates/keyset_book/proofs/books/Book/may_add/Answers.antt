use Rattle.std.proofs.Common.{◌∙◌, reverse}
use Rattle.keyset_book.proofs.RuleLemmas.{first_rule-is}
use Rattle.keyset_book.proofs.books.Book.may_add.Goals as goal

pub returns : goal.returns
returns c = λ history stands. c.may_follow.ensures ∙ first_rule-is c.args.entry.now (reverse history) c.args.self.now stands.legal stands.says
