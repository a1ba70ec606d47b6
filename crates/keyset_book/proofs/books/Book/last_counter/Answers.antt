use Rattle.std.proofs.Common.{◌∙◌, ap, reverse}
use Rattle.std.specs.Option.{option_map}
use Rattle.keyset_book.proofs.AskedLemmas.{last-is}
use Rattle.keyset_book.proofs.books.Book.last_counter.Goals as goal

pub returns : goal.returns
returns c = λ history stands. c.last_with.ensures ∙ ap (option_map (λ known. known.last)) (c.look.ensures ∙ stands.says.keysets c.args.keyset)
    ∙ last-is c.args.keyset (reverse history) stands.legal
