use Rattle.std.proofs.Common.{◌∙◌, ap, sym, reverse}
use Rattle.std.proofs.lemmas.List.{reverse-reverse}
use Rattle.std.specs.Option.{option_map}
use Rattle.ota_core.specs.Entry.{facts_in}
use Rattle.ota_core.specs.History.{first_some}
use Rattle.keyset_book.proofs.AskedLemmas.{facts-is, facts-reverse}
use Rattle.keyset_book.proofs.books.Book.opened_facts.Goals as goal

pub returns : goal.returns
returns c = λ history stands. c.facts_with.ensures ∙ ap (option_map (λ known. known.facts)) (c.look.ensures ∙ stands.says.keysets c.args.keyset)
    ∙ facts-is c.args.keyset (reverse history) ∙ sym (facts-reverse c.args.keyset (reverse history) stands.legal) ∙ ap (first_some (facts_in c.args.keyset)) (reverse-reverse history)
