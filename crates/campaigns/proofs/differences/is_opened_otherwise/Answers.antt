use Rattle.std.proofs.Common.{◌+◌, ◌<◌, ◌||◌, Bool, List, [], length, get_or, drop, sym, ap, ◌∙◌, arith}
use Rattle.std.proofs.lemmas.List.{at_drop_more, at_drop_all}
use Rattle.std.specs.List.{list_any}
use Rattle.ota_core.specs.declared.entries.Entry.{Entry}
use Rattle.keyset_book.specs.Book.{StandsFor}
use Rattle.campaigns.specs.Differences.{opens_otherwise}
use Rattle.campaigns.proofs.RemainingLemmas.{as_many, book_at}
use Rattle.campaigns.proofs.differences.is_opened_otherwise.Goals as goal

pub returns-then-opens_otherwise : goal.returns-then-opens_otherwise
returns-then-opens_otherwise c = λ histories are.
    let test = λ (history : List Entry). list_any (opens_otherwise c.args.keyset c.args.facts.now) history in
    let i = c.loop-book.book-index in
    let many = as_many c.args.books.now histories are in
    let within : i < length histories = omega (arith, many, c.loop-book-test.true) in
    let stands : StandsFor c.book-item.result (get_or histories i []) = rw (c.book-item.is) (book_at c.args.books.now histories are i c.book-item.result c.loop-book-test.true) in
    sym (c.loop-book.invariant histories are ∙ at_drop_more (list_any test) histories i [] within
    ∙ ap (λ (b : Bool). b || list_any test (drop (i + 1) histories)) (sym (c.opens_otherwise.ensures (get_or histories i []) stands) ∙ c.if-opens_otherwise.true))

pub loop-book-preserved : goal.loop-book-preserved
loop-book-preserved c = λ histories are.
    let test = λ (history : List Entry). list_any (opens_otherwise c.args.keyset c.args.facts.now) history in
    let i = c.loop-book.book-index in
    let many = as_many c.args.books.now histories are in
    let within : i < length histories = omega (arith, many, c.loop-book-test.true) in
    let stands : StandsFor c.book-item.result (get_or histories i []) = rw (c.book-item.is) (book_at c.args.books.now histories are i c.book-item.result c.loop-book-test.true) in
    c.loop-book.invariant histories are ∙ at_drop_more (list_any test) histories i [] within
    ∙ ap (λ (b : Bool). b || list_any test (drop (i + 1) histories)) (sym (c.opens_otherwise.ensures (get_or histories i []) stands) ∙ c.if-opens_otherwise.false)

pub returns : goal.returns
returns c = λ histories are.
    let many = as_many c.args.books.now histories are in
    sym (c.loop-book.invariant histories are
    ∙ at_drop_all (list_any (λ (history : List Entry). list_any (opens_otherwise c.args.keyset c.args.facts.now) history)) histories c.loop-book.book-index (omega (arith, many, c.loop-book-test.false)))
