use Rattle.std.proofs.Common.{◌≡◌, ◌≤◌, ◌∙◌, ap, sym, false, true, Some, length, reverse}
use Rattle.std.specs.List.{list_any, position_or_len}
use Rattle.std.proofs.lemmas.List.{length-reverse, reverse-reverse}
use Rattle.ota_core.specs.Entry.{is_reserve_of}
use Rattle.keyset_book.proofs.PositionLemmas.{position-none, position-some, any-reverse}
use Rattle.keyset_book.proofs.books.Book.position.Goals as goal

pub returns-then-has_reserve : goal.returns-then-has_reserve
returns-then-has_reserve c = λ history stands short.
    let reserved : list_any (is_reserve_of c.args.counter) history ≡ true =
    sym (any-reverse (is_reserve_of c.args.counter) history) ∙ sym (c.has_reserve.ensures history stands) ∙ c.if-has_reserve.true in
    let here = position-some (is_reserve_of c.args.counter) history reserved in
    let counted : length (reverse history) ≤ 0xFFFF_FFFF_FFFF_FFFF = rw (length-reverse history) short in
    ap Some (c.position.ensures ∙ (stands.says.positions counted).positions c.args.counter (position_or_len (is_reserve_of c.args.counter) history) (rw (reverse-reverse history) here))
    ∙ sym here

pub returns : goal.returns
returns c = λ history stands short.
    let free : list_any (is_reserve_of c.args.counter) history ≡ false =
    sym (any-reverse (is_reserve_of c.args.counter) history) ∙ sym (c.has_reserve.ensures history stands) ∙ c.if-has_reserve.false in
    sym (position-none (is_reserve_of c.args.counter) history free)
