use Rattle.std.proofs.Common.{◌≡◌, ◌++◌, take, string_bytes}
use Rattle.std.specs.List.{flat_map}
use Rattle.reports.specs.Cards.{keyset_row, issued_keyset}
use Rattle.reports.proofs.cards.put_issued.Given as goal

abbrev pub invariant-loop-kvn : goal.invariant-loop-kvn
invariant-loop-kvn l =
    string_bytes l.text
    ≡ string_bytes l.fn.text ++ flat_map (λ keyset. keyset_row l.place l.lane (issued_keyset l.card.card keyset)) (take l.kvn-index l.kvn-items)
