use Rattle.std.proofs.Common.{◌≡◌, ◌++◌, take, map, string_bytes}
use Rattle.std.specs.List.{flat_map}
use Rattle.reports.specs.Report.{entries_in}
use Rattle.reports.specs.Cards.{cards_header, card_rows}
use Rattle.reports.proofs.cards.cards_text.Given as goal

abbrev pub invariant-loop-card : goal.invariant-loop-card
invariant-loop-card l =
    string_bytes l.text ≡ cards_header ++ flat_map (card_rows (map entries_in l.histories) l.fn.plan.later) (take l.card-index l.card-items)
