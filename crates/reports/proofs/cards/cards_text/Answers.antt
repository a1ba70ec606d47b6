use Rattle.std.proofs.Common.{map, string_bytes}
use Rattle.reports.specs.Report.{entries_in}
use Rattle.reports.specs.Cards.{cards_header, card_rows}
use Rattle.reports.proofs.Rows.{one_row_more}
use Rattle.reports.proofs.cards.cards_text.Goals as goal

pub loop-card-preserved : goal.loop-card-preserved
loop-card-preserved c =
    rw (c.in_ok-put_card.ensures, c.of_card.ensures, c.in_ok-later.ensures, c.as_slice.ensures, c.deref.ensures.value, c.in_ok-lanes.ensures)
    (one_row_more (card_rows (map entries_in c.args.histories.now) c.args.plan.now.later) cards_header (string_bytes c.loop-card.text)
    c.as_slice-card-items.result.now c.loop-card.card-index c.card-item.result c.loop-card-test.true c.card-item.is c.loop-card.invariant)
