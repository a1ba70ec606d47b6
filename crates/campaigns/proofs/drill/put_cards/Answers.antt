use Rattle.std.proofs.Common.{string_bytes}
use Rattle.campaigns.specs.Drill.{card_table}
use Rattle.campaigns.proofs.DrillLemmas.{one_line_more}
use Rattle.campaigns.proofs.drill.put_cards.Goals as goal

pub loop-before-preserved : goal.loop-before-preserved
loop-before-preserved c =
    rw (c.in_ok-put_card.ensures) (one_line_more card_table (string_bytes c.args.text.now) (string_bytes c.loop-before.text) c.loop-before.before c.loop-before.invariant)
