use Rattle.std.proofs.Common.{string_bytes}
use Rattle.reports.specs.Cards.{keyset_row}
use Rattle.reports.proofs.Rows.{one_row_more}
use Rattle.reports.proofs.cards.put_keysets.Goals as goal

pub loop-keyset-preserved : goal.loop-keyset-preserved
loop-keyset-preserved c =
    rw (c.in_ok-put_keyset.ensures)
    (one_row_more (keyset_row c.args.place c.args.lane.now) (string_bytes c.args.text.now) (string_bytes c.loop-keyset.text) c.args.keysets.now
    c.loop-keyset.keyset-index c.loop-keyset-item.result c.loop-keyset-test.true c.loop-keyset-item.is c.loop-keyset.invariant)
