use Rattle.std.proofs.Common.{sym, subst, string_bytes}
use Rattle.std.proofs.lemmas.List.{take_all}
use Rattle.std.proofs.lemmas.List.Folds.{flat_map-map}
use Rattle.ota_core.specs.KeysetList.{IsKeysetList}
use Rattle.reports.specs.Cards.{keyset_row, issued_keyset}
use Rattle.reports.proofs.CardLemmas.{kvn_in_range}
use Rattle.reports.proofs.Rows.{one_row_more}
use Rattle.reports.proofs.cards.put_issued.Goals as goal

pub invariant_of-keyset : goal.invariant_of-keyset
invariant_of-keyset c =
    rw (c.loop-kvn-item.is)
    (kvn_in_range c.as_slice-kvn-items.result.now (subst IsKeysetList (sym c.as_slice-kvn-items.ensures.keysets) c.as_slice-kvn-items.ensures.distinct)
    c.loop-kvn.kvn-index c.loop-kvn-item.result c.loop-kvn-test.true)

pub loop-kvn-preserved : goal.loop-kvn-preserved
loop-kvn-preserved c =
    rw (c.in_ok-put_keyset.ensures)
    (one_row_more (λ keyset. keyset_row c.args.place c.args.lane.now (issued_keyset c.args.card.now.card keyset)) (string_bytes c.args.text.now)
    (string_bytes c.loop-kvn.text) c.as_slice-kvn-items.result.now c.loop-kvn.kvn-index c.loop-kvn-item.result c.loop-kvn-test.true c.loop-kvn-item.is c.loop-kvn.invariant)

pub returns : goal.returns
returns c =
    rw (
      flat_map-map (keyset_row c.args.place c.args.lane.now) (issued_keyset c.args.card.now.card) c.args.card.now.keysets,
      ← c.as_slice-kvn-items.ensures.keysets,
    )
    (rw (take_all c.loop-kvn.kvn-index c.as_slice-kvn-items.result.now c.loop-kvn-test.false) at c.loop-kvn.invariant)
