use Rattle.std.proofs.Common.{◌==◌, refl}
use Rattle.std.proofs.lemmas.List.Elements.{filter_more}
use Rattle.reports.proofs.later_keysets.by_card.Goals as goal

pub loop-keyset-preserved : goal.loop-keyset-preserved
loop-keyset-preserved c = λ card.
    rw (
      c.in_ok-put.ensures card,
      c.loop-keyset.invariant card,
      filter_more (λ listed. listed.0.card.0 == card.0) c.args.keysets.now c.loop-keyset.keyset-index c.loop-keyset-item.result c.loop-keyset-test.true,
      ← c.loop-keyset-item.is,
    ) refl
