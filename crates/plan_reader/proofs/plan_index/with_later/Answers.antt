use Rattle.std.proofs.Common.{◌≡◌, ap, sym, take}
use Rattle.std.proofs.lemmas.List.{take_more}
use Rattle.plan_reader.proofs.PlanIndexLemmas.{index-later, index-same}
use Rattle.plan_reader.proofs.plan_index.with_later.Goals as goal
use Rattle.plan_reader.proofs.plan_index.with_later.Goals.{in-Some+in_ok-insert, in_default}

pub loop-keyset-preserved : goal.loop-keyset-preserved
loop-keyset-preserved c =
    let later = c.as_slice-keyset-items.result.now in
    let done = take c.loop-keyset.keyset-index later in
    let put = c.loop-keyset-item.result in
    let number : c.keyset.inside.card.0 ≡ put.0.card.0 = ap (λ keyset. keyset.card.0) c.keyset.view_is in
    let kvn : c.keyset.inside.kvn ≡ put.0.kvn = ap (λ keyset. keyset.kvn) c.keyset.view_is in
    rw (take_more later c.loop-keyset.keyset-index put c.loop-keyset-test.true, ← c.loop-keyset-item.is)
    (elim c.match-get.branch [
      | in-Some+in_ok-insert w ↦
          rw w.listings-is
          (index-later c.args.plan.now done put c.loop-keyset.listings w.insert.new.self w.in-Some.listing.now w.with_keyset-more.result c.loop-keyset.invariant
          (sym (rw number at w.in-Some.ensures.value)) w.with_keyset-more.ensures.wide (rw kvn at w.with_keyset-more.ensures.kvns) (rw number at w.in_ok-insert.ensures.updates.0))
      | in_default w ↦
          rw w.listings-is (index-same c.args.plan.now done put c.loop-keyset.listings c.loop-keyset.invariant (sym (rw number at w.in_default.ensures.value)))
    ])
