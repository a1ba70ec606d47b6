use Rattle.std.proofs.Common.{◌<◌, sym, ap, subst, ◌∙◌}
use Rattle.std.specs.FinMap as map
use Rattle.card_files.specs.State.{Tree}
use Rattle.card_files.proofs.WithinLemmas.{stays, kept-removed, kept-all, fewer}
use Rattle.card_files.proofs.tree.Tree.remove.Goals as goal

pub loop-within-smaller : goal.loop-within-smaller
loop-within-smaller c =
    let P : Tree → Type 0 = λ t. map.len t < map.len c.loop-within.self in
    subst P (sym c.take.ensures) (fewer c.in-Some.within c.loop-within.self c.in-Some.ensures.there)

pub loop-within-preserved : goal.loop-within-preserved
loop-within-preserved c =
    ap (λ (t : Tree). map.retain_keys t (stays c.args.path.now)) c.take.ensures
    ∙ kept-removed c.args.path.now c.in-Some.within c.loop-within.self c.in-Some.ensures.found
    ∙ c.loop-within.invariant

pub returns : goal.returns
returns c = sym (kept-all c.args.path.now c.loop-within.self c.in_default.ensures.none) ∙ c.loop-within.invariant
