use Rattle.std.proofs.Common.{ap, ◌∙◌, arith}
use Rattle.std.specs.FinMap as map
use Rattle.card_files.specs.State.{Tree}
use Rattle.card_files.proofs.RoomLemmas.{held-removed}
use Rattle.card_files.proofs.TreeLemmas.{tree_of-removed}
use Rattle.card_files.proofs.tree.Tree.take.Goals as goal

pub overflow_sub-self : goal.overflow_sub-self
overflow_sub-self c =
    let gone = held-removed c.self.inside.files.entries c.remove.new.self.entries c.args.self.now c.args.path.now c.self.view_is c.remove.ensures.entries in
    omega (arith, gone, c.size_at-size.ensures, c.self.invariant.0)

pub invariant_of-self : goal.invariant_of-self
invariant_of-self c =
    let gone = held-removed c.self.inside.files.entries c.remove.new.self.entries c.args.self.now c.args.path.now c.self.view_is c.remove.ensures.entries in
    (omega (arith, gone, c.size_at-size.ensures, c.self.invariant.0), omega (arith, c.self.invariant.1))

pub returns : goal.returns
returns c =
    tree_of-removed c.self.inside.files.entries c.remove.new.self.entries c.args.path.now c.remove.ensures.updates.0
    ∙ ap (λ (t : Tree). map.remove t c.args.path.now) c.self.view_is
