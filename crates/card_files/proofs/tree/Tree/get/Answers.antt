use Rattle.std.proofs.Common.{sym, ap, ◌∙◌}
use Rattle.std.specs.FinMap as map
use Rattle.card_files.specs.State.{Tree}
use Rattle.card_files.proofs.TreeLemmas.{get-tree_of}
use Rattle.card_files.proofs.tree.Tree.get.Goals as goal

pub returns : goal.returns
returns c =
    let es = c.self.inside.files.entries in
    c.get.ensures.value ∙ sym (get-tree_of es c.args.path.now) ∙ ap (λ (t : Tree). map.get t c.args.path.now) c.self.view_is
