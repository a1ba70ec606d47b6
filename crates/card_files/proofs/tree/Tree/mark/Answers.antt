use Rattle.std.proofs.Common.{ℕ, List, sym, ap, ◌∙◌}
use Rattle.std.specs.BTreeMap.{BTreeMap}
use Rattle.file_records.specs.declared.file.File.{File}
use Rattle.file_records.specs.File.{marked}
use Rattle.card_files.proofs.RoomLemmas.{held-written}
use Rattle.card_files.proofs.TreeLemmas.{tree_of, found-in, lent, changed-none, changed-some}
use Rattle.card_files.proofs.tree.Tree.mark.Goals as goal

pub returns-in-None : goal.returns-in-None
returns-in-None c =
    let es = c.self.inside.files.entries in
    let path = c.args.path.now in (
      changed-none c.args.self.now path (marked c.args.active) (found-in es c.args.self.now path _ c.self.view_is c.in-None.ensures.value),
      ap (λ (m : BTreeMap (List ℕ) File). tree_of m.entries) c.get_mut.follows.holds-at-none ∙ c.self.view_is,
    )

pub returns : goal.returns
returns c =
    let old = c.self.inside.files in
    let path = c.args.path.now in
    let new = c.mark.new.self in
    changed-some c.mark.result c.args.self.now (tree_of (c.get_mut.follows.lender new).entries) path (marked c.args.active) c.in-Some.file.now new
    (found-in old.entries c.args.self.now path _ c.self.view_is c.in-Some.ensures.value)
    c.mark.ensures.made
    (lent old (c.get_mut.follows.lender new) c.args.self.now path c.in-Some.file.now new c.self.view_is c.in-Some.ensures.value (c.get_mut.follows.holds new))

pub invariant_of-self-2 : goal.invariant_of-self-2
invariant_of-self-2 c =
    let new = c.mark.new.self in
    let same = held-written c.self.inside.files (c.get_mut.follows.lender new) c.args.path.now c.in-Some.file.now new c.in-Some.ensures.value (c.get_mut.follows.holds new) c.mark.ensures.keeps.size in
    (c.self.invariant.0 ∙ sym same, c.self.invariant.1)
