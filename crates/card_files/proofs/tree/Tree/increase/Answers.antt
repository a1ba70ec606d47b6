use Rattle.std.proofs.Common.{ℕ, List, sym, ap, ◌∙◌}
use Rattle.std.specs.BTreeMap.{BTreeMap}
use Rattle.arrayvec.specs.ArrayVec.{ArrayVec}
use Rattle.file_records.specs.declared.file.File.{File}
use Rattle.file_records.specs.File.{increased}
use Rattle.card_files.proofs.RoomLemmas.{held-written}
use Rattle.card_files.proofs.TreeLemmas.{tree_of, found-in, lent, giving-none, giving-some}
use Rattle.card_files.proofs.tree.Tree.increase.Goals as goal

pub returns-in-None : goal.returns-in-None
returns-in-None c =
    let es = c.self.inside.files.entries in
    let path = c.args.path.now in (
      giving-none c.args.self.now path (λ (f : File). increased f c.args.by) (found-in es c.args.self.now path _ c.self.view_is c.in-None.ensures.value),
      ap (λ (m : BTreeMap (List ℕ) File). tree_of m.entries) c.get_mut.follows.holds-at-none ∙ c.self.view_is,
    )

pub returns : goal.returns
returns c =
    let old = c.self.inside.files in
    let path = c.args.path.now in
    let new = c.increase.new.self in
    giving-some (λ (row : ArrayVec ℕ). row.items) c.increase.result c.args.self.now (tree_of (c.get_mut.follows.lender new).entries) path (λ (f : File). increased f c.args.by) c.in-Some.file.now new
    (found-in old.entries c.args.self.now path _ c.self.view_is c.in-Some.ensures.value)
    c.increase.ensures.made
    (lent old (c.get_mut.follows.lender new) c.args.self.now path c.in-Some.file.now new c.self.view_is c.in-Some.ensures.value (c.get_mut.follows.holds new))

pub invariant_of-self-2 : goal.invariant_of-self-2
invariant_of-self-2 c =
    let new = c.increase.new.self in
    let same = held-written c.self.inside.files (c.get_mut.follows.lender new) c.args.path.now c.in-Some.file.now new c.in-Some.ensures.value (c.get_mut.follows.holds new) c.increase.ensures.keeps.size in
    (c.self.invariant.0 ∙ sym same, c.self.invariant.1)
