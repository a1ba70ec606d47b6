use Rattle.std.proofs.Common.{◌≡◌, sym, ap, ◌∙◌, arith}
use Rattle.std.specs.BTreeMap.{values}
use Rattle.std.specs.FinMap as map
use Rattle.file_records.specs.File.{size_of}
use Rattle.card_files.specs.State.{Tree, room_of, total_of}
use Rattle.card_files.proofs.RoomLemmas.{held-inserted, room-tree_of}
use Rattle.card_files.proofs.TreeLemmas.{tree_of-updated}
use Rattle.card_files.proofs.tree.Tree.insert.Goals as goal

pub returns-clause-ok : goal.returns-clause-ok
returns-clause-ok c = let h = c.in_ok-insert.ensures.updates in
    tree_of-updated c.self.inside.files.entries c.insert.new.self.entries c.args.path c.args.file h.0
    ∙ ap (λ (t : Tree). map.insert t c.args.path c.args.file) c.self.view_is

pub invariant_of-self-2 : goal.invariant_of-self-2
invariant_of-self-2 c =
    let es = c.self.inside.files.entries in
    let sorted = c.in_ok-insert.ensures.was_ordered in
    let grown = held-inserted es c.insert.new.self.entries c.args.self.now c.args.path c.args.file c.self.view_is c.requires.free sorted c.in_ok-insert.ensures.entries in
    let taken : c.self.inside.taken ≡ room_of c.args.self.now = c.self.invariant.0 ∙ sym (room-tree_of es sorted) ∙ ap room_of c.self.view_is in
    let size : c.size-size.result ≡ size_of c.args.file = c.size-size.ensures in
    let held : c.self.inside.taken ≡ total_of (values c.self.inside.files) = c.self.invariant.0 in
    let room = c.requires.room in
    (omega (arith, grown, size, held), omega (arith, taken, size, room))
