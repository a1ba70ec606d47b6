use Rattle.std.proofs.Common.{ℕ, List, true, ap, ◌∙◌}
use Rattle.file_records.specs.declared.file.File.{File}
use Rattle.card_files.specs.Fresh.{with_new}
use Rattle.card_files.proofs.RoomLemmas.{held-put}
use Rattle.card_files.proofs.TreeLemmas.{tree_of-updated, tree_of}
use Rattle.card_files.proofs.fresh.add.Goals as goal

pub returns-clause-room : goal.returns-clause-room
returns-clause-room c =
    let file : File = record { remote = c.args.remote; active = true; contents = c.args.contents } in
    held-put c.args.files.now.entries c.insert.new.self.entries c.read.result file c.in_ok-insert.ensures.was_ordered c.in_ok-insert.ensures.entries

pub returns-clause-added : goal.returns-clause-added
unfolding with_new
returns-clause-added c =
    let old = c.args.files.now.entries in
    let file : File = record { remote = c.args.remote; active = true; contents = c.args.contents } in
    tree_of-updated old c.insert.new.self.entries c.read.result file c.in_ok-insert.ensures.updates.0
    ∙ ap (λ (path : List ℕ). with_new (tree_of old) path c.args.remote c.args.contents) c.read.ensures
