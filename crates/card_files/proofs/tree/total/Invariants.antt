use Rattle.std.proofs.Common.{◌≡◌, ◌+◌}
use Rattle.std.specs.BTreeMap.{values}
use Rattle.card_files.specs.State.{total_of}
use Rattle.card_files.proofs.tree.total.Given as goal

-- What was added up so far, and the files that are left.
abbrev pub invariant-loop-file : goal.invariant-loop-file
invariant-loop-file l = l.total + total_of l.file-iterator ≡ total_of (values l.files)
