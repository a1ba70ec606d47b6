use Rattle.std.proofs.Common.{◌≡◌, ◌-◌, ◌++◌, length, drop}
use Rattle.applet_registry.specs.Status.{load_file_entries, fitting}
use Rattle.applet_registry.proofs.status.of_load_files.Given as goal

-- The entries so far, and those of the load files that are left.
abbrev pub invariant-loop-file : goal.invariant-loop-file
invariant-loop-file l =
    l.out.items ++ fitting (256 - length l.out.items) (load_file_entries l.prefix (drop l.file-index l.files))
    ≡ fitting 256 (load_file_entries l.prefix l.files)
