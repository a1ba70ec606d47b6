use Rattle.std.proofs.Common.{◌≡◌, ◌+◌, ◌-◌, ◌^◌, ◌<◌, min, drop}
use Rattle.applet_registry.specs.State.{total_of}
use Rattle.applet_registry.proofs.load_file.total.Given as goal

-- What was added up so far, and the files that are left.
abbrev pub invariant-loop-file : goal.invariant-loop-file
invariant-loop-file l = record {
  fits : l.total < 2 ^ 64;
  sum : min (l.total + total_of (drop l.file-index l.files)) (2 ^ 64 - 1) ≡ min (total_of l.files) (2 ^ 64 - 1);
}
