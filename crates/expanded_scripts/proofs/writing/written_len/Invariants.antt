use Rattle.std.proofs.Common.{◌≡◌, ◌*◌, ◌≤◌, length, take, flat_map}
use Rattle.expanded_scripts.specs.Written.{element}
use Rattle.expanded_scripts.proofs.writing.written_len.Given as goal

-- The first commands were counted.
abbrev pub invariant-loop-command : goal.invariant-loop-command
invariant-loop-command l = record {
  len : l.children ≡ length (flat_map (element 0x22) (take l.command-index l.command-items));
  few : l.children ≤ 265 * l.command-index;
}
