use Rattle.std.proofs.Common.{◌≡◌, take, flat_map}
use Rattle.expanded_scripts.specs.Written.{element}
use Rattle.expanded_scripts.proofs.writing.write_template.Given as goal

-- The first commands were written.
abbrev pub invariant-loop-command : goal.invariant-loop-command
invariant-loop-command l = l.children.items ≡ flat_map (element 0x22) (take l.command-index l.command-items)
