use Rattle.std.proofs.Common.{◌+◌, ◌≤◌, length}
use Rattle.expanded_scripts.specs.Template.{AreWhole}
use Rattle.expanded_scripts.proofs.Grammar.{Reads}
use Rattle.expanded_scripts.proofs.reading.template_in.Given as goal

-- The first children were read, and each took two octets at least.
abbrev pub invariant-loop-left : goal.invariant-loop-left
invariant-loop-left l = record {
  read : Reads l.octets l.commands.items l.left;
  within : length l.left ≤ length l.octets;
  short : length l.octets ≤ 4096;
  few : length l.commands.items + length l.left ≤ 4096;
  whole : AreWhole l.commands.items;
}

-- The octets that are left.
abbrev pub decreases-loop-left : goal.decreases-loop-left
decreases-loop-left l = length l.left
