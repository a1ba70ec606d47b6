use Rattle.std.proofs.Common.{◌-◌, ◌+◌, ◌≤◌, ℕ, length}
use Rattle.apdu_codec.specs.Script.{HasCommands}
use Rattle.apdu_codec.proofs.script.count_commands.Given as goal

-- With those so far, the commands of the rest are those of the whole script; each takes an octet.
abbrev pub invariant-loop-next : goal.invariant-loop-next
invariant-loop-next l =
    (l.at ≤ length l.script)
    × (l.count ≤ l.at)
    × ((left : ℕ) → HasCommands l.script l.at left → HasCommands l.script 0 (l.count + left))

abbrev pub decreases-loop-next : goal.decreases-loop-next
decreases-loop-next l = length l.script - l.at
