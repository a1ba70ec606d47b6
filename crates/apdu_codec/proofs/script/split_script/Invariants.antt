use Rattle.std.proofs.Common.{◌-◌, ◌≤◌, ℕ, List, length, ◌++◌}
use Rattle.apdu_codec.specs.declared.apdu.Apdu.{Apdu}
use Rattle.apdu_codec.specs.Script.{Splits, IsCutAt}
use Rattle.apdu_codec.proofs.script.split_script.Given as goal

-- What the rest of the script gives, the whole script gives.
abbrev pub invariant-loop-commands : goal.invariant-loop-commands
invariant-loop-commands l =
    (l.at ≤ length l.script)
    × ((rest : List Apdu) → Splits l.script l.at rest → Splits l.script 0 (l.commands.items ++ rest))
    × ((cut : ℕ) → IsCutAt l.script cut l.at → IsCutAt l.script cut 0)

abbrev pub decreases-loop-commands : goal.decreases-loop-commands
decreases-loop-commands l = length l.script - l.at
