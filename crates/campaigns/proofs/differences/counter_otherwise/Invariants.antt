use Rattle.std.proofs.Common.{◌≡◌, drop, map}
use Rattle.campaigns.specs.Differences.{counter_otherwise}
use Rattle.campaigns.proofs.differences.counter_otherwise.Given as goal

abbrev pub invariant-loop-lane : goal.invariant-loop-lane
invariant-loop-lane l =
    counter_otherwise (map (λ history. history.now.entries) l.histories) l.job ≡ counter_otherwise (drop l.lane (map (λ history. history.now.entries) l.histories)) l.job
