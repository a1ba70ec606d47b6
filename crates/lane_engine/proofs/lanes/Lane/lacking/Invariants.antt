use Rattle.std.proofs.Common.{◌≡◌, reverse, take}
use Rattle.lane_engine.specs.Adding.{moment_for}
use Rattle.lane_engine.specs.Reserving.{opens_of}
use Rattle.lane_engine.proofs.lanes.Lane.lacking.Given as goal

abbrev pub invariant-loop-keyset : goal.invariant-loop-keyset
invariant-loop-keyset g l =
    l.opens.items ≡ opens_of l.by (moment_for l.self) (reverse l.self.journal.entries) (take l.keyset-index l.keysets)
