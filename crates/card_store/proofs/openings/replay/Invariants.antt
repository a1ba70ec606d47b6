use Rattle.std.proofs.Common.{List, ℕ, []}
use Rattle.disk_model.specs.Disk.{Tells}
use Rattle.gate_log.specs.Readers.{IsReading, octets_left}
use Rattle.card_store.specs.Opening.{IsShown}
use Rattle.card_store.proofs.Reading.{SoFar, HasLooked}
use Rattle.card_store.proofs.openings.replay.Given as goal

-- what was replayed are the parts that were given
abbrev pub invariant-loop-kept : goal.invariant-loop-kept
invariant-loop-kept g l =
    HasLooked g.D.DiskCalls.told g.D.DiskCalls.counts l.fn.disk l.disk × IsShown l.kept
    × (Tells g.D.DiskCalls.told l.fn.disk → (head : List ℕ) → IsReading head (g.D.DiskCalls.told.seen l.fn.disk) [] l.fn.reader
    → SoFar head (g.D.DiskCalls.told.seen l.fn.disk) l.facts l.kept l.bad l.reader)

abbrev pub decreases-loop-kept : goal.decreases-loop-kept
decreases-loop-kept g l = octets_left l.reader
