use Rattle.std.proofs.Common.{◌≡◌, ◌+◌, List, ℕ, []}
use Rattle.disk_model.specs.Disk.{Tells}
use Rattle.gate_log.specs.Readers.{IsReading, octets_left}
use Rattle.gate_log.specs.Windows.{windows_in}
use Rattle.counter_journal.specs.HistoryReading.{IsKeptPast}
use Rattle.gate_log.specs.Turns.{HasLooked}
use Rattle.counter_journal.proofs.ReadLaws.{SoFar}
use Rattle.counter_journal.proofs.openings.read_past.Given as goal

-- what was read are the parts that were given
abbrev pub invariant-loop-past : goal.invariant-loop-past
invariant-loop-past g l =
    HasLooked g.D.DiskCalls.told g.D.DiskCalls.counts l.fn.disk l.disk × IsKeptPast l.fn.lane l.fn.lanes l.past
    × (Tells g.D.DiskCalls.told l.fn.disk → (head : List ℕ) → IsReading head (g.D.DiskCalls.told.seen l.fn.disk) [] l.fn.reader
    → SoFar head (g.D.DiskCalls.told.seen l.fn.disk) l.fn.lane l.fn.lanes l.past l.wrong l.reader
    × (g.D.DiskCalls.told.clock l.disk + windows_in l.fn.reader.windows.read ≡ g.D.DiskCalls.told.clock l.fn.disk + windows_in l.reader.windows.read))

abbrev pub decreases-loop-past : goal.decreases-loop-past
decreases-loop-past g l = octets_left l.reader
