use Rattle.std.proofs.Common.{◌≡◌, ◌+◌, List, ℕ, []}
use Rattle.disk_model.specs.Disk.{Tells}
use Rattle.gate_log.specs.Readers.{IsReading, octets_left}
use Rattle.gate_log.specs.Windows.{windows_in}
use Rattle.gate_log.specs.Turns.{HasLooked}
use Rattle.gate_log.proofs.readers.read_parts.Given as goal

-- the parts so far are those that were given
abbrev pub invariant-loop-parts : goal.invariant-loop-parts
invariant-loop-parts g l =
    HasLooked g.D.DiskCalls.told g.D.DiskCalls.counts l.fn.disk l.disk
    × (Tells g.D.DiskCalls.told l.fn.disk → (head : List ℕ) → IsReading head (g.D.DiskCalls.told.seen l.fn.disk) [] l.fn.reader
    → IsReading head (g.D.DiskCalls.told.seen l.fn.disk) l.parts.items l.reader
    × (g.D.DiskCalls.told.clock l.disk + windows_in l.fn.reader.windows.read ≡ g.D.DiskCalls.told.clock l.fn.disk + windows_in l.reader.windows.read))

abbrev pub decreases-loop-parts : goal.decreases-loop-parts
decreases-loop-parts g l = octets_left l.reader
