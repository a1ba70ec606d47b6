use Rattle.std.proofs.Common.{◌≡◌, ◌+◌, List, ℕ}
use Rattle.disk_model.specs.Disk.{Tells}
use Rattle.gate_log.specs.Readers.{IsReading, octets_left}
use Rattle.gate_log.specs.Windows.{windows_in}
use Rattle.gate_log.specs.Turns.{HasLooked}
use Rattle.gate_log.proofs.readers.read_through.Given as goal

-- the parts that were given are some of the log's
abbrev pub invariant-loop : goal.invariant-loop
invariant-loop g l =
    HasLooked g.D.DiskCalls.told g.D.DiskCalls.counts l.fn.disk l.disk
    × (Tells g.D.DiskCalls.told l.fn.disk → (head : List ℕ) (parts : List (List ℕ)) → IsReading head (g.D.DiskCalls.told.seen l.fn.disk) parts l.fn.reader
    → ((so_far : List (List ℕ)) × IsReading head (g.D.DiskCalls.told.seen l.fn.disk) so_far l.reader)
    × (g.D.DiskCalls.told.clock l.disk + windows_in l.fn.reader.windows.read ≡ g.D.DiskCalls.told.clock l.fn.disk + windows_in l.reader.windows.read))

abbrev pub decreases-loop : goal.decreases-loop
decreases-loop g l = octets_left l.reader
