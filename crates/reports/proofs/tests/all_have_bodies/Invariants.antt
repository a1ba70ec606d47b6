use Rattle.std.proofs.Common.{ℕ, ◌<◌}
use Rattle.std.specs.Prelude.{All, slice_index_or}
use Rattle.ota_core.specs.HistoryValue.{HistoryValue}
use Rattle.reports.specs.Packets.{HasBody}
use Rattle.reports.proofs.tests.all_have_bodies.Given as goal

abbrev pub invariant-loop-history : goal.invariant-loop-history
invariant-loop-history l =
    (k : ℕ) → (d : HistoryValue) → k < l.history-index → All HasBody (slice_index_or l.histories k d).entries
