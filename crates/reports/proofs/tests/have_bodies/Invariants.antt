use Rattle.std.proofs.Common.{ℕ, ◌<◌}
use Rattle.std.specs.Prelude.{slice_index_or}
use Rattle.ota_core.specs.declared.entries.Entry.{Entry}
use Rattle.reports.specs.Packets.{HasBody}
use Rattle.reports.proofs.tests.have_bodies.Given as goal

abbrev pub invariant-loop-entry : goal.invariant-loop-entry
invariant-loop-entry l = (k : ℕ) → (d : Entry) → k < l.entry-index → HasBody (slice_index_or l.entries k d)
