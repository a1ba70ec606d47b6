use Rattle.std.proofs.Common.{◌≡◌, ◌≤◌, ◌++◌, ◌-◌, IsTrue, length, take}
use Rattle.ota_io.proofs.whole_text.write_all.Given as goal

abbrev pub invariant-loop-at : goal.invariant-loop-at
invariant-loop-at g l = record {
  within : l.at ≤ length l.text;
  written : IsTrue (g.K.Sink.tells l.initial.sink) → g.K.Sink.written l.sink ≡ g.K.Sink.written l.initial.sink ++ take l.at l.text;
  tells : g.K.Sink.tells l.sink ≡ g.K.Sink.tells l.initial.sink;
  faults : g.K.Sink.faults l.sink ≡ g.K.Sink.faults l.initial.sink;
}

abbrev pub decreases-loop-at : goal.decreases-loop-at
decreases-loop-at g l = length l.text - l.at
