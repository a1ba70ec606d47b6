use Rattle.std.proofs.Common.{◌≡◌, ◌≤◌, ◌+◌, ◌++◌, ◌-◌, IsTrue, vec_len}
use Rattle.ota_io.specs.Octets.{text_limit}
use Rattle.ota_io.proofs.whole_text.read_all.Given as goal

abbrev pub invariant-loop-piece : goal.invariant-loop-piece
invariant-loop-piece g l = record {
  within : vec_len l.text ≤ text_limit + 1;
  read : IsTrue (g.S.Source.tells l.initial.source) → g.S.Source.left l.initial.source ≡ l.text.items ++ g.S.Source.left l.source;
  tells : g.S.Source.tells l.source ≡ g.S.Source.tells l.initial.source;
  faults : g.S.Source.faults l.source ≡ g.S.Source.faults l.initial.source;
}

abbrev pub decreases-loop-piece : goal.decreases-loop-piece
decreases-loop-piece g l = text_limit + 1 - vec_len l.text
