use Rattle.std.proofs.Common.{arith, append_assoc}
use Rattle.std.proofs.Math.Seq.{take-add}
use Rattle.std.proofs.lemmas.Grind.{common_steps}
use Rattle.ota_io.proofs.whole_text.write_all.Goals as goal

pub loop-at-preserved : goal.loop-at-preserved
loop-at-preserved g c = record {
  within = grind (arith, common_steps);
  written = λ told. rw (take-add, ← append_assoc) (grind (arith, common_steps));
  tells = cc;
  faults = grind (arith, common_steps);
}
