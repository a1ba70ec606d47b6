use Rattle.std.proofs.Common.{ℕ}
use Rattle.arrayvec.specs.ArrayVec.{ArrayVec}
use Rattle.file_records.specs.declared.file.File.{File}
use Rattle.file_records.specs.File.{increased}
use Rattle.card_files.proofs.FormLemmas.{increased-kept}
use Rattle.card_files.proofs.SoundLemmas.{sound-giving}
use Rattle.card_files.proofs.files.Files.increasing.Goals as goal

pub invariant_of-self-2 : goal.invariant_of-self-2
invariant_of-self-2 c =
    sound-giving c.self.inside.tree c.self.inside.folder c.self.inside.ef _ c.self.invariant
    (λ (row : ArrayVec ℕ). row.items) (λ (file : File). increased file c.number.result) (increased-kept c.number.result) c.increase.new.self c.increase.result c.increase.ensures
