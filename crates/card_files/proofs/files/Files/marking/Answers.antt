use Rattle.file_records.specs.File.{marked}
use Rattle.card_files.proofs.FormLemmas.{marked-kept}
use Rattle.card_files.proofs.SoundLemmas.{sound-changed}
use Rattle.card_files.proofs.files.Files.marking.Goals as goal

pub invariant_of-self-2 : goal.invariant_of-self-2
invariant_of-self-2 c =
    sound-changed c.self.inside.tree c.self.inside.folder c.self.inside.ef c.in_ok-path.path c.self.invariant
    (marked c.args.active) (marked-kept c.args.active) c.mark.new.self c.mark.result c.mark.ensures
