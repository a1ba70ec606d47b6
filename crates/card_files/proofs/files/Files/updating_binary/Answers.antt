use Rattle.file_records.specs.declared.file.File.{File}
use Rattle.file_records.specs.File.{binary_written}
use Rattle.card_files.proofs.FormLemmas.{binary-kept}
use Rattle.card_files.proofs.SoundLemmas.{sound-changed}
use Rattle.card_files.proofs.files.Files.updating_binary.Goals as goal

pub invariant_of-self-2 : goal.invariant_of-self-2
invariant_of-self-2 c =
    sound-changed c.self.inside.tree c.self.inside.folder c.self.inside.ef _ c.self.invariant
    (λ (file : File). binary_written file c.offset.result c.args.octets.now) (binary-kept c.offset.result c.args.octets.now) c.write_binary.new.self c.write_binary.result c.write_binary.ensures
