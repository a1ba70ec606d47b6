use Rattle.file_records.specs.declared.file.File.{File}
use Rattle.file_records.specs.File.{record_written, record_pushed}
use Rattle.card_files.proofs.FormLemmas.{record-kept, pushed-kept}
use Rattle.card_files.proofs.SoundLemmas.{sound-changed}
use Rattle.card_files.proofs.files.Files.updating_record.Goals as goal

pub invariant_of-self-then-p2-eq4 : goal.invariant_of-self-then-p2-eq4
invariant_of-self-then-p2-eq4 c =
    sound-changed c.self.inside.tree c.self.inside.folder c.self.inside.ef _ c.self.invariant
    (λ (file : File). record_written file c.args.p1 c.args.octets.now) (record-kept c.args.p1 c.args.octets.now) c.write_record.new.self c.write_record.result c.write_record.ensures

pub invariant_of-self-2 : goal.invariant_of-self-2
invariant_of-self-2 c =
    sound-changed c.self.inside.tree c.self.inside.folder c.self.inside.ef _ c.self.invariant
    (λ (file : File). record_pushed file c.args.octets.now) (pushed-kept c.args.octets.now) c.push_record.new.self c.push_record.result c.push_record.ensures
