use Rattle.csv.specs.Records.{fields_of}
use Rattle.plan_reader.proofs.RecordLemmas.{taken}
use Rattle.plan_reader.proofs.records.next_record.Goals as goal

pub returns-clause-reading : goal.returns-clause-reading
returns-clause-reading c =
    let is = c.requires.reading in
    (taken c.args.reader.now c.read_byte_record.new.self c.in-Ok.found (fields_of c.read_byte_record.new.row) is (c.in-Ok.ensures.ready is.trim) (c.in-Ok.ensures.reads is.trim is.ready)).0

pub returns-clause-takes : goal.returns-clause-takes
returns-clause-takes c =
    let is = c.requires.reading in
    (taken c.args.reader.now c.read_byte_record.new.self c.in-Ok.found (fields_of c.read_byte_record.new.row) is (c.in-Ok.ensures.ready is.trim) (c.in-Ok.ensures.reads is.trim is.ready)).1
