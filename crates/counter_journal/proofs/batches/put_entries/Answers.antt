use Rattle.std.proofs.Common.{◌≤◌, length, ◌∙◌}
use Rattle.counter_journal.specs.EntryRanges.{LONGEST_ENTRY}
use Rattle.counter_journal.proofs.BatchLaws.{has_room, put_more}
use Rattle.counter_journal.proofs.batches.put_entries.Goals as goal

pub loop-entry-preserved : goal.loop-entry-preserved
loop-entry-preserved c =
    let octets = c.as_slice.result.now in
    let short : length octets ≤ LONGEST_ENTRY = rw c.as_slice.ensures.value c.write_entry.ensures.short in
    let room = has_room c.args.batch.now c.loop-entry.batch c.args.entries.now c.loop-entry.entry-index (length octets) c.loop-entry.invariant c.loop-entry-test.true c.requires.parts c.requires.octets short in
    put_more c.args.batch.now c.loop-entry.batch c.put.new.self c.args.entries.now c.loop-entry.entry-index c.entry-item.result octets c.loop-entry.invariant c.loop-entry-test.true
    c.entry-item.is (c.as_slice.ensures.value ∙ c.write_entry.ensures.octets) short c.write_entry.ensures.fits room.0 room.1 c.put.ensures
