use Rattle.keyset_book.proofs.BatchLemmas.{same-then, kept-then, room-more, room-at, room_for-kept}
use Rattle.keyset_book.proofs.room.make_room.Goals as goal

pub loop-entry-preserved : goal.loop-entry-preserved
loop-entry-preserved c = (
  same-then c.args.book.now c.loop-entry.book c.make_room_for.new.book c.loop-entry.invariant.0 c.make_room_for.ensures.same,
  kept-then c.args.book.now c.loop-entry.book c.make_room_for.new.book c.loop-entry.invariant.1 c.make_room_for.ensures.kept,
  room-more c.loop-entry.book c.make_room_for.new.book c.args.entries.now c.loop-entry.entry-index c.entry-item.result
      c.loop-entry-test.true c.entry-item.is c.make_room_for.ensures.kept c.loop-entry.invariant.2 c.in_ok-make_room_for.ensures.made,
)

pub returns-in_err-make_room_for-clause-there : goal.returns-in_err-make_room_for-clause-there
returns-in_err-make_room_for-clause-there c = λ room.
    let here = room-at c.args.book.now c.args.entries.now c.loop-entry.entry-index c.entry-item.result c.loop-entry-test.true c.entry-item.is room in
    let there = c.in_err-make_room_for.ensures.there (room_for-kept c.args.book.now c.loop-entry.book c.loop-entry.invariant.1 c.entry-item.result here) in
    cc
