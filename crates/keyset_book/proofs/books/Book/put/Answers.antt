use Rattle.keyset_book.proofs.BatchLemmas.{put-more, room-at, room-kept}
use Rattle.keyset_book.proofs.books.Book.put.Goals as goal

pub loop-entry-preserved : goal.loop-entry-preserved
loop-entry-preserved c = (
  λ history stands whole. put-more history c.args.entries.now c.loop-entry.entry-index c.entry-item.result c.loop-entry.self c.enter.new.book
      c.loop-entry-test.true c.entry-item.is (c.loop-entry.invariant.0 history stands whole)
      (room-at c.loop-entry.self c.args.entries.now c.loop-entry.entry-index c.entry-item.result c.loop-entry-test.true c.entry-item.is c.loop-entry.invariant.1)
      c.enter.ensures.entered c.enter.ensures.moment c.enter.ensures.count,
  room-kept c.loop-entry.self c.enter.new.book c.enter.ensures.kept c.args.entries.now c.loop-entry.invariant.1,
  λ others room. room-kept c.loop-entry.self c.enter.new.book c.enter.ensures.kept others (c.loop-entry.invariant.2 others room),
)
