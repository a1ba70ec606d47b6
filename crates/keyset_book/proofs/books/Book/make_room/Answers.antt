use Rattle.keyset_book.proofs.BatchLemmas.{stands-same, room-kept}
use Rattle.keyset_book.proofs.books.Book.make_room.Goals as goal

pub returns-clause-kept : goal.returns-clause-kept
returns-clause-kept c = λ others room. room-kept c.args.self.now c.make_room.new.book c.make_room.ensures.kept others room

pub returns-clause-same : goal.returns-clause-same
returns-clause-same c = λ history stands. stands-same c.args.self.now c.make_room.new.book c.make_room.ensures.same history stands
