use Rattle.keyset_book.proofs.BatchLemmas.{on-err, stands-same, room-none, room-kept}
use Rattle.keyset_book.proofs.books.Book.apply.Goals as goal

pub returns-in_err-make_room-clause-settling : goal.returns-in_err-make_room-clause-settling
returns-in_err-make_room-clause-settling c = λ none.
    let made = c.in_err-make_room.ensures.there (room-none c.args.self.now c.args.entries.now none) in cc

pub returns-in_err-make_room-clause-kept : goal.returns-in_err-make_room-clause-kept
returns-in_err-make_room-clause-kept c = λ others room. room-kept c.args.self.now c.make_room.new.book c.in_err-make_room.ensures.kept others room

pub returns-clause-kept : goal.returns-clause-kept
returns-clause-kept c = λ others room. c.put.ensures.kept others (room-kept c.args.self.now c.make_room.new.book c.in_ok-make_room.ensures.kept others room)

pub returns-in_err-make_room-clause-err : goal.returns-in_err-make_room-clause-err
returns-in_err-make_room-clause-err c = λ history stands.
    on-err c.from_residual.result (stands-same c.args.self.now c.make_room.new.book c.make_room.ensures.same history stands)

pub returns-clause-ok : goal.returns-clause-ok
returns-clause-ok c = λ history stands whole. c.put.ensures.put history (stands-same c.args.self.now c.make_room.new.book c.make_room.ensures.same history stands) whole
