use Rattle.keyset_book.proofs.BatchLemmas.{on-err, stands-same, stands-entered, room-kept}
use Rattle.keyset_book.proofs.books.Book.add.Goals as goal

pub returns-clause-ok : goal.returns-clause-ok
returns-clause-ok c = λ history stands may.
    stands-entered history c.args.entry.now c.make_room_for.new.book c.enter.new.book
    (stands-same c.args.self.now c.make_room_for.new.book c.in_ok-make_room_for.ensures.same history stands)
    may c.in_ok-make_room_for.ensures.made c.enter.ensures.entered c.enter.ensures.moment c.enter.ensures.count

pub returns-in_err-make_room_for-clause-kept : goal.returns-in_err-make_room_for-clause-kept
returns-in_err-make_room_for-clause-kept c = λ others room. room-kept c.args.self.now c.make_room_for.new.book c.in_err-make_room_for.ensures.kept others room

pub returns-clause-kept : goal.returns-clause-kept
returns-clause-kept c = λ others room.
    room-kept c.make_room_for.new.book c.enter.new.book c.enter.ensures.kept others (room-kept c.args.self.now c.make_room_for.new.book c.in_ok-make_room_for.ensures.kept others room)

pub returns-in_err-make_room_for-clause-err : goal.returns-in_err-make_room_for-clause-err
returns-in_err-make_room_for-clause-err c = λ history stands.
    on-err c.from_residual.result (stands-same c.args.self.now c.make_room_for.new.book c.make_room_for.ensures.same history stands)
