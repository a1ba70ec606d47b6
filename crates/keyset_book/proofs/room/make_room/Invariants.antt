use Rattle.std.proofs.Common.{take}
use Rattle.keyset_book.specs.Book.{HasRoom}
use Rattle.keyset_book.specs.Entering.{KeepsPlaces, SaysSame}
use Rattle.keyset_book.proofs.room.make_room.Given as goal

abbrev pub invariant-loop-entry : goal.invariant-loop-entry
invariant-loop-entry l = SaysSame l.fn.book l.book × KeepsPlaces l.fn.book l.book × HasRoom l.book (take l.entry-index l.entries)
