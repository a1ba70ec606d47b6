use Rattle.std.proofs.Common.{◌%◌, List, length, sym, arith}
use Rattle.std.proofs.lemmas.Nat.{mod_below}
use Rattle.ota_core.specs.declared.entries.Entry.{Entry}
use Rattle.keyset_book.specs.Book.{StandsFor}
use Rattle.campaigns.specs.WorkList.{AreBooksOf, history_for}
use Rattle.campaigns.proofs.RemainingLemmas.{as_many, book_at, remaining_more, counts_more}
use Rattle.campaigns.proofs.remaining.remaining_jobs.Goals as goal

pub loop-place-preserved : goal.loop-place-preserved
loop-place-preserved c = record {
  list = λ histories are.
      rw (
        c.in_ok-put_if_remaining.ensures.list (history_for histories c.index-jobs-place.result) (stands histories are),
        c.loop-place.invariant.list histories are,
        c.loop-place.invariant.counts histories are c.index-jobs-place.result.keyset,
      )
      (sym (remaining_more c.args.retry histories c.args.jobs.now c.loop-place.place c.index-jobs-place.result c.loop-place-test.true c.index-jobs-place.is));
  counts = λ histories are keyset.
      rw (c.in_ok-put_if_remaining.ensures.counts (history_for histories c.index-jobs-place.result) (stands histories are) keyset, c.loop-place.invariant.counts histories are keyset)
      (sym (counts_more c.args.retry histories c.args.jobs.now c.loop-place.place c.index-jobs-place.result c.loop-place-test.true c.index-jobs-place.is keyset));
  bound = λ keyset. omega (arith, c.in_ok-put_if_remaining.ensures.bound keyset, c.loop-place.invariant.bound keyset);
}
  where
    stands : (histories : List (List Entry)) → AreBooksOf histories c.args.books.now → StandsFor c.book_of-book.result.now (history_for histories c.index-jobs-place.result)
    stands histories are =
        rw (← as_many c.args.books.now histories are, c.book_of-book.ensures)
        (book_at c.args.books.now histories are (c.index-jobs-place.result.keyset.card.0 % length c.args.books.now) c.book_of-book.result.now
        (mod_below c.index-jobs-place.result.keyset.card.0 (length c.args.books.now) c.requires))
