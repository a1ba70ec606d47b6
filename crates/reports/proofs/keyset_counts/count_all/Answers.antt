use Rattle.std.proofs.Common.{◌∙◌, ap, sym, reverse, rules}
use Rattle.reports.specs.Counting.{counts_in, counted_entry}
use Rattle.reports.proofs.CountLemmas.{counts_more, may_count}
use Rattle.reports.proofs.keyset_counts.count_all.Goals as goal

pub count_entry-requires : goal.count_entry-requires
count_entry-requires c = λ keyset.
    may_count (reverse c.args.lane.now) c.entries-entries.result.now c.loop-place.place keyset (counts_in c.loop-place.table keyset) c.loop-place-test.true (search rules)
    (c.loop-place.invariant keyset)

pub loop-place-preserved : goal.loop-place-preserved
loop-place-preserved c = λ keyset.
    c.in_ok-count_entry.ensures keyset
    ∙ ap (counted_entry (reverse c.args.lane.now) keyset c.index-entries-place.result) (c.loop-place.invariant keyset)
    ∙ sym (counts_more (reverse c.args.lane.now) c.entries-entries.result.now c.loop-place.place c.index-entries-place.result keyset c.loop-place-test.true c.index-entries-place.is)
