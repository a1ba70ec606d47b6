use Rattle.std.proofs.Common.{reverse}
use Rattle.reports.specs.Counting.{counts_in}
use Rattle.reports.proofs.CountLemmas.{counted_put}
use Rattle.reports.proofs.keyset_counts.count_entry.Goals as goal

pub returns-in_ok-put-in-Reserve : goal.returns-in_ok-put-in-Reserve
returns-in_ok-put-in-Reserve c = λ keyset.
    rw (c.in-Reserve.is)
    (counted_put (reverse c.args.lane.now) c.in-Reserve.by c.in-Reserve.moment c.in-Reserve.keyset c.in-Reserve.counter c.in-Reserve.job c.in-Reserve.tar
    c.in-Reserve.name c.in-Reserve.body (counts_in c.args.table.now) (counts_in c.put.new.table)
    (rw (c.counted-counts.ensures, c.settlement.ensures, c.look.ensures) at c.in_ok-put-in-Reserve.ensures) keyset)
