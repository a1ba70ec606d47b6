use Rattle.std.proofs.Common.{◌≡◌, ◌+◌, length, drop, arith, ap, sym, ◌∙◌, Some}
use Rattle.file_records.specs.Numbers.{number_of}
use Rattle.file_records.proofs.NumberLemmas.{sum-fits, refill-all}
use Rattle.file_records.proofs.sum.sum.Goals as goal

pub returns-then-add-eq0-clause-sum : goal.returns-then-add-eq0-clause-sum
returns-then-add-eq0-clause-sum c =
    let row = c.args.row.now in
    let new = c.add.new.octets in
    let kept = c.copy_of-sum.result.items in
    let same : c.deref_mut.result.now ≡ row = c.deref_mut.ensures.value ∙ c.copy_of-sum.ensures in
    let long : length new ≡ length row = omega (arith, ap length same, c.add.auto.octets) in
    let whole = refill-all (length kept) new (drop (length new) kept) (omega (arith, long, ap length c.copy_of-sum.ensures)) in
    let spread = rw c.if-add-eq0.true at c.add.ensures.sum in
    let added : number_of new ≡ number_of row + c.args.by = rw (← same) (omega (arith, spread)) in
    ap Some whole ∙ sum-fits row new c.args.by c.add.ensures.octets long added
