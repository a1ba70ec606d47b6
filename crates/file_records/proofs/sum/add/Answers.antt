use Rattle.std.proofs.Common.{◌≡◌, ℕ, ◌+◌, ◌-◌, ◌%◌, ◌<◌, ◌≢◌, set, length, get_or, arith, ap, ◌∙◌, length-set, get_or-set_other}
use Rattle.file_records.proofs.NumberLemmas.{AreOctets-set, sum-back}
use Rattle.file_records.proofs.sum.add.Goals as goal

pub loop-at-preserved : goal.loop-at-preserved
loop-at-preserved c =
    let xs = c.loop-at.octets in
    let ys = c.args.octets.now in
    let from = c.loop-at.at in
    let carry = c.loop-at.carry in
    let octet = (c.from.result + carry) % 256 in
    let long = length-set xs (from - 1) octet in (
      omega (arith, long),
      omega arith,
      λ k h. get_or-set_other xs (from - 1) k octet 0 (omega arith) ∙ c.loop-at.invariant.2 k (omega arith),
      AreOctets-set xs (from - 1) octet c.loop-at.invariant.3 (omega arith),
      sum-back xs ys from carry c.args.by c.from.result c.loop-at-test.true c.loop-at.invariant.0 c.loop-at.auto.octets c.from.ensures (c.loop-at.invariant.2 (from - 1) (omega (arith, c.loop-at-test.true))) c.loop-at.invariant.4,
    )
