use Rattle.std.proofs.Common.{◌≡◌, Some}
use Rattle.expanded_scripts.specs.Decoded.{length_in}
use Rattle.expanded_scripts.proofs.Values.{value-found}
use Rattle.expanded_scripts.proofs.lengths.value_in.Goals as goal

pub returns-in-Some-clause-found : goal.returns-in-Some-clause-found
returns-in-Some-clause-found c =
    let e = c.in-Some.ensures in
    let l = c.in-Some.len-is in
    let b = c.in-Some.behind-is in
    let read : length_in c.args.octets.now ≡ Some (c.in-Some.len, c.in-Some.behind.now) = cc in
    value-found c.args.octets.now c.in-Some.len c.in-Some.behind.now _ _ read c.if-len-behind.true c.split_at.ensures.front c.split_at.ensures.back
