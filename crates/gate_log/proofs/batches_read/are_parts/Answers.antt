use Rattle.std.proofs.Common.{◌≡◌, ◌<◌, length, sym, ◌∙◌, arith}
use Rattle.gate_log.proofs.Framed.{are_turn, are_stop, are_end}
use Rattle.gate_log.proofs.batches_read.are_parts.Goals as goal

pub returns-in-None : goal.returns-in-None
returns-in-None c =
    let rest = c.loop-rest.rest.now in
    let some : 0 < length rest = grind arith in
    sym (are_stop rest some (sym c.in-None.ensures.found)) ∙ c.loop-rest.invariant

pub loop-rest-preserved : goal.loop-rest-preserved
loop-rest-preserved c = are_turn c.in-Some.field-0-0.now c.loop-rest.rest.now c.in-Some.behind.now (sym c.in-Some.ensures.found) ∙ c.loop-rest.invariant

pub returns : goal.returns
returns c =
    let done : length c.loop-rest.rest.now ≡ 0 = grind arith in
    sym (are_end c.loop-rest.rest.now done) ∙ c.loop-rest.invariant
