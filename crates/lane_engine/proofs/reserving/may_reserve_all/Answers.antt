use Rattle.std.proofs.Common.{◌∙◌, reverse, sym}
use Rattle.std.proofs.lemmas.Result.{err_from_is_err_and}
use Rattle.lane_engine.proofs.ReservingLemmas.{refusal_found, refusal_step}
use Rattle.lane_engine.proofs.reserving.may_reserve_all.Goals as goal

pub returns-in_err-may_reserve : goal.returns-in_err-may_reserve
returns-in_err-may_reserve c = λ history stands by moment name.
    let p = err_from_is_err_and c.from_residual.result c.from_residual.ensures.1 in
    rw (p.1, p.2)
    (sym
    (c.loop-count.invariant history stands by moment name
    ∙ refusal_found by moment name (reverse history) c.args.jobs.now c.loop-count.count c.index-jobs-count.result c.in_err-may_reserve.field-0.0 c.requires.differ c.loop-count-test.true c.index-jobs-count.is
    (sym (c.in_err-may_reserve.ensures history stands))))

pub loop-count-preserved : goal.loop-count-preserved
loop-count-preserved c = λ history stands by moment name.
    c.loop-count.invariant history stands by moment name
    ∙ refusal_step by moment name (reverse history) c.args.jobs.now c.loop-count.count c.index-jobs-count.result c.requires.differ c.loop-count-test.true c.index-jobs-count.is
    (sym (c.in_ok-may_reserve.ensures history stands))
