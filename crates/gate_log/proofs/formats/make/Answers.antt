use Rattle.std.proofs.lemmas.Result.{err_from_is_err_and}
use Rattle.gate_log.proofs.Made.{cleared_err}
use Rattle.gate_log.proofs.Steps.{still_tells}
use Rattle.gate_log.proofs.Made.{then_new, marked_run}
use Rattle.gate_log.proofs.formats.make.Goals as goal

pub returns-in_err-lay_out-clause-moments : goal.returns-in_err-lay_out-clause-moments
returns-in_err-lay_out-clause-moments g c =
    λ tells.
    let told = g.D.DiskCalls.told in
    let mid_tells = still_tells told c.args.disk.now c.clear_mark.new.disk c.clear_mark.ensures.tells tells in
    then_new told c.args.disk.now c.clear_mark.new.disk c.lay_out.new.disk c.args.head (c.clear_mark.ensures.moments tells)
    (marked_run told c.clear_mark.new.disk c.lay_out.new.disk c.args.head (c.lay_out.ensures.moments mid_tells))

pub returns-clause-moments : goal.returns-clause-moments
returns-clause-moments g c =
    λ tells.
    let told = g.D.DiskCalls.told in
    let mid_tells = still_tells told c.args.disk.now c.clear_mark.new.disk c.clear_mark.ensures.tells tells in
    let last_tells = still_tells told c.clear_mark.new.disk c.lay_out.new.disk c.lay_out.ensures.tells mid_tells in
    then_new told c.args.disk.now c.lay_out.new.disk c.write_mark.new.disk c.args.head
    (then_new told c.args.disk.now c.clear_mark.new.disk c.lay_out.new.disk c.args.head (c.clear_mark.ensures.moments tells)
    (marked_run told c.clear_mark.new.disk c.lay_out.new.disk c.args.head (c.lay_out.ensures.moments mid_tells)))
    (c.write_mark.ensures.moments last_tells)

pub returns-in_err-clear_mark-clause-clock : goal.returns-in_err-clear_mark-clause-clock
returns-in_err-clear_mark-clause-clock g c = λ tells.
    let p = err_from_is_err_and c.from_residual.result c.from_residual.ensures.1 in
    rw (p.1, p.2) (cleared_err c.args.marked _ _ c.in_err-clear_mark.field-0.0 (c.in_err-clear_mark.ensures.clock tells))
