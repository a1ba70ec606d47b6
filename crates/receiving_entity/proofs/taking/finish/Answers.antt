use Rattle.std.proofs.Common.{◌∙◌, ap}
use Rattle.receiving_entity.specs.Running.{last_status_of}
use Rattle.receiving_entity.proofs.TakeLemmas.{finished, unanswered_halt}
use Rattle.receiving_entity.proofs.taking.finish.Goals as goal

pub returns-in-Err-clause-halted : goal.returns-in-Err-clause-halted
returns-in-Err-clause-halted g c = λ content stands.
    let e = c.in_ok-ran.ensures in
    unanswered_halt g.D.DiskCalls.told c.args.store.now c.run_script.new.store content c.args.command.now e.facts e.ready e.tells c.in_ok-ran.ran (e.ran content c.args.command.now stands)

pub returns-in-Ok-clause-finished : goal.returns-in-Ok-clause-finished
returns-in-Ok-clause-finished g c = λ content stands.
    let e = c.in_ok-ran.ensures in
    finished g.D.DiskCalls.told c.args.store.now c.run_script.new.store content c.args.command.now e.facts e.ready e.tells c.in_ok-ran.ran (e.ran content c.args.command.now stands)
    c.args.keys.now _ c.last_status-status.result c.as_slice.result.now (c.last_status-status.ensures ∙ ap last_status_of c.lines.ensures.lines) (c.as_slice.ensures.value ∙ c.response_to-octets.ensures) c.in-Ok.ensures
