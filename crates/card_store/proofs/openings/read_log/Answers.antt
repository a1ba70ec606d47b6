use Rattle.std.proofs.Common.{◌≡◌, List, ℕ, Ok, Err, sym, ◌∙◌}
use Rattle.std.proofs.lemmas.Result.{err_from_is_err_and}
use Rattle.disk_model.specs.Disk.{Tells}
use Rattle.gate_log.specs.ReadingLaws.{look_on}
use Rattle.card_store.specs.Parts.{store_head}
use Rattle.card_store.proofs.OpeningLaws.{IsFinished, finished_of, finished_answer, finished_cut, finished_settled, reading_run}
use Rattle.card_store.proofs.openings.read_log.Goals as goal

abbrev all_err : (g : _) (c : goal.Joined-replayed-2 g) → Tells g.D.DiskCalls.told c.args.disk.now
    → IsFinished (g.D.DiskCalls.told.seen c.replay.new.disk) (g.D.DiskCalls.told.seen c.args.disk.now) (g.D.DiskCalls.told.seen c.finish-finished.new.disk) c.args.facts.now c.replay.new.reader
    c.in_ok-replayed.replayed c.finish-finished.result
all_err g c tells =
    let told = g.D.DiskCalls.told in
    let begun = c.in_ok-reader.ensures in
    let read = c.in_ok-replayed.ensures in
    finished_of told c.args.disk.now c.begin.new.disk c.replay.new.disk c.finish-finished.new.disk c.args.facts.now c.in_ok-reader.reader c.replay.new.reader
    c.in_ok-replayed.replayed c.finish-finished.result (begun.tells ∙ tells) (read.tells ∙ begun.tells ∙ tells) (begun.content tells) (read.content (begun.tells ∙ tells))
    (begun.answer tells) read.read c.finish-finished.ensures.answer

pub returns-in_err-log-clause-answer : goal.returns-in_err-log-clause-answer
returns-in_err-log-clause-answer g c = λ tells.
    let p = err_from_is_err_and c.from_residual-in_err-log.result c.from_residual-in_err-log.ensures.1 in
    rw (p.1, p.2)
    (finished_answer g.D.DiskCalls.told c.replay.new.disk c.args.disk.now c.finish-finished.new.disk c.args.facts.now c.replay.new.reader
    c.in_ok-replayed.replayed c.finish-finished.result (all_err g c tells) (Err c.in_err-log.field-0.0) (sym c.in_err-log.was ∙ c.checked.ensures))

pub returns-in_err-log-clause-refused : goal.returns-in_err-log-clause-refused
returns-in_err-log-clause-refused g c = λ tells.
    let p = err_from_is_err_and c.from_residual-in_err-log.result c.from_residual-in_err-log.ensures.1 in
    let begun = c.in_ok-reader.ensures in
    let read = c.in_ok-replayed.ensures in
    rw (p.1, p.2)
    (finished_cut g.D.DiskCalls.told c.replay.new.disk c.args.disk.now c.finish-finished.new.disk c.args.facts.now c.replay.new.reader
    c.in_ok-replayed.replayed c.finish-finished.result (all_err g c tells) (Err c.in_err-log.field-0.0) (sym c.in_err-log.was ∙ c.checked.ensures)
    (c.finish-finished.ensures.same (read.tells ∙ begun.tells ∙ tells)) (read.content (begun.tells ∙ tells) ∙ begun.content tells))

pub returns-in_err-log-clause-moments : goal.returns-in_err-log-clause-moments
returns-in_err-log-clause-moments g c = λ tells.
    let told = g.D.DiskCalls.told in
    let begun = c.in_ok-reader.ensures in
    let read = c.in_ok-replayed.ensures in
    let on = begun.tells ∙ tells in
    let all = all_err g c tells in
    reading_run told c.args.disk.now c.replay.new.disk c.finish-finished.new.disk (read.content on ∙ begun.content tells)
    (look_on told c.args.disk.now c.begin.new.disk c.replay.new.disk (begun.moments tells) (read.moments on))
    (c.finish-finished.ensures.moments (read.tells ∙ on) store_head all.parts all.reading)

abbrev all_ok : (g : _) (c : goal.In_ok-log g) → Tells g.D.DiskCalls.told c.args.disk.now
    → IsFinished (g.D.DiskCalls.told.seen c.replay.new.disk) (g.D.DiskCalls.told.seen c.args.disk.now) (g.D.DiskCalls.told.seen c.finish-finished.new.disk) c.args.facts.now c.replay.new.reader
    c.in_ok-replayed.replayed c.finish-finished.result
all_ok g c tells =
    let told = g.D.DiskCalls.told in
    let begun = c.in_ok-reader.ensures in
    let read = c.in_ok-replayed.ensures in
    finished_of told c.args.disk.now c.begin.new.disk c.replay.new.disk c.finish-finished.new.disk c.args.facts.now c.in_ok-reader.reader c.replay.new.reader
    c.in_ok-replayed.replayed c.finish-finished.result (begun.tells ∙ tells) (read.tells ∙ begun.tells ∙ tells) (begun.content tells) (read.content (begun.tells ∙ tells))
    (begun.answer tells) read.read c.finish-finished.ensures.answer

pub returns-clause-answer : goal.returns-clause-answer
returns-clause-answer g c = λ tells.
    finished_answer g.D.DiskCalls.told c.replay.new.disk c.args.disk.now c.finish-finished.new.disk c.args.facts.now c.replay.new.reader
    c.in_ok-replayed.replayed c.finish-finished.result (all_ok g c tells) (Ok c.in_ok-log.log) (sym c.in_ok-log.was ∙ c.checked.ensures)

pub returns-clause-settled : goal.returns-clause-settled
returns-clause-settled g c = λ tells.
    let begun = c.in_ok-reader.ensures in
    let read = c.in_ok-replayed.ensures in
    finished_settled g.D.DiskCalls.told c.replay.new.disk c.args.disk.now c.finish-finished.new.disk c.args.facts.now c.replay.new.reader
    c.in_ok-replayed.replayed c.finish-finished.result (all_ok g c tells) c.in_ok-log.log (sym c.checked.ensures ∙ c.in_ok-log.was) (c.finish-finished.ensures.durable (read.tells ∙ begun.tells ∙ tells))

pub returns-clause-moments : goal.returns-clause-moments
returns-clause-moments g c = λ tells.
    let told = g.D.DiskCalls.told in
    let begun = c.in_ok-reader.ensures in
    let read = c.in_ok-replayed.ensures in
    let on = begun.tells ∙ tells in
    let all = all_ok g c tells in
    reading_run told c.args.disk.now c.replay.new.disk c.finish-finished.new.disk (read.content on ∙ begun.content tells)
    (look_on told c.args.disk.now c.begin.new.disk c.replay.new.disk (begun.moments tells) (read.moments on))
    (c.finish-finished.ensures.moments (read.tells ∙ on) store_head all.parts all.reading)
