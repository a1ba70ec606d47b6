use Rattle.std.proofs.Common.{Ok, Err, ap, ◌∙◌}
use Rattle.std.proofs.lemmas.Result.{err_from_is_err_and}
use Rattle.gate_log.specs.Readers.{ReaderState}
use Rattle.gate_log.proofs.Finished.{ends_at, opened_with, finish_run, end_ticks}
use Rattle.gate_log.proofs.readers.LogReader.finish.Goals as goal

pub returns-in_err-cut_behind-clause-moments : goal.returns-in_err-cut_behind-clause-moments
returns-in_err-cut_behind-clause-moments g c = λ tells head parts reading.
    let told = g.D.DiskCalls.told in
    let old = c.args.disk.now in
    let at = ends_at head (told.seen old) parts c.args.self c.end-end.result reading c.in_ok-ending.ensures c.end-end.ensures.place c.end-end.ensures.within.2 in
    finish_run told old c.cut_behind.new.disk head c.end-end.result at (c.cut_behind.ensures.moments tells)

pub returns-clause-answer : goal.returns-clause-answer
returns-clause-answer g c = λ tells head parts reading.
    opened_with head (g.D.DiskCalls.told.seen c.args.disk.now) parts c.args.self c.end-end.result reading c.in_ok-ending.ensures c.end-end.ensures.place c.end-end.ensures.within.2
    (g.D.DiskCalls.told.seen c.cut_behind.new.disk) c.of_length.result c.of_length.ensures (c.in_ok-cut_behind.ensures.content tells)

pub returns-clause-moments : goal.returns-clause-moments
returns-clause-moments g c = λ tells head parts reading.
    let told = g.D.DiskCalls.told in
    let old = c.args.disk.now in
    let at = ends_at head (told.seen old) parts c.args.self c.end-end.result reading c.in_ok-ending.ensures c.end-end.ensures.place c.end-end.ensures.within.2 in
    finish_run told old c.cut_behind.new.disk head c.end-end.result at (c.cut_behind.ensures.moments tells)

pub returns-in_err-cut_behind-clause-clock : goal.returns-in_err-cut_behind-clause-clock
returns-in_err-cut_behind-clause-clock g c = λ tells head parts reading.
    let told = g.D.DiskCalls.told in
    let old = c.args.disk.now in
    let now = told.clock c.cut_behind.new.disk in
    let at = ends_at head (told.seen old) parts c.args.self c.end-end.result reading c.in_ok-ending.ensures c.end-end.ensures.place c.end-end.ensures.within.2 in
    let ticks = end_ticks head (told.seen old) c.long.result c.end-end.result (told.clock old) now at (c.long.ensures ∙ ap (λ (s : ReaderState). s.windows.long) c.self.view_is ∙ c.requires.long tells) (Err c.in_err-cut_behind.field-0.0) (c.in_err-cut_behind.ensures.clock tells) in
    let p = err_from_is_err_and c.from_residual-in_err-cut_behind.result c.from_residual-in_err-cut_behind.ensures.1 in
    rw (p.1, p.2) ticks

pub returns-clause-clock : goal.returns-clause-clock
returns-clause-clock g c = λ tells head parts reading.
    let told = g.D.DiskCalls.told in
    let old = c.args.disk.now in
    let at = ends_at head (told.seen old) parts c.args.self c.end-end.result reading c.in_ok-ending.ensures c.end-end.ensures.place c.end-end.ensures.within.2 in
    end_ticks head (told.seen old) c.long.result c.end-end.result (told.clock old) (told.clock c.cut_behind.new.disk) at (c.long.ensures ∙ ap (λ (s : ReaderState). s.windows.long) c.self.view_is ∙ c.requires.long tells) (Ok tt) (c.in_ok-cut_behind.ensures.clock tells)
