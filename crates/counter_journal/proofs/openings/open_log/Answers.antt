use Rattle.std.proofs.Common.{◌≡◌, List, ℕ, length, Result, Ok, Err, subst, sym, ◌∙◌}
use Rattle.std.proofs.lemmas.Result.{err_from_is_err_and}
use Rattle.disk_model.specs.Disk.{Tells}
use Rattle.gate_log.specs.declared.log_errors.LogErr.{LogErr}
use Rattle.gate_log.specs.Answers.{Refuses}
use Rattle.gate_log.specs.Calls.{behind_in, calls_of_end}
use Rattle.gate_log.specs.CallLaws.{begun_whole}
use Rattle.gate_log.specs.Reading.{parts_of}
use Rattle.gate_log.specs.ReadingLaws.{look_on}
use Rattle.counter_journal.specs.HistoryReading.{checked}
use Rattle.counter_journal.specs.Journal.{journal_head}
use Rattle.counter_journal.specs.JournalCalls.{OpenedTicks}
use Rattle.counter_journal.specs.JournalReading.{ReadsTo}
use Rattle.counter_journal.proofs.OpeningCalls.{begun_opening, finished_opening}
use Rattle.counter_journal.proofs.OpeningLaws.{IsFinished, finished_of, finished_answer, finished_cut, finished_settled, reading_run}
use Rattle.counter_journal.proofs.openings.open_log.Goals as goal

abbrev all_err : (g : _) (c : goal.After-drop-batch-inside-in_err-log g) → Tells g.D.DiskCalls.told c.args.disk.now
    → IsFinished (g.D.DiskCalls.told.seen c.read_past.new.disk) (g.D.DiskCalls.told.seen c.args.disk.now) (g.D.DiskCalls.told.seen c.finish-finished.new.disk) c.args.lane c.args.lanes
    c.head_of.result c.read_past.new.reader c.in_ok-read.read c.finish-finished.result
all_err g c tells =
    let told = g.D.DiskCalls.told in
    let begun = c.in_ok-reader.ensures in
    let read = c.in_ok-read.ensures in
    finished_of told c.args.disk.now c.begin.new.disk c.read_past.new.disk c.finish-finished.new.disk c.args.lane c.args.lanes c.head_of.result c.in_ok-reader.reader c.read_past.new.reader
    c.in_ok-read.read c.finish-finished.result c.head_of.ensures (begun.tells ∙ tells) (read.tells ∙ begun.tells ∙ tells) (begun.content tells) (read.content (begun.tells ∙ tells))
    (begun.answer tells) read.read c.finish-finished.ensures.answer

pub returns-in_err-log-clause-answer : goal.returns-in_err-log-clause-answer
returns-in_err-log-clause-answer g c = λ tells.
    let p = err_from_is_err_and c.from_residual-in_err-log.result c.from_residual-in_err-log.ensures.1 in
    rw (p.1, p.2)
    (finished_answer g.D.DiskCalls.told c.read_past.new.disk c.args.disk.now c.finish-finished.new.disk c.args.lane c.args.lanes c.head_of.result c.head_of.ensures c.read_past.new.reader
    c.in_ok-read.read c.finish-finished.result (all_err g c tells) (Err c.in_err-log.field-0.0) (sym c.in_err-log.was ∙ c.checked.ensures))

pub returns-in_err-log-clause-refused : goal.returns-in_err-log-clause-refused
returns-in_err-log-clause-refused g c = λ tells.
    let p = err_from_is_err_and c.from_residual-in_err-log.result c.from_residual-in_err-log.ensures.1 in
    let begun = c.in_ok-reader.ensures in
    let read = c.in_ok-read.ensures in
    rw (p.1, p.2)
    (finished_cut g.D.DiskCalls.told c.read_past.new.disk c.args.disk.now c.finish-finished.new.disk c.args.lane c.args.lanes c.head_of.result c.head_of.ensures c.read_past.new.reader
    c.in_ok-read.read c.finish-finished.result (all_err g c tells) (Err c.in_err-log.field-0.0) (sym c.in_err-log.was ∙ c.checked.ensures)
    (c.finish-finished.ensures.same (read.tells ∙ begun.tells ∙ tells)) (read.content (begun.tells ∙ tells) ∙ begun.content tells))

pub returns-in_err-log-clause-moments : goal.returns-in_err-log-clause-moments
returns-in_err-log-clause-moments g c = λ tells.
    let told = g.D.DiskCalls.told in
    let begun = c.in_ok-reader.ensures in
    let read = c.in_ok-read.ensures in
    let on = begun.tells ∙ tells in
    let all = all_err g c tells in
    reading_run told c.args.disk.now c.read_past.new.disk c.finish-finished.new.disk c.args.lane c.args.lanes c.head_of.result c.head_of.ensures (read.content on ∙ begun.content tells)
    (look_on told c.args.disk.now c.begin.new.disk c.read_past.new.disk (begun.moments tells) (read.moments on))
    (c.finish-finished.ensures.moments (read.tells ∙ on) c.head_of.result all.parts all.reading)

abbrev all_ok : (g : _) (c : goal.In_ok-log g) → Tells g.D.DiskCalls.told c.args.disk.now
    → IsFinished (g.D.DiskCalls.told.seen c.read_past.new.disk) (g.D.DiskCalls.told.seen c.args.disk.now) (g.D.DiskCalls.told.seen c.finish-finished.new.disk) c.args.lane c.args.lanes
    c.head_of.result c.read_past.new.reader c.in_ok-read.read c.finish-finished.result
all_ok g c tells =
    let told = g.D.DiskCalls.told in
    let begun = c.in_ok-reader.ensures in
    let read = c.in_ok-read.ensures in
    finished_of told c.args.disk.now c.begin.new.disk c.read_past.new.disk c.finish-finished.new.disk c.args.lane c.args.lanes c.head_of.result c.in_ok-reader.reader c.read_past.new.reader
    c.in_ok-read.read c.finish-finished.result c.head_of.ensures (begun.tells ∙ tells) (read.tells ∙ begun.tells ∙ tells) (begun.content tells) (read.content (begun.tells ∙ tells))
    (begun.answer tells) read.read c.finish-finished.ensures.answer

pub returns-clause-answer : goal.returns-clause-answer
returns-clause-answer g c = λ tells.
    finished_answer g.D.DiskCalls.told c.read_past.new.disk c.args.disk.now c.finish-finished.new.disk c.args.lane c.args.lanes c.head_of.result c.head_of.ensures c.read_past.new.reader
    c.in_ok-read.read c.finish-finished.result (all_ok g c tells) (Ok c.in_ok-log.log) (sym c.in_ok-log.was ∙ c.checked.ensures)

pub returns-clause-settled : goal.returns-clause-settled
returns-clause-settled g c = λ tells.
    let begun = c.in_ok-reader.ensures in
    let read = c.in_ok-read.ensures in
    finished_settled g.D.DiskCalls.told c.read_past.new.disk c.args.disk.now c.finish-finished.new.disk c.args.lane c.args.lanes c.head_of.result c.head_of.ensures c.read_past.new.reader
    c.in_ok-read.read c.finish-finished.result (all_ok g c tells) c.in_ok-log.log (sym c.checked.ensures ∙ c.in_ok-log.was) (c.finish-finished.ensures.durable (read.tells ∙ begun.tells ∙ tells))

pub returns-clause-moments : goal.returns-clause-moments
returns-clause-moments g c = λ tells.
    let told = g.D.DiskCalls.told in
    let begun = c.in_ok-reader.ensures in
    let read = c.in_ok-read.ensures in
    let on = begun.tells ∙ tells in
    let all = all_ok g c tells in
    reading_run told c.args.disk.now c.read_past.new.disk c.finish-finished.new.disk c.args.lane c.args.lanes c.head_of.result c.head_of.ensures (read.content on ∙ begun.content tells)
    (look_on told c.args.disk.now c.begin.new.disk c.read_past.new.disk (begun.moments tells) (read.moments on))
    (c.finish-finished.ensures.moments (read.tells ∙ on) c.head_of.result all.parts all.reading)

pub returns-in_err-reader-clause-clock : goal.returns-in_err-reader-clause-clock
returns-in_err-reader-clause-clock g c = λ tells.
    let told = g.D.DiskCalls.told in
    let text = told.seen c.args.disk.now in
    let before = told.clock c.args.disk.now in
    let now = told.clock c.begin.new.disk in
    let error = c.in_err-reader.field-0.0 in
    let e = c.in_err-reader.ensures in
    let read = parts_of (journal_head c.args.lane c.args.lanes) text in
    let refuses : Refuses read error = subst (λ (h : List ℕ). Refuses (parts_of h text) error) c.head_of.ensures (e.answer tells) in
    let p = err_from_is_err_and c.from_residual.result c.from_residual.ensures.1 in
    rw (p.1, p.2)
    (begun_opening (length text) before now read error refuses e.not_damaged e.not_full
    (begun_whole 2 (calls_of_end (behind_in read)) (length text) before now read error refuses e.not_damaged e.not_full (e.clock tells)))

pub returns-in_err-log-clause-clock : goal.returns-in_err-log-clause-clock
returns-in_err-log-clause-clock g c = λ tells.
    let told = g.D.DiskCalls.told in
    let old = c.args.disk.now in
    let text = told.seen old in
    let now = told.clock c.finish-finished.new.disk in
    let begun = c.in_ok-reader.ensures in
    let read = c.in_ok-read.ensures in
    let on = begun.tells ∙ tells in
    let all = all_err g c tells in
    let said = c.head_of.result in
    let whole = subst (λ (h : List ℕ). ReadsTo all.parts (parts_of h text)) (sym c.head_of.ensures) all.all in
    let ticks =
    finished_opening told old c.begin.new.disk c.read_past.new.disk c.finish-finished.new.disk said all.parts c.in_ok-reader.reader c.read_past.new.reader c.finish-finished.result c.in_ok-read.read.wrong
    (begun.clock tells) begun.window (read.moments on).past.later (read.clock on said (begun.answer tells)) read.within read.ended (read.content on ∙ begun.content tells) all.reading whole all.finish
    (c.finish-finished.ensures.clock (read.tells ∙ on) said all.parts all.reading) in
    let there = subst (λ (h : List ℕ). OpenedTicks (parts_of h text) (length text) (told.clock old) now (checked c.finish-finished.result c.in_ok-read.read.wrong)) c.head_of.ensures ticks in
    let p = err_from_is_err_and c.from_residual-in_err-log.result c.from_residual-in_err-log.ensures.1 in
    rw (p.1, p.2) (subst (λ (r : Result ℕ LogErr). OpenedTicks (parts_of (journal_head c.args.lane c.args.lanes) text) (length text) (told.clock old) now r) (sym (sym c.in_err-log.was ∙ c.checked.ensures)) there)

pub returns-clause-clock : goal.returns-clause-clock
returns-clause-clock g c = λ tells.
    let told = g.D.DiskCalls.told in
    let old = c.args.disk.now in
    let text = told.seen old in
    let now = told.clock c.finish-finished.new.disk in
    let begun = c.in_ok-reader.ensures in
    let read = c.in_ok-read.ensures in
    let on = begun.tells ∙ tells in
    let all = all_ok g c tells in
    let said = c.head_of.result in
    let whole = subst (λ (h : List ℕ). ReadsTo all.parts (parts_of h text)) (sym c.head_of.ensures) all.all in
    let ticks =
    finished_opening told old c.begin.new.disk c.read_past.new.disk c.finish-finished.new.disk said all.parts c.in_ok-reader.reader c.read_past.new.reader c.finish-finished.result c.in_ok-read.read.wrong
    (begun.clock tells) begun.window (read.moments on).past.later (read.clock on said (begun.answer tells)) read.within read.ended (read.content on ∙ begun.content tells) all.reading whole all.finish
    (c.finish-finished.ensures.clock (read.tells ∙ on) said all.parts all.reading) in
    let there = subst (λ (h : List ℕ). OpenedTicks (parts_of h text) (length text) (told.clock old) now (checked c.finish-finished.result c.in_ok-read.read.wrong)) c.head_of.ensures ticks in
    subst (λ (r : Result ℕ LogErr). OpenedTicks (parts_of (journal_head c.args.lane c.args.lanes) text) (length text) (told.clock old) now r) (sym (sym c.in_ok-log.was ∙ c.checked.ensures)) there
