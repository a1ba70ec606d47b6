use Rattle.std.proofs.Common.{◌≡◌, Err, sym, ◌∙◌}
use Rattle.std.proofs.lemmas.Result.{err_from_is_err_and}
use Rattle.card_store.specs.declared.openings.OpenedStore.{OpenedStore}
use Rattle.card_store.proofs.MakingLaws.{either_opened, either_refused, either_left, either_run}
use Rattle.card_store.proofs.openings.open_log.Goals as goal

pub returns-in_err-opened-clause-answer : goal.returns-in_err-opened-clause-answer
returns-in_err-opened-clause-answer g c = λ tells.
    let told = g.D.DiskCalls.told in
    let p = err_from_is_err_and c.from_residual-in_err-opened.result c.from_residual-in_err-opened.ensures.1 in
    rw (p.1, p.2)
    (either_refused (told.seen c.args.disk.now) (told.seen c.format.new.disk) c.args.facts.now c.in_err-opened.field-0.0 (c.in_ok-format.ensures.answer tells) (c.in_err-opened.ensures.answer (c.in_ok-format.ensures.tells ∙ tells)))

pub returns-in_err-opened-clause-refused : goal.returns-in_err-opened-clause-refused
returns-in_err-opened-clause-refused g c = λ tells.
    let told = g.D.DiskCalls.told in
    let p = err_from_is_err_and c.from_residual-in_err-opened.result c.from_residual-in_err-opened.ensures.1 in
    rw (p.1, p.2)
    (either_left OpenedStore OpenedStore (told.seen c.args.disk.now) (told.seen c.format.new.disk) (told.seen c.read_log.new.disk) c.in_err-opened.field-0.0 (c.in_ok-format.ensures.answer tells)
    (c.in_err-opened.ensures.refused (c.in_ok-format.ensures.tells ∙ tells)))

pub returns-in_err-opened-clause-moments : goal.returns-in_err-opened-clause-moments
returns-in_err-opened-clause-moments g c = λ tells.
    either_run g.D.DiskCalls.told c.args.disk.now c.format.new.disk c.read_log.new.disk (c.in_ok-format.ensures.answer tells) (c.in_ok-format.ensures.moments tells)
    (c.in_err-opened.ensures.moments (c.in_ok-format.ensures.tells ∙ tells))

pub returns-clause-answer : goal.returns-clause-answer
returns-clause-answer g c = λ tells.
    let told = g.D.DiskCalls.told in
    either_opened (told.seen c.args.disk.now) (told.seen c.format.new.disk) (told.seen c.read_log.new.disk) c.args.facts.now c.in_ok-opened.opened (c.in_ok-format.ensures.answer tells)
    (c.in_ok-opened.ensures.answer (c.in_ok-format.ensures.tells ∙ tells))

pub returns-clause-moments : goal.returns-clause-moments
returns-clause-moments g c = λ tells.
    either_run g.D.DiskCalls.told c.args.disk.now c.format.new.disk c.read_log.new.disk (c.in_ok-format.ensures.answer tells) (c.in_ok-format.ensures.moments tells)
    (c.in_ok-opened.ensures.moments (c.in_ok-format.ensures.tells ∙ tells))
