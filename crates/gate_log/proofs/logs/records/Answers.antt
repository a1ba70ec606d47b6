use Rattle.std.proofs.Common.{◌≡◌, ℕ, List, [], Result, Ok, Err, length, refl, sym, ◌∙◌, ap, subst}
use Rattle.std.proofs.lemmas.Result.{err_from_is_err_and}
use Rattle.gate_log.specs.declared.log_errors.LogErr.{LogErr}
use Rattle.gate_log.specs.Reading.{parts_of}
use Rattle.gate_log.specs.Readers.{IsReading, IsReadTo}
use Rattle.gate_log.specs.ReadingLaws.{tells_on}
use Rattle.gate_log.specs.Calls.{EndErrTicks}
use Rattle.gate_log.specs.CallLaws.{begun_whole, whole_left, whole_ended, none_more}
use Rattle.gate_log.proofs.logs.records.Goals as goal

-- a refusal at the end
abbrev err_of : LogErr → Result (Unit {0}) LogErr
err_of error = Err error

pub returns-in_err-reader-clause-clock : goal.returns-in_err-reader-clause-clock
returns-in_err-reader-clause-clock g c = λ tells.
    let told = g.D.DiskCalls.told in
    let old = c.args.disk.now in
    let e = c.in_err-reader.ensures in
    let p = err_from_is_err_and c.from_residual.result c.from_residual.ensures.1 in
    rw (p.1, p.2)
    (begun_whole 1 0 (length (told.seen old)) (told.clock old) (told.clock c.look.new.disk) (parts_of c.args.head (told.seen old)) c.in_err-reader.field-0.0 (e.answer tells) e.not_damaged e.not_full (e.clock tells))

pub returns-in_err-parts-clause-clock : goal.returns-in_err-parts-clause-clock
returns-in_err-parts-clause-clock g c = λ tells.
    let told = g.D.DiskCalls.told in
    let old = c.args.disk.now in
    let begun = c.look.new.disk in
    let b = c.in_ok-reader.ensures in
    let begun_tells = tells_on told old begun b.tells tells in
    let still : told.seen begun ≡ told.seen old = b.content tells in
    let reading = subst (λ (t : List ℕ). IsReading c.args.head t [] c.in_ok-reader.reader) (sym still) (b.answer tells) in
    let e = c.in_err-parts.ensures in
    let p = err_from_is_err_and c.from_residual-in_err-parts.result c.from_residual-in_err-parts.ensures.1 in
    rw (p.1, p.2)
    (whole_left told old begun c.read_parts.new.disk c.args.head 1 c.in_ok-reader.reader c.read_parts.new.reader (b.clock tells) b.window (e.moments begun_tells).past.later
    0 (length (told.seen old)) (parts_of c.args.head (told.seen old)) c.in_err-parts.field-0.0 e.err (reading.long ∙ ap length still) (e.clock begun_tells c.args.head reading))

pub returns-in_err-ending-clause-clock : goal.returns-in_err-ending-clause-clock
returns-in_err-ending-clause-clock g c = λ tells.
    let told = g.D.DiskCalls.told in
    let old = c.args.disk.now in
    let begun = c.look.new.disk in
    let mid = c.read_parts.new.disk in
    let reader = c.read_parts.new.reader in
    let parts = c.in_ok-parts.parts.items in
    let text = told.seen old in
    let b = c.in_ok-reader.ensures in
    let r = c.in_ok-parts.ensures in
    let begun_tells = tells_on told old begun b.tells tells in
    let still : told.seen begun ≡ text = b.content tells in
    let first = subst (λ (t : List ℕ). IsReading c.args.head t [] c.in_ok-reader.reader) (sym still) (b.answer tells) in
    let here = subst (λ (t : List ℕ). IsReading c.args.head t parts reader × IsReadTo parts (parts_of c.args.head t)) still (r.reading begun_tells c.args.head first) in
    let error = c.in_err-ending.field-0.0 in
    let p = err_from_is_err_and c.from_residual-in_err-ending.result c.from_residual-in_err-ending.ensures.1 in
    rw (p.1, p.2) (whole_ended told old begun mid c.args.head 1 c.in_ok-reader.reader reader (b.clock tells) b.window (r.moments begun_tells).past.later text parts here.0 here.1 r.within r.ended (r.clock begun_tells c.args.head first) mid 0 (err_of error) (subst (λ (x : LogErr). EndErrTicks 0 (told.clock mid) (told.clock mid) x) (sym c.in_err-ending.ensures.1) refl))

pub returns-clause-clock : goal.returns-clause-clock
returns-clause-clock g c = λ tells.
    let told = g.D.DiskCalls.told in
    let old = c.args.disk.now in
    let begun = c.look.new.disk in
    let mid = c.read_parts.new.disk in
    let reader = c.read_parts.new.reader in
    let parts = c.in_ok-parts.parts.items in
    let text = told.seen old in
    let b = c.in_ok-reader.ensures in
    let r = c.in_ok-parts.ensures in
    let begun_tells = tells_on told old begun b.tells tells in
    let still : told.seen begun ≡ text = b.content tells in
    let first = subst (λ (t : List ℕ). IsReading c.args.head t [] c.in_ok-reader.reader) (sym still) (b.answer tells) in
    let here = subst (λ (t : List ℕ). IsReading c.args.head t parts reader × IsReadTo parts (parts_of c.args.head t)) still (r.reading begun_tells c.args.head first) in
    whole_ended told old begun mid c.args.head 1 c.in_ok-reader.reader reader (b.clock tells) b.window (r.moments begun_tells).past.later text parts here.0 here.1 r.within r.ended (r.clock begun_tells c.args.head first) mid 0 (Ok c.in_ok-parts.parts) (none_more (told.clock mid))
