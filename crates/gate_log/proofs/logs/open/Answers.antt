use Rattle.std.proofs.Common.{◌≡◌, List, ℕ, [], length, sym, ◌∙◌, ap, subst}
use Rattle.gate_log.specs.Readers.{IsReading, IsReadTo, FinishAnswer}
use Rattle.gate_log.specs.ReadingLaws.{tells_on, look_on}
use Rattle.std.proofs.lemmas.Result.{err_from_is_err_and}
use Rattle.gate_log.specs.Reading.{parts_of}
use Rattle.gate_log.specs.Calls.{EndTicks, calls_of_end, behind_in}
use Rattle.gate_log.specs.CallLaws.{begun_whole, whole_left, whole_ended}
use Rattle.gate_log.proofs.Finished.{opened_answer, opened_settled, opened_moments}
use Rattle.gate_log.proofs.logs.open.Goals as goal

pub finish-requires-clause-long : goal.finish-requires-clause-long
finish-requires-clause-long g c = λ mid_tells.
    let told = g.D.DiskCalls.told in
    let old = c.args.disk.now in
    let begun = c.begin.new.disk in
    let mid = c.read_through.new.disk in
    let begun_tells = tells_on told mid begun (sym c.in_ok-read_through.ensures.tells) mid_tells in
    let tells = tells_on told begun old (sym c.in_ok-reader.ensures.tells) begun_tells in
    let up = c.in_ok-read_through.ensures.reading begun_tells c.args.head [] (c.in_ok-reader.ensures.answer tells) in
    up.1.long ∙ ap length (sym (c.in_ok-read_through.ensures.content begun_tells))

pub returns-clause-answer : goal.returns-clause-answer
returns-clause-answer g c = λ tells.
    let told = g.D.DiskCalls.told in
    let old = c.args.disk.now in
    let begun = c.begin.new.disk in
    let mid = c.read_through.new.disk in
    let reader = c.read_through.new.reader in
    let text = told.seen old in
    let begun_tells = tells_on told old begun c.in_ok-reader.ensures.tells tells in
    let mid_tells = tells_on told begun mid c.in_ok-read_through.ensures.tells begun_tells in
    let same : told.seen mid ≡ text = c.in_ok-read_through.ensures.content begun_tells ∙ c.in_ok-reader.ensures.content tells in
    let up = c.in_ok-read_through.ensures.reading begun_tells c.args.head [] (c.in_ok-reader.ensures.answer tells) in
    let reading : IsReading c.args.head (told.seen mid) up.0 reader = subst (λ (t : List ℕ). IsReading c.args.head t up.0 reader) (sym (c.in_ok-read_through.ensures.content begun_tells)) up.1 in
    let answer = subst (λ (t : List ℕ). FinishAnswer c.args.head t (told.seen c.finish.new.disk) up.0 c.finish.result) same (c.finish.ensures.answer mid_tells c.args.head up.0 reading) in
    opened_answer c.args.head text (told.seen c.finish.new.disk) up.0 c.finish.result answer

pub returns-clause-settled : goal.returns-clause-settled
returns-clause-settled g c = λ tells.
    let told = g.D.DiskCalls.told in
    let old = c.args.disk.now in
    let begun = c.begin.new.disk in
    let mid = c.read_through.new.disk in
    let reader = c.read_through.new.reader in
    let text = told.seen old in
    let begun_tells = tells_on told old begun c.in_ok-reader.ensures.tells tells in
    let mid_tells = tells_on told begun mid c.in_ok-read_through.ensures.tells begun_tells in
    let same : told.seen mid ≡ text = c.in_ok-read_through.ensures.content begun_tells ∙ c.in_ok-reader.ensures.content tells in
    let up = c.in_ok-read_through.ensures.reading begun_tells c.args.head [] (c.in_ok-reader.ensures.answer tells) in
    let reading : IsReading c.args.head (told.seen mid) up.0 reader = subst (λ (t : List ℕ). IsReading c.args.head t up.0 reader) (sym (c.in_ok-read_through.ensures.content begun_tells)) up.1 in
    opened_settled told c.finish.new.disk c.args.head (told.seen mid) up.0 c.finish.result (c.finish.ensures.answer mid_tells c.args.head up.0 reading) (c.finish.ensures.durable mid_tells)

pub returns-clause-moments : goal.returns-clause-moments
returns-clause-moments g c = λ tells.
    let told = g.D.DiskCalls.told in
    let old = c.args.disk.now in
    let begun = c.begin.new.disk in
    let mid = c.read_through.new.disk in
    let reader = c.read_through.new.reader in
    let text = told.seen old in
    let begun_tells = tells_on told old begun c.in_ok-reader.ensures.tells tells in
    let mid_tells = tells_on told begun mid c.in_ok-read_through.ensures.tells begun_tells in
    let same : told.seen mid ≡ text = c.in_ok-read_through.ensures.content begun_tells ∙ c.in_ok-reader.ensures.content tells in
    let up = c.in_ok-read_through.ensures.reading begun_tells c.args.head [] (c.in_ok-reader.ensures.answer tells) in
    let reading : IsReading c.args.head (told.seen mid) up.0 reader = subst (λ (t : List ℕ). IsReading c.args.head t up.0 reader) (sym (c.in_ok-read_through.ensures.content begun_tells)) up.1 in
    let looked = look_on told old begun mid (c.in_ok-reader.ensures.moments tells) (c.in_ok-read_through.ensures.moments begun_tells) in
    opened_moments told old mid c.finish.new.disk c.args.head looked same (c.finish.ensures.moments mid_tells c.args.head up.0 reading)

pub returns-in_err-reader-clause-clock : goal.returns-in_err-reader-clause-clock
returns-in_err-reader-clause-clock g c = λ tells.
    let told = g.D.DiskCalls.told in
    let old = c.args.disk.now in
    let read = parts_of c.args.head (told.seen old) in
    let e = c.in_err-reader.ensures in
    let p = err_from_is_err_and c.from_residual.result c.from_residual.ensures.1 in
    rw (p.1, p.2)
    (begun_whole 2 (calls_of_end (behind_in read)) (length (told.seen old)) (told.clock old) (told.clock c.begin.new.disk) read c.in_err-reader.field-0.0 (e.answer tells) e.not_damaged e.not_full (e.clock tells))

pub returns-in_err-read_through-clause-clock : goal.returns-in_err-read_through-clause-clock
returns-in_err-read_through-clause-clock g c = λ tells.
    let told = g.D.DiskCalls.told in
    let old = c.args.disk.now in
    let begun = c.begin.new.disk in
    let read = parts_of c.args.head (told.seen old) in
    let begun_tells = tells_on told old begun c.in_ok-reader.ensures.tells tells in
    let reading = c.in_ok-reader.ensures.answer tells in
    let e = c.in_err-read_through.ensures in
    let p = err_from_is_err_and c.from_residual-in_err-read_through.result c.from_residual-in_err-read_through.ensures.1 in
    rw (p.1, p.2)
    (whole_left told old begun c.read_through.new.disk c.args.head 2 c.in_ok-reader.reader c.read_through.new.reader (c.in_ok-reader.ensures.clock tells) c.in_ok-reader.ensures.window (e.moments begun_tells).past.later
    (calls_of_end (behind_in read)) (length (told.seen old)) read c.in_err-read_through.field-0.0 e.err (reading.long ∙ ap length (c.in_ok-reader.ensures.content tells)) (e.clock begun_tells c.args.head [] reading))

pub returns-clause-clock : goal.returns-clause-clock
returns-clause-clock g c = λ tells.
    let told = g.D.DiskCalls.told in
    let old = c.args.disk.now in
    let begun = c.begin.new.disk in
    let mid = c.read_through.new.disk in
    let reader = c.read_through.new.reader in
    let text = told.seen old in
    let begun_tells = tells_on told old begun c.in_ok-reader.ensures.tells tells in
    let mid_tells = tells_on told begun mid c.in_ok-read_through.ensures.tells begun_tells in
    let still : told.seen begun ≡ text = c.in_ok-reader.ensures.content tells in
    let same : told.seen mid ≡ text = c.in_ok-read_through.ensures.content begun_tells ∙ still in
    let first = c.in_ok-reader.ensures.answer tells in
    let up = c.in_ok-read_through.ensures.reading begun_tells c.args.head [] first in
    let here : IsReading c.args.head text up.0 reader × IsReadTo up.0 (parts_of c.args.head text) = subst (λ (t : List ℕ). IsReading c.args.head t up.0 reader × IsReadTo up.0 (parts_of c.args.head t)) still (up.1, up.2) in
    let there : IsReading c.args.head (told.seen mid) up.0 reader = subst (λ (t : List ℕ). IsReading c.args.head t up.0 reader) (sym same) here.0 in
    let end = subst (λ (t : List ℕ). EndTicks (behind_in (parts_of c.args.head t)) (told.clock mid) (told.clock c.finish.new.disk) c.finish.result) same (c.finish.ensures.clock mid_tells c.args.head up.0 there) in
    whole_ended told old begun mid c.args.head 2 c.in_ok-reader.reader reader (c.in_ok-reader.ensures.clock tells) c.in_ok-reader.ensures.window (c.in_ok-read_through.ensures.moments begun_tells).past.later text up.0 here.0 here.1
    c.in_ok-read_through.ensures.within c.in_ok-read_through.ensures.ended (c.in_ok-read_through.ensures.clock begun_tells c.args.head [] first) c.finish.new.disk (behind_in (parts_of c.args.head text)) c.finish.result end
