use Rattle.std.proofs.Common.{◌≡◌, List, ℕ, ◌+◌, take, length, refl, sym, ◌∙◌, ap, subst, arith}
use Rattle.std.specs.Prelude.{min}
use Rattle.std.proofs.lemmas.Result.{err_from_is_err_and}
use Rattle.gate_log.specs.Reading.{heading_of}
use Rattle.gate_log.specs.Windows.{rest_of}
use Rattle.gate_log.specs.ReadingLaws.{tells_on, look_on}
use Rattle.gate_log.specs.Calls.{FirstErrTicks}
use Rattle.gate_log.specs.CallLaws.{begin_first, begin_heading}
use Rattle.gate_log.proofs.ReaderParts.{window_refuses, began, reader_began, batch_none}
use Rattle.gate_log.proofs.readers.LogReader.look.Goals as goal

pub returns-in_err-check_heading-clause-answer : goal.returns-in_err-check_heading-clause-answer
returns-in_err-check_heading-clause-answer g c = λ tells.
    let told = g.D.DiskCalls.told in
    let old = c.args.disk.now in
    let mid = c.begin.new.disk in
    let text = told.seen old in
    let same : told.seen mid ≡ text = c.in_ok-windows.ensures.content tells in
    let mid_tells = tells_on told old mid c.in_ok-windows.ensures.tells tells in
    let octets = c.in_ok-first.ensures.octets mid_tells (c.in_ok-windows.ensures.long tells ∙ ap length (sym same)) in
    let window : c.ahead.result.now ≡ take 65536 text = c.ahead.ensures ∙ octets.0 ∙ ap (take 65536) same in
    let p = err_from_is_err_and c.from_residual-in_err-check_heading.result c.from_residual-in_err-check_heading.ensures.1 in
    rw (p.1, p.2) (window_refuses c.args.head text c.ahead.result.now c.in_err-check_heading.field-0.0 window (sym (c.in_err-check_heading.was) ∙ c.check_heading.ensures.answer))

pub invariant_of-result : goal.invariant_of-result
invariant_of-result g c =
    let window : length c.ahead.result.now ≡ length c.first.new.self.ahead = ap length c.ahead.ensures in
    reader_began c.new.result.items _ c.first.new.self c.pass.new.self c.new.ensures.items c.pass.ensures (omega (arith, window, c.in_ok-check_heading.ensures.long)) c.in_ok-first.ensures.within

pub returns-clause-answer : goal.returns-clause-answer
returns-clause-answer g c = λ tells.
    let told = g.D.DiskCalls.told in
    let old = c.args.disk.now in
    let mid = c.begin.new.disk in
    let text = told.seen old in
    let same : told.seen mid ≡ text = c.in_ok-windows.ensures.content tells in
    let mid_tells = tells_on told old mid c.in_ok-windows.ensures.tells tells in
    let long : c.in_ok-windows.windows.long ≡ length (told.seen mid) = c.in_ok-windows.ensures.long tells ∙ ap length (sym same) in
    let octets = c.in_ok-first.ensures.octets mid_tells long in
    let window : c.ahead.result.now ≡ take 65536 text = c.ahead.ensures ∙ octets.0 ∙ ap (take 65536) same in
    let rest : rest_of text c.first.new.self ≡ text = subst (λ (t : List ℕ). rest_of t c.first.new.self ≡ t) same octets.1 in
    let size : c.first.new.self.long ≡ length text = c.in_ok-first.ensures.looks.long mid_tells long ∙ c.in_ok-windows.ensures.long tells in
    began c.args.head text c.ahead.result.now c.first.new.self _ window (sym (c.in_ok-check_heading.was) ∙ c.check_heading.ensures.answer) c.in_ok-check_heading.ensures.long (sym c.ahead.ensures) rest size c.pass.ensures (batch_none c.new.result.items _ c.new.ensures.items) refl refl

pub returns-clause-moments : goal.returns-clause-moments
returns-clause-moments g c = λ tells.
    let told = g.D.DiskCalls.told in
    let old = c.args.disk.now in
    let mid = c.begin.new.disk in
    look_on told old mid c.first.new.disk (c.in_ok-windows.ensures.moments tells) (c.in_ok-first.ensures.looks.moments (tells_on told old mid c.in_ok-windows.ensures.tells tells))

pub returns-in_err-first-clause-clock : goal.returns-in_err-first-clause-clock
returns-in_err-first-clause-clock g c = λ tells.
    let told = g.D.DiskCalls.told in
    let old = c.args.disk.now in
    let mid = c.begin.new.disk in
    let error = c.in_err-first.field-0.0 in
    let ticks : FirstErrTicks (length (told.seen old)) (told.clock mid) (told.clock c.first.new.disk) error =
    subst (λ (n : ℕ). FirstErrTicks n (told.clock mid) (told.clock c.first.new.disk) error) (c.in_ok-windows.ensures.long tells)
    (c.in_err-first.ensures.clock (tells_on told old mid c.in_ok-windows.ensures.tells tells)) in
    let p = err_from_is_err_and c.from_residual-in_err-first.result c.from_residual-in_err-first.ensures.1 in
    rw (p.1, p.2) (begin_first 1 (length (told.seen old)) (told.clock old) (told.clock mid) (told.clock c.first.new.disk) error c.in_err-first.ensures.looks.err (c.in_ok-windows.ensures.clock tells) ticks)

pub returns-in_err-check_heading-clause-clock : goal.returns-in_err-check_heading-clause-clock
returns-in_err-check_heading-clause-clock g c = λ tells.
    let told = g.D.DiskCalls.told in
    let old = c.args.disk.now in
    let mid = c.begin.new.disk in
    let now = told.clock c.first.new.disk in
    let long : c.in_ok-windows.windows.long ≡ length (told.seen old) = c.in_ok-windows.ensures.long tells in
    let first = c.in_ok-windows.ensures.clock tells in
    let ticks = c.in_ok-first.ensures.clock (tells_on told old mid c.in_ok-windows.ensures.tells tells) in
    let is : now ≡ told.clock old + 1 + min 1 (length (told.seen old)) = omega (arith, first, ticks, long) in
    let p = err_from_is_err_and c.from_residual-in_err-check_heading.result c.from_residual-in_err-check_heading.ensures.1 in
    rw (p.1, p.2)
    (begin_heading 1 (length (told.seen old)) (told.clock old) now (heading_of c.args.head c.ahead.result.now) c.in_err-check_heading.field-0.0 (sym (c.in_err-check_heading.was) ∙ c.check_heading.ensures.answer) is)
