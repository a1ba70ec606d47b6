use Rattle.std.proofs.Common.{◌≡◌, ℕ, List, [], length, sym, subst}
use Rattle.std.specs.Prelude.{IfOk}
use Rattle.std.proofs.lemmas.Result.{err_from_is_err_and}
use Rattle.gate_log.specs.Reading.{parts_of}
use Rattle.gate_log.specs.Readers.{IsReading, IsReadTo}
use Rattle.gate_log.specs.ReadingLaws.{tells_on}
use Rattle.gate_log.specs.CallLaws.{begun_whole, whole_looked}
use Rattle.gate_log.proofs.logs.sound_records.Goals as goal

pub returns-in_err-reader-clause-clock : goal.returns-in_err-reader-clause-clock
returns-in_err-reader-clause-clock g c = λ tells.
    let told = g.D.DiskCalls.told in
    let old = c.args.disk.now in
    let e = c.in_err-reader.ensures in
    let p = err_from_is_err_and c.from_residual.result c.from_residual.ensures.1 in
    rw (p.1, p.2)
    (begun_whole 1 0 (length (told.seen old)) (told.clock old) (told.clock c.look.new.disk) (parts_of c.args.head (told.seen old)) c.in_err-reader.field-0.0 (e.answer tells) e.not_damaged e.not_full (e.clock tells))

pub returns-clause-clock : goal.returns-clause-clock
returns-clause-clock g c = λ tells.
    let told = g.D.DiskCalls.told in
    let old = c.args.disk.now in
    let begun = c.look.new.disk in
    let mid = c.read_parts.new.disk in
    let reader = c.read_parts.new.reader in
    let text = told.seen old in
    let b = c.in_ok-reader.ensures in
    let r = c.read_parts.ensures in
    let begun_tells = tells_on told old begun b.tells tells in
    let still : told.seen begun ≡ text = b.content tells in
    let first = subst (λ (t : List ℕ). IsReading c.args.head t [] c.in_ok-reader.reader) (sym still) (b.answer tells) in
    let given = subst (λ (t : List ℕ). IfOk c.read_parts.result (λ parts. IsReading c.args.head t parts.items reader × IsReadTo parts.items (parts_of c.args.head t))) still (r.reading begun_tells c.args.head first) in
    whole_looked told old begun mid c.args.head 1 c.in_ok-reader.reader reader (b.clock tells) b.window (r.moments begun_tells).past.later text (λ parts. parts.items) c.read_parts.result given r.ended r.err r.within
    ((b.answer tells).long) (r.clock begun_tells c.args.head first)
