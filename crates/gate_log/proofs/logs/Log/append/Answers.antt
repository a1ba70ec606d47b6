use Rattle.std.proofs.Common.{◌≡◌, ℕ, List, sym, ◌∙◌, ap, subst}
use Rattle.disk_model.specs.Disk.{DiskRun}
use Rattle.gate_log.specs.Append.{IsSettled, IsBeforeOrAfter, opened_with}
use Rattle.gate_log.specs.Batches.{framed}
use Rattle.gate_log.proofs.Appended.{open_settled, append_run, append_opens, append_settled}
use Rattle.gate_log.proofs.logs.Log.append.Goals as goal

pub append-requires-clause-settled : goal.append-requires-clause-settled
append-requires-clause-settled g c =
    λ tells.
    let told = g.D.DiskCalls.told in
    subst (λ (n : ℕ). IsSettled told c.args.disk.now n) (sym c.self.view_is) (open_settled told c.args.disk.now c.args.self.now (c.requires.settled tells))

pub returns-in_err-append-clause-moments : goal.returns-in_err-append-clause-moments
returns-in_err-append-clause-moments g c =
    λ tells head parts opened.
    let told = g.D.DiskCalls.told in
    let old = c.args.disk.now in
    let run = subst (λ (f : List ℕ). DiskRun told old c.append.new.disk (IsBeforeOrAfter (told.seen old) f)) c.framed-framed.ensures.octets (c.append.ensures.moments tells) in
    append_run told old c.append.new.disk head parts c.args.batch.now.parts opened c.requires.some c.framed-framed.ensures.small run

pub returns-clause-moments : goal.returns-clause-moments
returns-clause-moments g c =
    λ tells head parts opened.
    let told = g.D.DiskCalls.told in
    let old = c.args.disk.now in
    let run = subst (λ (f : List ℕ). DiskRun told old c.append.new.disk (IsBeforeOrAfter (told.seen old) f)) c.framed-framed.ensures.octets (c.append.ensures.moments tells) in
    append_run told old c.append.new.disk head parts c.args.batch.now.parts opened c.requires.some c.framed-framed.ensures.small run

pub returns-clause-appended : goal.returns-clause-appended
returns-clause-appended g c =
    λ tells head parts opened.
    let told = g.D.DiskCalls.told in
    let old = c.args.disk.now in
    let is : told.seen c.append.new.disk ≡ opened_with (told.seen old) (framed c.args.batch.now.parts) =
    c.in_ok-append.ensures.content tells ∙ ap (opened_with (told.seen old)) c.framed-framed.ensures.octets in
    append_opens told old c.append.new.disk head parts c.args.batch.now.parts opened c.requires.some c.framed-framed.ensures.small is

pub returns-clause-settled : goal.returns-clause-settled
returns-clause-settled g c =
    λ tells.
    let told = g.D.DiskCalls.told in
    let old = c.args.disk.now in
    let is : told.seen c.append.new.disk ≡ opened_with (told.seen old) (framed c.args.batch.now.parts) =
    c.in_ok-append.ensures.content tells ∙ ap (opened_with (told.seen old)) c.framed-framed.ensures.octets in
    append_settled told old c.append.new.disk c.args.self.now _ c.args.batch.now.parts (c.requires.settled tells) c.requires.some c.framed-framed.ensures.small is (c.in_ok-append.ensures.settled tells)
