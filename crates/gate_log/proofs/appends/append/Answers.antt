use Rattle.std.proofs.Common.{◌≡◌, ℕ, ◌+◌, ◌-◌, [], ◌∷◌, length, sym, ◌∙◌, ap, subst}
use Rattle.disk_model.specs.Disk.{Only, overwritten, image_now}
use Rattle.disk_model.specs.Runs.{joined, weaker}
use Rattle.gate_log.specs.Log.{OPEN}
use Rattle.gate_log.specs.Append.{EndsClosed, opened_with, IsBeforeOrAfter}
use Rattle.gate_log.proofs.Octets.{first_write, after_first, second_write, after_second, length-opened_with, ends_closed}
use Rattle.gate_log.proofs.Steps.{still_tells, one_ok, both_ok}
use Rattle.gate_log.proofs.appends.append.Goals as goal

pub returns-in_err-write_through-clause-moments : goal.returns-in_err-write_through-clause-moments
returns-in_err-write_through-clause-moments g c =
    λ tells.
    let told = g.D.DiskCalls.told in
    let old = c.args.disk.now in
    let settled = c.requires.settled tells in
    weaker told old c.write_through.new.disk _ _ (c.write_through.ensures.moments tells)
    (first_write (told.seen old) c.args.framed.now settled.ends c.args.len settled.long (image_now told old) settled.only)

pub returns-clause-moments : goal.returns-clause-moments
returns-clause-moments g c =
    λ tells.
    let told = g.D.DiskCalls.told in
    let old = c.args.disk.now in
    let mid = c.write_through.new.disk in
    let new = c.write_through-2.new.disk in
    let settled = c.requires.settled tells in
    let log = told.seen old in
    let framed = c.args.framed.now in
    let P = IsBeforeOrAfter log framed in
    let mid_tells = still_tells told old mid c.write_through.ensures.tells tells in
    let is = after_first log framed settled.ends c.args.len settled.long (told.seen mid) (c.in_ok-write_through.ensures.content tells) in
    joined told old mid new P
    (weaker told old mid _ P (c.write_through.ensures.moments tells)
    (first_write log framed settled.ends c.args.len settled.long (image_now told old) settled.only))
    (weaker told mid new _ P (c.write_through-2.ensures.moments mid_tells)
    (second_write log framed settled.ends c.args.len settled.long (told.seen mid) is (image_now told mid) (c.in_ok-write_through.ensures.durable tells)))

pub returns-clause-content : goal.returns-clause-content
returns-clause-content g c =
    λ tells.
    let told = g.D.DiskCalls.told in
    let old = c.args.disk.now in
    let mid = c.write_through.new.disk in
    let new = c.write_through-2.new.disk in
    let settled = c.requires.settled tells in
    let log = told.seen old in
    let framed = c.args.framed.now in
    let mid_tells = still_tells told old mid c.write_through.ensures.tells tells in
    let is = after_first log framed settled.ends c.args.len settled.long (told.seen mid) (c.in_ok-write_through.ensures.content tells) in
    one_ok c.write_through-2.result (c.write_through-2.ensures.content mid_tells)
    (after_second log framed settled.ends c.args.len settled.long (told.seen mid) (told.seen new) is)

pub returns-clause-settled : goal.returns-clause-settled
returns-clause-settled g c =
    λ tells.
    let told = g.D.DiskCalls.told in
    let old = c.args.disk.now in
    let mid = c.write_through.new.disk in
    let new = c.write_through-2.new.disk in
    let settled = c.requires.settled tells in
    let log = told.seen old in
    let framed = c.args.framed.now in
    let mid_tells = still_tells told old mid c.write_through.ensures.tells tells in
    let is = after_first log framed settled.ends c.args.len settled.long (told.seen mid) (c.in_ok-write_through.ensures.content tells) in
    both_ok c.write_through-2.result (c.write_through-2.ensures.content mid_tells) (c.write_through-2.ensures.durable mid_tells)
    (λ (written : told.seen new ≡ overwritten (told.seen mid) (c.args.len - 1) (OPEN ∷ [])) (only : Only (told.seen new) (image_now told new)).
    let done : told.seen new ≡ opened_with log framed =
    after_second log framed settled.ends c.args.len settled.long (told.seen mid) (told.seen new) is written in
    record {
      only = only;
      long = ap length done ∙ length-opened_with log framed settled.ends ∙ ap (λ (n : ℕ). n + length framed) settled.long;
      ends = subst EndsClosed (sym done) (ends_closed log framed settled.ends c.requires.framed);
    })
