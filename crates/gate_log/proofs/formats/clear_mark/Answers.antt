use Rattle.std.proofs.Common.{◌≡◌, length, arith, subst}
use Rattle.gate_log.specs.Formatting.{HasMark}
use Rattle.std.proofs.Common.{Bool, false}
use Rattle.gate_log.proofs.Made.{clear_run}
use Rattle.gate_log.proofs.formats.clear_mark.Goals as goal

pub returns-clause-moments : goal.returns-clause-moments
returns-clause-moments g c =
    λ tells.
    let told = g.D.DiskCalls.told in
    let nine : length c.args.head ≡ 9 = omega arith in
    let mark : HasMark false (told.seen c.args.disk.now) = subst (λ (b : Bool). HasMark b (told.seen c.args.disk.now)) c.if-marked.false (c.requires.mark tells) in
    clear_run told c.args.head nine c.args.disk.now c.write_through.new.disk (c.requires.only tells) (c.requires.unformatted tells) mark (c.write_through.ensures.moments tells)
