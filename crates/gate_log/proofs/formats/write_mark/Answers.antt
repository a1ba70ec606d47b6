use Rattle.std.proofs.Common.{◌≡◌, length, arith}
use Rattle.gate_log.proofs.Made.{mark_run}
use Rattle.gate_log.proofs.formats.write_mark.Goals as goal

pub returns-clause-moments : goal.returns-clause-moments
returns-clause-moments g c =
    λ tells.
    let told = g.D.DiskCalls.told in
    let nine : length c.args.head ≡ 9 = omega arith in
    mark_run told c.args.head nine c.args.disk.now c.write_through.new.disk (c.requires.only tells) (c.requires.content tells) (c.write_through.ensures.moments tells)
