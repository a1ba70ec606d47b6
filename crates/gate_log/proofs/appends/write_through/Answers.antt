use Rattle.std.proofs.Common.{length}
use Rattle.disk_model.specs.Disk.{Torn, Follows, image_now}
use Rattle.disk_model.specs.Runs.{joined, weaker, left_now}
use Rattle.gate_log.proofs.Steps.{still_tells, synced}
use Rattle.gate_log.proofs.appends.write_through.Goals as goal

pub returns-clause-moments : goal.returns-clause-moments
returns-clause-moments g c =
    λ tells.
    let told = g.D.DiskCalls.told in
    let old = c.args.disk.now in
    let mid = c.write_at.new.self in
    let new = c.sync.new.self in
    let P = Follows (Torn c.args.at (length c.args.from.now)) (image_now told old) in
    let mid_tells = still_tells told old mid c.write_at.ensures.tells tells in
    let written = c.write_at.ensures.moments tells in
    joined told old mid new P written
    (weaker told mid new (image_now told mid) P (c.sync.ensures.moments mid_tells) (left_now told old mid P written))

pub returns-clause-durable : goal.returns-clause-durable
returns-clause-durable g c =
    λ tells.
    let told = g.D.DiskCalls.told in
    let mid_tells = still_tells told c.args.disk.now c.write_at.new.self c.write_at.ensures.tells tells in
    synced told c.write_at.new.self c.sync.new.self c.sync.result (c.sync.ensures.durable mid_tells) (c.sync.ensures.content mid_tells)
