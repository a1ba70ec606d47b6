use Rattle.std.proofs.Common.{◌<◌, arith}
use Rattle.gate_log.proofs.Windowed.{taking_began, taking_on}
use Rattle.gate_log.proofs.windows.Windows.take.Goals as goal

pub loop-wanted-init : goal.loop-wanted-init
loop-wanted-init g c =
    let e = c.in_ok-wanted.ensures in
    taking_began g.D.DiskCalls.told g.D.DiskCalls.counts c.args.disk.now c.args.into.now.items c.give.new.into.items c.args.count c.in_ok-wanted.wanted c.args.self.now c.give.new.self e.still e.octets e.windows c.give.ensures.within

pub loop-wanted-preserved : goal.loop-wanted-preserved
loop-wanted-preserved g c =
    let e = c.in_ok-wanted-2.ensures in
    let some : 0 < c.loop-wanted.wanted = grind arith in
    taking_on g.D.DiskCalls.told g.D.DiskCalls.counts c.args.disk.now c.loop-wanted.disk c.fill.new.disk c.args.into.now.items c.loop-wanted.into.items c.give-in-loop-wanted.new.into.items c.args.count c.loop-wanted.wanted c.in_ok-wanted-2.wanted c.args.self.now c.loop-wanted.self c.fill.new.self c.give-in-loop-wanted.new.self
    c.loop-wanted.invariant some c.in_ok-fill.ensures.looks c.in_ok-fill.ensures.rest c.fill.ensures.place e.still e.octets e.windows c.give-in-loop-wanted.ensures.within
