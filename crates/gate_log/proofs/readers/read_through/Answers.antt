use Rattle.std.proofs.Common.{[], ◌∷◌, ◌++◌}
use Rattle.gate_log.specs.Readers.{IsReading, IsReadTo}
use Rattle.gate_log.specs.Reading.{parts_of}
use Rattle.gate_log.specs.Turns.{looked_on, turn_seen, turn_ticks}
use Rattle.gate_log.proofs.readers.read_through.Goals as goal

pub loop-preserved : goal.loop-preserved
loop-preserved g c =
    let told = g.D.DiskCalls.told in
    let counts = g.D.DiskCalls.counts in
    let old = c.args.disk.now in
    let mid = c.loop.disk in
    let new = c.next_part.new.disk in
    let inv = c.loop.invariant in
    let e = c.in_ok-next_part.ensures in (
      looked_on told counts old mid new inv.0 e.tells e.cause.answer e.content e.moments,
      λ tells head parts reading.
          let before = inv.1 tells head parts reading in
          let up = before.0 in
          let on : IsReading head (told.seen old) (up.0 ++ c.next_part.new.self.part ∷ []) c.next_part.new.self =
          rw c.if-branch.true at (turn_seen told counts old mid new inv.0 tells e.content c.loop.reader c.next_part.new.self c.in_ok-next_part.field-0 e.reading head up.0 up.1) in (
            (up.0 ++ c.next_part.new.self.part ∷ [], on),
            turn_ticks told counts old mid new inv.0 tells c.args.reader.now c.loop.reader c.next_part.new.self c.in_ok-next_part.field-0 up.1.long before.1 e.clock,
          ),
    )

pub returns-clause-reading : goal.returns-clause-reading
returns-clause-reading g c = λ tells head parts reading.
    let told = g.D.DiskCalls.told in
    let counts = g.D.DiskCalls.counts in
    let old = c.args.disk.now in
    let inv = c.loop.invariant in
    let e = c.in_ok-next_part.ensures in
    let up = (inv.1 tells head parts reading).0 in
    let on : IsReading head (told.seen old) up.0 c.next_part.new.self × IsReadTo up.0 (parts_of head (told.seen old)) =
    rw c.if-branch.false at (turn_seen told counts old c.loop.disk c.next_part.new.disk inv.0 tells e.content c.loop.reader c.next_part.new.self c.in_ok-next_part.field-0 e.reading head up.0 up.1) in
    (up.0, on.0, on.1)

pub returns-clause-clock : goal.returns-clause-clock
returns-clause-clock g c = λ tells head parts reading.
    let told = g.D.DiskCalls.told in
    let inv = c.loop.invariant in
    let before = inv.1 tells head parts reading in
    turn_ticks told g.D.DiskCalls.counts c.args.disk.now c.loop.disk c.next_part.new.disk inv.0 tells c.args.reader.now c.loop.reader c.next_part.new.self c.in_ok-next_part.field-0 before.0.1.long before.1
    c.in_ok-next_part.ensures.clock
