use Rattle.std.proofs.Common.{◌≡◌, ◌<◌, ◌-◌, length, length-drop, refl, ap, arith}
use Rattle.std.specs.Vec.{vec_len}
use Rattle.gate_log.specs.Readers.{ReaderState}
use Rattle.gate_log.proofs.readers.LogReader.reach_part.Goals as goal

pub returns-then-self-gt0-clause-reached : goal.returns-then-self-gt0-clause-reached
returns-then-self-gt0-clause-reached g c =
    let items = c.self.inside.batch.items in
    let front = vec_len c.self.inside.batch - c.self.inside.left in
    let long : length items ≡ vec_len c.self.inside.batch = grind arith in
    let batch = ap (λ (s : ReaderState). length s.batch) c.self.view_is in
    let some : 0 < length c.args.self.now.batch = omega (arith, batch, long, length-drop front items, c.self.invariant.inside, c.if-self-gt0.true) in
    record { given = refl; fewer = omega arith; ended = λ none. absurd (omega (arith, some, ap length none)) }
