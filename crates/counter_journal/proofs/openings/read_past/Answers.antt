use Rattle.std.proofs.Common.{◌≡◌, List, ℕ, [], ◌∷◌, ◌++◌, true, false, length, sym, ◌∙◌, ap, subst}
use Rattle.std.proofs.lemmas.Result.{err_from_is_err_and}
use Rattle.gate_log.specs.Readers.{IsReading, IsReadTo, IsReadOn}
use Rattle.gate_log.specs.Reading.{parts_of}
use Rattle.counter_journal.specs.HistoryReading.{IsReadSoFar}
use Rattle.counter_journal.proofs.ReadLaws.{SoFar, part_number}
use Rattle.gate_log.specs.Turns.{looked_on, turn_seen, turn_ticks, stop_ticks}
use Rattle.counter_journal.proofs.openings.read_past.Goals as goal

pub loop-past-preserved : goal.loop-past-preserved
loop-past-preserved g c =
    let told = g.D.DiskCalls.told in
    let counts = g.D.DiskCalls.counts in
    let old = c.args.disk.now in
    let mid = c.loop-past.disk in
    let new = c.next_part.new.disk in
    let inv = c.loop-past.invariant in
    let e = c.in_ok-next_part.ensures in
    let lane = c.args.lane in
    let lanes = c.args.lanes in (
      looked_on told counts old mid new inv.0 e.tells e.cause.answer e.content e.moments,
      c.in_ok-wrong.ensures.kept,
      λ tells head reading.
          let was = inv.2 tells head reading in
          let so_far = was.0 in
          let on : IsReading head (told.seen old) (so_far.parts ++ c.next_part.new.self.part ∷ []) c.next_part.new.self =
          rw c.if-branch.true at (turn_seen told counts old mid new inv.0 tells e.content c.loop-past.reader c.next_part.new.self c.in_ok-next_part.field-0 e.reading head so_far.parts so_far.reading) in
          let number = c.given.ensures ∙ part_number head (told.seen old) so_far.parts c.next_part.new.self.part c.next_part.new.self on in
          let read = c.in_ok-wrong.ensures.read so_far.parts so_far.read number in (
            record {
              parts = so_far.parts ++ c.next_part.new.self.part ∷ [];
              reading = on;
              read = subst (λ (p : List ℕ). IsReadSoFar lane lanes (so_far.parts ++ p ∷ []) c.take_part.new.past c.in_ok-wrong.wrong) c.part.ensures read;
            },
            turn_ticks told counts old mid new inv.0 tells c.args.reader.now c.loop-past.reader c.next_part.new.self c.in_ok-next_part.field-0 so_far.reading.long was.1 e.clock,
          ),
    )

pub returns-clause-read : goal.returns-clause-read
returns-clause-read g c = λ tells head reading.
    let told = g.D.DiskCalls.told in
    let counts = g.D.DiskCalls.counts in
    let old = c.args.disk.now in
    let inv = c.loop-past.invariant in
    let e = c.in_ok-next_part.ensures in
    let so_far = (inv.2 tells head reading).0 in
    let on = rw c.if-branch.false at (turn_seen told counts old c.loop-past.disk c.next_part.new.disk inv.0 tells e.content c.loop-past.reader c.next_part.new.self c.in_ok-next_part.field-0 e.reading head so_far.parts so_far.reading) in
    record { parts = so_far.parts; reading = on.0; all = on.1; so_far = so_far.read }

pub returns-in_err-wrong-clause-clock : goal.returns-in_err-wrong-clause-clock
returns-in_err-wrong-clause-clock g c = λ tells head reading.
    let told = g.D.DiskCalls.told in
    let old = c.args.disk.now in
    let inv = c.loop-past.invariant in
    let was = inv.2 tells head reading in
    let so_far = was.0 in
    let e = c.in_ok-next_part.ensures in
    let on : IsReading head (told.seen old) (so_far.parts ++ c.next_part.new.self.part ∷ []) c.next_part.new.self =
    rw c.if-branch.true at (turn_seen told g.D.DiskCalls.counts old c.loop-past.disk c.next_part.new.disk inv.0 tells e.content c.loop-past.reader c.next_part.new.self c.in_ok-next_part.field-0 e.reading head so_far.parts so_far.reading) in
    let ticks =
    turn_ticks told g.D.DiskCalls.counts old c.loop-past.disk c.next_part.new.disk inv.0 tells c.args.reader.now c.loop-past.reader c.next_part.new.self c.in_ok-next_part.field-0 so_far.reading.long was.1 e.clock in
    let p = err_from_is_err_and c.from_residual-in_err-wrong.result c.from_residual-in_err-wrong.ensures.1 in
    rw p.1 (stop_ticks (told.clock old) (told.clock c.next_part.new.disk) (length (told.seen old)) c.args.reader.now c.next_part.new.self reading.long on.long e.within ticks)

pub returns-clause-clock : goal.returns-clause-clock
returns-clause-clock g c = λ tells head reading.
    let told = g.D.DiskCalls.told in
    let inv = c.loop-past.invariant in
    let was = inv.2 tells head reading in
    turn_ticks told g.D.DiskCalls.counts c.args.disk.now c.loop-past.disk c.next_part.new.disk inv.0 tells c.args.reader.now c.loop-past.reader c.next_part.new.self c.in_ok-next_part.field-0 was.0.reading.long was.1
    c.in_ok-next_part.ensures.clock
