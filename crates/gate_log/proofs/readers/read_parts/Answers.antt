use Rattle.std.proofs.Common.{◌≡◌, List, ℕ, [], ◌∷◌, ◌++◌, length, sym, ◌∙◌, ap, subst}
use Rattle.std.proofs.lemmas.Result.{err_from_is_err_and}
use Rattle.gate_log.specs.Readers.{IsReading}
use Rattle.gate_log.specs.Turns.{looked_on, turn_seen, turn_ticks, stop_ticks}
use Rattle.gate_log.proofs.readers.read_parts.Goals as goal

pub loop-parts-preserved : goal.loop-parts-preserved
loop-parts-preserved g c =
    let told = g.D.DiskCalls.told in
    let counts = g.D.DiskCalls.counts in
    let old = c.args.disk.now in
    let mid = c.loop-parts.disk in
    let new = c.next_part.new.disk in
    let inv = c.loop-parts.invariant in
    let e = c.in_ok-next_part.ensures in
    let before = c.loop-parts.parts.items in
    let pushed : c.push.new.self.items ≡ before ++ c.next_part.new.self.part ∷ [] =
    c.in_ok-push.ensures.items ∙ ap (λ (p : List ℕ). before ++ p ∷ []) (c.in_ok-from_slice.ensures ∙ c.part.ensures) in (
      looked_on told counts old mid new inv.0 e.tells e.cause.answer e.content e.moments,
      λ tells head reading.
          let was = inv.1 tells head reading in
          let on : IsReading head (told.seen old) (before ++ c.next_part.new.self.part ∷ []) c.next_part.new.self =
          rw c.if-branch.true at (turn_seen told counts old mid new inv.0 tells e.content c.loop-parts.reader c.next_part.new.self c.in_ok-next_part.field-0 e.reading head before was.0) in (
            subst (λ (l : List (List ℕ)). IsReading head (told.seen old) l c.next_part.new.self) (sym pushed) on,
            turn_ticks told counts old mid new inv.0 tells c.args.reader.now c.loop-parts.reader c.next_part.new.self c.in_ok-next_part.field-0 was.0.long was.1 e.clock,
          ),
    )

pub returns-clause-reading : goal.returns-clause-reading
returns-clause-reading g c = λ tells head reading.
    let told = g.D.DiskCalls.told in
    let counts = g.D.DiskCalls.counts in
    let old = c.args.disk.now in
    let inv = c.loop-parts.invariant in
    let e = c.in_ok-next_part.ensures in
    rw c.if-branch.false at (turn_seen told counts old c.loop-parts.disk c.next_part.new.disk inv.0 tells e.content c.loop-parts.reader c.next_part.new.self c.in_ok-next_part.field-0 e.reading head c.loop-parts.parts.items (inv.1 tells head reading).0)

pub returns-clause-clock : goal.returns-clause-clock
returns-clause-clock g c = λ tells head reading.
    let told = g.D.DiskCalls.told in
    let inv = c.loop-parts.invariant in
    let was = inv.1 tells head reading in
    turn_ticks told g.D.DiskCalls.counts c.args.disk.now c.loop-parts.disk c.next_part.new.disk inv.0 tells c.args.reader.now c.loop-parts.reader c.next_part.new.self c.in_ok-next_part.field-0 was.0.long was.1
    c.in_ok-next_part.ensures.clock

pub returns-in_err-from_slice-clause-clock : goal.returns-in_err-from_slice-clause-clock
returns-in_err-from_slice-clause-clock g c = λ tells head reading.
    let told = g.D.DiskCalls.told in
    let old = c.args.disk.now in
    let inv = c.loop-parts.invariant in
    let was = inv.1 tells head reading in
    let e = c.in_ok-next_part.ensures in
    let on = rw c.if-branch.true at (turn_seen told g.D.DiskCalls.counts old c.loop-parts.disk c.next_part.new.disk inv.0 tells e.content c.loop-parts.reader c.next_part.new.self c.in_ok-next_part.field-0 e.reading head c.loop-parts.parts.items was.0) in
    let ticks =
    turn_ticks told g.D.DiskCalls.counts old c.loop-parts.disk c.next_part.new.disk inv.0 tells c.args.reader.now c.loop-parts.reader c.next_part.new.self c.in_ok-next_part.field-0 was.0.long was.1 e.clock in
    let p = err_from_is_err_and c.from_residual-in_err-from_slice.result c.from_residual-in_err-from_slice.ensures.1 in
    rw p.1 (stop_ticks (told.clock old) (told.clock c.next_part.new.disk) (length (told.seen old)) c.args.reader.now c.next_part.new.self reading.long on.long e.within ticks)

pub returns-in_err-push-clause-clock : goal.returns-in_err-push-clause-clock
returns-in_err-push-clause-clock g c = λ tells head reading.
    let told = g.D.DiskCalls.told in
    let old = c.args.disk.now in
    let inv = c.loop-parts.invariant in
    let was = inv.1 tells head reading in
    let e = c.in_ok-next_part.ensures in
    let on = rw c.if-branch.true at (turn_seen told g.D.DiskCalls.counts old c.loop-parts.disk c.next_part.new.disk inv.0 tells e.content c.loop-parts.reader c.next_part.new.self c.in_ok-next_part.field-0 e.reading head c.loop-parts.parts.items was.0) in
    let ticks =
    turn_ticks told g.D.DiskCalls.counts old c.loop-parts.disk c.next_part.new.disk inv.0 tells c.args.reader.now c.loop-parts.reader c.next_part.new.self c.in_ok-next_part.field-0 was.0.long was.1 e.clock in
    let p = err_from_is_err_and c.from_residual-in_err-push.result c.from_residual-in_err-push.ensures.1 in
    rw p.1 (stop_ticks (told.clock old) (told.clock c.next_part.new.disk) (length (told.seen old)) c.args.reader.now c.next_part.new.self reading.long on.long e.within ticks)
