use Rattle.std.proofs.Common.{◌≡◌, List, ℕ, [], ◌∷◌, ◌++◌, true, false, refl, sym, ◌∙◌, ap, subst}
use Rattle.gate_log.specs.Readers.{IsReading, IsReadTo, IsReadOn}
use Rattle.card_store.specs.Content.{issued}
use Rattle.card_store.specs.Opening.{IsReplayedSoFar}
use Rattle.card_store.proofs.Reading.{SoFar, part_number, looked_none, looked_on, turn_seen}
use Rattle.card_store.proofs.openings.replay.Goals as goal

pub loop-kept-init : goal.loop-kept-init
loop-kept-init g c = (
  looked_none g.D.DiskCalls.told g.D.DiskCalls.counts c.args.disk.now,
  (issued c.args.facts.now, c.in_ok-kept.ensures),
  λ tells head reading. record { parts = []; reading = reading; read = record { content = issued c.args.facts.now; replays = refl; shows = c.in_ok-kept.ensures } },
)

pub loop-kept-preserved : goal.loop-kept-preserved
loop-kept-preserved g c =
    let told = g.D.DiskCalls.told in
    let counts = g.D.DiskCalls.counts in
    let old = c.args.disk.now in
    let mid = c.loop-kept.disk in
    let new = c.next_part.new.disk in
    let inv = c.loop-kept.invariant in
    let e = c.in_ok-next_part.ensures in
    let facts = c.args.facts.now in (
      looked_on told counts old mid new inv.0 e.tells e.cause.answer e.content e.moments,
      c.in_ok-bad.ensures.shown,
      λ tells head reading.
          let so_far = inv.2 tells head reading in
          let on : IsReading head (told.seen old) (so_far.parts ++ c.next_part.new.self.part ∷ []) c.next_part.new.self =
          rw c.if-branch.true at (turn_seen told counts old mid new inv.0 tells e.content c.loop-kept.reader c.next_part.new.self c.in_ok-next_part.field-0 e.reading head so_far.parts so_far.reading) in
          let number = c.given.ensures ∙ part_number head (told.seen old) so_far.parts c.next_part.new.self.part c.next_part.new.self on in
          let read = c.in_ok-bad.ensures.replayed so_far.parts so_far.read number in
          record {
            parts = so_far.parts ++ c.next_part.new.self.part ∷ [];
            reading = on;
            read = subst (λ (p : List ℕ). IsReplayedSoFar facts (so_far.parts ++ p ∷ []) c.take_part.new.kept c.in_ok-bad.bad) c.part.ensures read;
          },
    )

pub returns-clause-read : goal.returns-clause-read
returns-clause-read g c = λ tells head reading.
    let told = g.D.DiskCalls.told in
    let counts = g.D.DiskCalls.counts in
    let old = c.args.disk.now in
    let inv = c.loop-kept.invariant in
    let e = c.in_ok-next_part.ensures in
    let so_far = inv.2 tells head reading in
    let on = rw c.if-branch.false at (turn_seen told counts old c.loop-kept.disk c.next_part.new.disk inv.0 tells e.content c.loop-kept.reader c.next_part.new.self c.in_ok-next_part.field-0 e.reading head so_far.parts so_far.reading) in
    record { parts = so_far.parts; reading = on.0; all = on.1; so_far = so_far.read }
