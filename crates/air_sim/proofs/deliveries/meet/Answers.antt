use Rattle.std.proofs.Common.{◌∙◌, ap, sym, subst, refl, []}
use Rattle.std.specs.Prelude.{IsTrue, Ok}
use Rattle.air_sim.specs.Meeting.{Restarts}
use Rattle.air_sim.proofs.MadeLemmas.{still_restarted, still_same}
use Rattle.air_sim.proofs.MeetLemmas.{joined_growth}
use Rattle.air_sim.proofs.RestartLemmas.{met_restarted}
use Rattle.air_sim.proofs.deliveries.meet.Goals as goal

pub returns-then-not-is_off-clause-logged : goal.returns-then-not-is_off-clause-logged
returns-then-not-is_off-clause-logged g c =
    λ tells.
    let card = c.args.card.now in
    let known = c.if-not-is_off.ensures.known refl in
    c.take.ensures.logged tells known.0 known.1 card known.2 (still_same g.D.DiskCalls.told g.met.D.DiskCalls.seen_is_image card known.0 known.1 tells known.2)

pub take-requires-in-Ok-true : goal.take-requires-in-Ok-true
take-requires-in-Ok-true g c =
    let back = subst (λ r. Restarts g.D.DiskCalls.told c.args.card.now c.restart.new.card r) (c.in-Ok-true.is ∙ ap Ok c.in-Ok-true.field-0-test) c.restart.ensures.restarts in
    record { known = (back.2.0, [], back.2.1) }

pub returns-in-Ok-true-clause-meets : goal.returns-in-Ok-true-clause-meets
returns-in-Ok-true-clause-meets g c =
    let back = subst (λ r. Restarts g.D.DiskCalls.told c.args.card.now c.restart.new.card r) (c.in-Ok-true.is ∙ ap Ok c.in-Ok-true.field-0-test) c.restart.ensures.restarts in
    met_restarted g.D.DiskCalls.told g.D.DiskCalls.counts c.args.card.now c.args.message.now c.args.cut (sym c.if-not-is_off.ensures.off) c.restart.new.card c.take-in-Ok-true.new.card _ back c.restart.ensures.facts c.take-in-Ok-true.ensures.meets

pub returns-in-Ok-true-clause-grows : goal.returns-in-Ok-true-clause-grows
returns-in-Ok-true-clause-grows g c =
    λ tells.
    joined_growth g.D.DiskCalls.told g.met.D.DiskCalls.seen_is_image c.args.card.now c.restart.new.card c.take-in-Ok-true.new.card (c.restart.ensures.grows tells)
    (c.take-in-Ok-true.ensures.grows (subst IsTrue (sym c.restart.ensures.tells) tells))

pub returns-in-Ok-true-clause-logged : goal.returns-in-Ok-true-clause-logged
returns-in-Ok-true-clause-logged g c =
    λ tells.
    let back = subst (λ r. Restarts g.D.DiskCalls.told c.args.card.now c.restart.new.card r) (c.in-Ok-true.is ∙ ap Ok c.in-Ok-true.field-0-test) c.restart.ensures.restarts in
    let issued = back.1 tells in
    let still = still_restarted g.D.DiskCalls.told g.met.D.DiskCalls.seen_is_image c.args.card.now c.restart.new.card (sym c.if-not-is_off.ensures.off) c.restart.ensures.facts issued in
    c.take-in-Ok-true.ensures.logged (subst IsTrue (sym c.restart.ensures.tells) tells) issued.content [] c.args.card.now issued.stands still
