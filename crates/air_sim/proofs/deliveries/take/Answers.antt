use Rattle.std.proofs.Common.{◌∙◌, ap, sym, subst}
use Rattle.std.specs.Prelude.{IsTrue}
use Rattle.receiving_entity.specs.Answer.{octets_of}
use Rattle.receiving_entity.specs.Receiving.{octets_in, reaction}
use Rattle.air_sim.specs.CardRuns.{AreLogged}
use Rattle.air_sim.specs.Meeting.{reply_of}
use Rattle.air_sim.proofs.MadeLemmas.{answer_logged}
use Rattle.air_sim.proofs.MeetLemmas.{joined_growth, receive_growth}
use Rattle.air_sim.proofs.RestartLemmas.{none_given, still_armed, takes}
use Rattle.air_sim.proofs.deliveries.take.Goals as goal

pub returns-in-Ok-clause-meets : goal.returns-in-Ok-clause-meets
returns-in-Ok-clause-meets g c =
    let told = g.D.DiskCalls.told in
    record {
      on = c.requires.known.2.on;
      armed = c.arm.new.card;
      arms = c.arm.ensures.arms;
      takes = takes told g.D.DiskCalls.counts c.arm.new.card c.receive.new.self c.args.message.now c.receive.result _ (sym (ap (λ r. reply_of (octets_in r)) c.in-Ok.is)) c.receive.ensures.reacts c.receive.ensures.keeps c.receive.ensures.facts;
    }

pub returns-in-Ok-clause-grows : goal.returns-in-Ok-clause-grows
returns-in-Ok-clause-grows g c =
    λ tells.
    let told = g.D.DiskCalls.told in
    let law = g.met.D.DiskCalls.seen_is_image in
    let armed = c.arm.new.card in
    let known = c.requires.known in
    let there = subst IsTrue (sym c.arm.ensures.tells) tells in
    let is = c.arm.ensures.stands known.0 known.1 known.2 in
    joined_growth told law c.args.card.now armed c.receive.new.self (c.arm.ensures.grows tells)
    (receive_growth told law armed c.receive.new.self known.0 known.1 (reaction armed.store.facts known.0 known.1 c.args.message.now) there is c.receive.ensures.facts (c.receive.ensures.moments there known.0 known.1 is))

pub returns-in-Ok-clause-logged : goal.returns-in-Ok-clause-logged
returns-in-Ok-clause-logged g c =
    λ tells content past before is still some.
    let told = g.D.DiskCalls.told in
    let law = g.met.D.DiskCalls.seen_is_image in
    let armed = c.arm.new.card in
    let there = subst IsTrue (sym c.arm.ensures.tells) tells in
    let after = subst IsTrue (sym (c.receive.ensures.tells ∙ c.arm.ensures.tells)) tells in
    let stands = c.arm.ensures.stands content past is in
    answer_logged told law armed c.receive.new.self content past c.args.message.now (octets_of c.in-Ok.messages.items) there after stands (c.in-Ok.ensures.reacts content past stands) before
    (still_armed told before c.args.card.now armed content past c.arm.ensures.facts still)

pub returns-in-Err-clause-meets : goal.returns-in-Err-clause-meets
returns-in-Err-clause-meets g c =
    let told = g.D.DiskCalls.told in
    record {
      on = c.requires.known.2.on;
      armed = c.arm.new.card;
      arms = c.arm.ensures.arms;
      takes = takes told g.D.DiskCalls.counts c.arm.new.card c.receive.new.self c.args.message.now c.receive.result _ (c.dropped.ensures.reply ∙ sym (ap (λ r. reply_of (octets_in r)) c.in-Err.is)) c.receive.ensures.reacts c.receive.ensures.keeps c.receive.ensures.facts;
    }

pub returns-in-Err-clause-grows : goal.returns-in-Err-clause-grows
returns-in-Err-clause-grows g c =
    λ tells.
    let told = g.D.DiskCalls.told in
    let law = g.met.D.DiskCalls.seen_is_image in
    let armed = c.arm.new.card in
    let known = c.requires.known in
    let there = subst IsTrue (sym c.arm.ensures.tells) tells in
    let is = c.arm.ensures.stands known.0 known.1 known.2 in
    joined_growth told law c.args.card.now armed c.receive.new.self (c.arm.ensures.grows tells)
    (receive_growth told law armed c.receive.new.self known.0 known.1 (reaction armed.store.facts known.0 known.1 c.args.message.now) there is c.receive.ensures.facts (c.receive.ensures.moments there known.0 known.1 is))

pub returns-in-Err-clause-logged : goal.returns-in-Err-clause-logged
returns-in-Err-clause-logged g c =
    λ tells content past before is still.
    none_given c.dropped.result (AreLogged g.D.DiskCalls.told before c.receive.new.self c.args.message.now) c.dropped.ensures.none
