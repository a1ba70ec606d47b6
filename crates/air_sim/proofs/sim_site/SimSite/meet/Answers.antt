use Rattle.std.proofs.Common.{◌∙◌, refl, subst, sym}
use Rattle.air_sim.specs.CardRuns.{AreLogged, reply_in}
use Rattle.air_sim.specs.Meeting.{Meets}
use Rattle.air_sim.proofs.SiteMeetLemmas.{answered_by, site_meets, site_works}
use Rattle.air_sim.proofs.sim_site.SimSite.meet.Goals as goal

pub returns-clause-works : goal.returns-clause-works
returns-clause-works g c =
    let told = g.D.DiskCalls.told in
    let it = c.meet-answer.ensures in
    site_works told g.D.DiskCalls.counts c.args.self.now _ c.args.card c.args.place c.requires.there it.card it.after it.is it.stands it.facts
    (record { card = c.args.card; message = c.args.message; answered = c.has_messages.result }) c.and-self.result.items c.and-self.ensures c.and-self-2.ensures refl refl refl it.tells it.grows
    (λ tells answered.
    subst (λ octets. AreLogged told it.card it.after octets) c.as_slice.ensures.value
    (answered_by c.meet-answer.result (sym c.has_messages.ensures ∙ answered) (it.logged tells)))

pub returns-clause-meets : goal.returns-clause-meets
returns-clause-meets g c =
    let told = g.D.DiskCalls.told in
    let counts = g.D.DiskCalls.counts in
    let it = c.meet-answer.ensures in
    site_meets told counts c.args.self.now
    (record c.args.self.now { parts = record c.args.self.now.parts { cards = c.meet-answer.new.self } }) c.args.card c.args.place c.requires.there it.card it.after it.is it.stands it.facts
    c.args.message.items c.args.cut (reply_in c.meet-answer.result)
    (subst (λ octets. Meets told counts it.card it.after octets c.args.cut (reply_in c.meet-answer.result)) c.as_slice.ensures.value it.meets)
