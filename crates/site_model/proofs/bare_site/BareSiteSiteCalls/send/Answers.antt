use Rattle.std.proofs.Common.{◌∙◌, ◌++◌, ◌∷◌, [], List, ap}
use Rattle.site_model.specs.declared.departures.Departure.{Departure}
use Rattle.site_model.specs.declared.moments.Moment.{Moment}
use Rattle.site_model.specs.declared.moments.Moment.TheVariants.{Sent}
use Rattle.site_model.proofs.Calls.{keeps, send_run, sent_now}
use Rattle.site_model.proofs.bare_site.BareSiteSiteCalls.send.Goals as goal

pub returns-in-None-clause-keeps : goal.returns-in-None-clause-keeps
returns-in-None-clause-keeps g c = λ tells. keeps g.D.DiskCalls.told c.args.self.now _

pub returns-in-Some-clause-keeps : goal.returns-in-Some-clause-keeps
returns-in-Some-clause-keeps g c = λ tells. keeps g.D.DiskCalls.told c.args.self.now _

pub returns-in-Some-clause-moments : goal.returns-in-Some-clause-moments
returns-in-Some-clause-moments g c =
    λ tells. send_run g.D.DiskCalls.told c.args.self.now _ _ c.in-Some.ensures.disk
    (c.add.ensures ∙ ap (λ (l : List Moment). l ++ Sent c.in-Some.departure ∷ []) c.in-Some.ensures.moments
    ∙ ap (λ (d : Departure). c.args.self.now.moments.items ++ Sent d ∷ []) c.in-Some.ensures.departure)

pub returns-in-Some-clause-sent : goal.returns-in-Some-clause-sent
returns-in-Some-clause-sent g c =
    λ tells. sent_now (g.D.DiskCalls.told.clock c.args.self.now.disk) (g.D.DiskCalls.told.clock c.departure.new.self.disk) c.args.self.now.moments.items c.add.new.moments.items _
    (c.add.ensures ∙ ap (λ (l : List Moment). l ++ Sent c.in-Some.departure ∷ []) c.in-Some.ensures.moments
    ∙ ap (λ (d : Departure). c.args.self.now.moments.items ++ Sent d ∷ []) c.in-Some.ensures.departure)
