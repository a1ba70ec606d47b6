use Rattle.std.proofs.Common.{◌∙◌, ap, refl, ◌++◌, ◌∷◌, []}
use Rattle.air_sim.specs.Wants.{unless_want}
use Rattle.disk_model.specs.Disk.{Cut}
use Rattle.air_sim.proofs.CallLemmas.{call_run, call_ticks, follows_site}
use Rattle.air_sim.proofs.sim_site.SimSiteDiskCalls.cut.Goals as goal

pub returns-clause-moments : goal.returns-clause-moments
returns-clause-moments g c =
    λ tells.
    let told = g.D.DiskCalls.told in
    let old = c.args.self.now in
    call_run told old _ refl refl c.cut-outcome.result _ _ (c.cut-outcome.ensures.clock tells) (c.pass.ensures ∙ ap (unless_want c.cut-outcome.result old.past.items) c.and-past.ensures) (c.cut-outcome.ensures.moments tells) (follows_site told old (Cut c.args.len))

pub returns-clause-clock : goal.returns-clause-clock
returns-clause-clock g c =
    λ tells.
    let old = c.args.self.now in
    call_ticks c.cut-outcome.result old.past.items _ old.parts (c.pass.ensures ∙ ap (unless_want c.cut-outcome.result old.past.items) c.and-past.ensures)
