use Rattle.std.proofs.Common.{◌∙◌, ap, refl, ◌++◌, ◌∷◌, []}
use Rattle.air_sim.specs.Wants.{unless_want}
use Rattle.air_sim.proofs.PastLemmas.{now_is_image}
use Rattle.air_sim.proofs.CallLemmas.{call_run, call_ticks}
use Rattle.air_sim.proofs.sim_site.SimSiteDiskCalls.read_at.Goals as goal

pub returns-clause-moments : goal.returns-clause-moments
returns-clause-moments g c =
    λ tells.
    let told = g.D.DiskCalls.told in
    let old = c.args.self.now in
    call_run told old _ refl refl c.read_at-outcome.result _ _ (c.read_at-outcome.ensures.clock tells) (c.pass.ensures ∙ ap (unless_want c.read_at-outcome.result old.past.items) c.and-past.ensures) (c.read_at-outcome.ensures.moments tells) (now_is_image told old)

pub returns-clause-clock : goal.returns-clause-clock
returns-clause-clock g c =
    λ tells.
    let old = c.args.self.now in
    call_ticks c.read_at-outcome.result old.past.items _ old.parts (c.pass.ensures ∙ ap (unless_want c.read_at-outcome.result old.past.items) c.and-past.ensures)
