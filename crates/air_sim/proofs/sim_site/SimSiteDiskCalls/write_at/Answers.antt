use Rattle.std.proofs.Common.{◌∙◌, ap, refl, ◌++◌, ◌∷◌, []}
use Rattle.air_sim.specs.Wants.{unless_want}
use Rattle.disk_model.specs.Disk.{Torn}
use Rattle.std.proofs.Common.{length}
use Rattle.air_sim.proofs.CallLemmas.{call_run, call_ticks, follows_site}
use Rattle.air_sim.proofs.sim_site.SimSiteDiskCalls.write_at.Goals as goal

pub returns-clause-moments : goal.returns-clause-moments
returns-clause-moments g c =
    λ tells.
    let told = g.D.DiskCalls.told in
    let old = c.args.self.now in
    call_run told old _ refl refl c.write_at-outcome.result _ _ (c.write_at-outcome.ensures.clock tells) (c.pass.ensures ∙ ap (unless_want c.write_at-outcome.result old.past.items) c.and-past.ensures) (c.write_at-outcome.ensures.moments tells) (follows_site told old (Torn c.args.at (length c.args.from.now)))

pub returns-clause-clock : goal.returns-clause-clock
returns-clause-clock g c =
    λ tells.
    let old = c.args.self.now in
    call_ticks c.write_at-outcome.result old.past.items _ old.parts (c.pass.ensures ∙ ap (unless_want c.write_at-outcome.result old.past.items) c.and-past.ensures)
