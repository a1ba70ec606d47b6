use Rattle.std.proofs.Common.{◌∙◌, ap, refl, ◌++◌, ◌∷◌, []}
use Rattle.air_sim.specs.Wants.{unless_want}
use Rattle.air_sim.proofs.PastLemmas.{now_is_image}
use Rattle.air_sim.proofs.CallLemmas.{call_run, call_ticks, durable_site}
use Rattle.air_sim.proofs.sim_site.SimSiteDiskCalls.sync.Goals as goal

pub returns-clause-moments : goal.returns-clause-moments
returns-clause-moments g c =
    λ tells.
    let told = g.D.DiskCalls.told in
    let old = c.args.self.now in
    call_run told old _ refl refl c.sync-outcome.result _ _ (c.sync-outcome.ensures.clock tells) (c.pass.ensures ∙ ap (unless_want c.sync-outcome.result old.past.items) c.and-past.ensures) (c.sync-outcome.ensures.moments tells) (now_is_image told old)

pub returns-clause-clock : goal.returns-clause-clock
returns-clause-clock g c =
    λ tells.
    let old = c.args.self.now in
    call_ticks c.sync-outcome.result old.past.items _ old.parts (c.pass.ensures ∙ ap (unless_want c.sync-outcome.result old.past.items) c.and-past.ensures)

pub returns-clause-durable : goal.returns-clause-durable
returns-clause-durable g c =
    λ tells.
    let told = g.D.DiskCalls.told in
    durable_site told (told.seen c.args.self.now.parts.journal) (record c.args.self.now { parts = record c.args.self.now.parts { journal = c.sync-outcome.new.self }; past = c.pass.new.past }) c.sync-outcome.result (c.sync-outcome.ensures.durable tells)
