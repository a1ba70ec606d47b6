use Rattle.std.proofs.Common.{◌∙◌, ap}
use Rattle.site_model.specs.Moments.{moments_after}
use Rattle.site_model.specs.Bare.{now_pair}
use Rattle.site_model.proofs.Calls.{call_run, call_ticks}
use Rattle.site_model.proofs.bare_site.BareSiteDiskCalls.sync.Goals as goal

pub returns-clause-moments : goal.returns-clause-moments
returns-clause-moments g c =
    λ tells.
    let told = g.D.DiskCalls.told in
    let old = c.args.self.now in
    call_run told old _ c.sync-outcome.result _ _ (c.sync-outcome.ensures.clock tells) (c.add_call.ensures ∙ ap (moments_after c.sync-outcome.result) c.reserve.ensures.items) (c.sync-outcome.ensures.moments tells) (now_pair told old.disk old.moments.items)

pub returns-clause-clock : goal.returns-clause-clock
returns-clause-clock g c =
    λ tells.
    let told = g.D.DiskCalls.told in
    let old = c.args.self.now in
    call_ticks c.sync-outcome.result (told.clock old.disk) _ old.moments.items _ (c.sync-outcome.ensures.clock tells) (c.add_call.ensures ∙ ap (moments_after c.sync-outcome.result) c.reserve.ensures.items)
