use Rattle.std.proofs.Common.{◌∙◌, ap, refl, length}
use Rattle.disk_model.specs.Disk.{Torn}
use Rattle.disk_model.specs.Writing.{torn-same}
use Rattle.site_model.specs.Moments.{moments_after}
use Rattle.site_model.proofs.Calls.{call_run, stood_run, call_ticks, follows_pair}
use Rattle.site_model.proofs.bare_site.BareSiteDiskCalls.write_at.Goals as goal

pub returns-clause-moments : goal.returns-clause-moments
returns-clause-moments g c =
    λ tells.
    let told = g.D.DiskCalls.told in
    let old = c.args.self.now in
    call_run told old _ c.write_at-outcome.result _ _ (c.write_at-outcome.ensures.clock tells) (c.add_call.ensures ∙ ap (moments_after c.write_at-outcome.result) c.reserve.ensures.items) (c.write_at-outcome.ensures.moments tells) (follows_pair told old.disk old.moments.items (Torn c.args.at (length c.args.from.now)))

pub returns-clause-clock : goal.returns-clause-clock
returns-clause-clock g c =
    λ tells.
    let told = g.D.DiskCalls.told in
    let old = c.args.self.now in
    call_ticks c.write_at-outcome.result (told.clock old.disk) _ old.moments.items _ (c.write_at-outcome.ensures.clock tells) (c.add_call.ensures ∙ ap (moments_after c.write_at-outcome.result) c.reserve.ensures.items)

pub returns-then-is_err-clause-moments : goal.returns-then-is_err-clause-moments
returns-then-is_err-clause-moments g c =
    λ tells.
    stood_run g.D.DiskCalls.told c.args.self.now _ _ refl c.reserve.ensures.items (λ image now. (image, now, torn-same c.args.at (length c.args.from.now) image))
