use Rattle.std.proofs.Common.{rules, ◌≡◌, None, List, subst}
use Rattle.lane_session.specs.Differences.{histories_of}
use Rattle.lane_session.specs.Rows.{NoneDiffers}
use Rattle.lane_session.specs.declared.lanes.Lane.{Lane}
use Rattle.ota_commands.specs.Ends.{difference}
use Rattle.ota_commands.proofs.opening.open_agreeing.Goals as goal

pub returns-in-None-clause-opened : goal.returns-in-None-clause-opened
returns-in-None-clause-opened g c =
    let same : difference c.args.plan.now c.args.jobs.now (histories_of c.in-Ok.lanes.items) ≡ None = search (rules, c.difference.ensures.first, c.in-None.is, c.deref.ensures.value) in
    let lent : c.deref.result.now ≡ c.in-Ok.lanes.items = search (rules, c.deref.ensures.value) in
    record {
      are_opened = c.in-Ok.ensures.opened;
      none_differs = same;
      agree = subst (λ (lanes : List Lane). NoneDiffers c.args.jobs.now (histories_of lanes)) lent (c.difference.ensures.none c.in-None.is);
      distinct = c.requires.rows.distinct;
    }
