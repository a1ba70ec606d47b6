use Rattle.std.proofs.Common.{refl, ap, ◌∙◌}
use Rattle.lane_engine.proofs.OpeningLemmas.{opened_kept}
use Rattle.lane_engine.proofs.lanes.Lane.open.Goals as goal

-- src/openings.rt:27:5
pub returns-in-Ok-open-clause-kept : goal.returns-in-Ok-open-clause-kept
returns-in-Ok-open-clause-kept g c =
    opened_kept g.T.DiskCalls.told g.T.DiskCalls.counts g.T.SiteCalls.port g.T.SiteCalls.lines c.args.lane c.args.lanes c.args.site _
    (record {
      lane_is = c.in-Ok-open.ensures.lane.0;
      lanes_are = c.in-Ok-open.ensures.lane.1;
      not_stale = refl;
      lost = ap (λ v. v.items) c.of-in-Ok-open-2.ensures ∙ c.new-in-Ok-open-3.ensures.items;
      silent = c.new-in-Ok-open.ensures.keeps;
      moment = refl;
      name = c.new-in-Ok-open-2.ensures;
      end = refl;
    })
    c.in-Ok-open.ensures.tells (λ tells. c.in-Ok-open.ensures.moments tells) (λ tells. g.met.T.DiskCalls.seen_is_image c.args.site tells)
    c.in-Ok-open.ensures.history (λ tells. c.in-Ok-open.ensures.ready tells)
    c.in-Ok-open.ensures.cause.faults c.in-Ok-open.ensures.cause.wants
