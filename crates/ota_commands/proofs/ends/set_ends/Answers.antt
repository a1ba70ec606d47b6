use Rattle.std.proofs.Common.{ap, ◌∙◌}
use Rattle.lane_session.specs.declared.lanes.Lane.{Lane}
use Rattle.ota_commands.specs.Ends.{end_of}
use Rattle.ota_commands.proofs.EndLaws.{one_set}
use Rattle.ota_commands.proofs.ends.set_ends.Goals as goal

pub loop-number-preserved : goal.loop-number-preserved
loop-number-preserved c =
    one_set c.args.lanes.now c.loop-number.ends c.loop-number.number c.index-lanes-number.result c.end_of.result c.loop-number-test.true
    (c.end_of.ensures ∙ ap (λ (lane : Lane). end_of c.loop-number.number lane.end) c.index-lanes-number.is) c.loop-number.invariant
