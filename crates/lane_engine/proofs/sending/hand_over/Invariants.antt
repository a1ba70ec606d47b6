use Rattle.std.proofs.Common.{◌-◌, ◌≤◌}
use Rattle.lane_engine.specs.Sending.{handed}
use Rattle.lane_engine.proofs.SendLemmas.{HasHanded}
use Rattle.lane_engine.proofs.sending.hand_over.Given as goal

abbrev pub invariant-loop-place : goal.invariant-loop-place
invariant-loop-place g l =
    (l.place ≤ l.fn.cover.pieces)
    × HasHanded g.T.DiskCalls.told g.T.DiskCalls.counts g.T.SiteCalls.port g.T.SiteCalls.lines l.fn.site l.site (handed l.fn.cover.card l.fn.packet l.fn.cover.reference l.place)

abbrev pub decreases-loop-place : goal.decreases-loop-place
decreases-loop-place g l = l.fn.cover.pieces - l.place
