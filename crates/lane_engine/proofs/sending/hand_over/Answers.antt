use Rattle.std.proofs.Common.{arith}
use Rattle.lane_engine.proofs.SendLemmas.{handed_none, piece_handed, piece_stopped}
use Rattle.lane_engine.proofs.sending.hand_over.Goals as goal

pub loop-place-init : goal.loop-place-init
loop-place-init g c = (omega arith, handed_none g.T.DiskCalls.told g.T.DiskCalls.counts g.T.SiteCalls.port g.T.SiteCalls.lines c.args.site.now)

pub loop-place-preserved : goal.loop-place-preserved
loop-place-preserved g c =
    let below = c.loop-place-test.true in (
      omega (arith, below),
      piece_handed g.T.DiskCalls.told g.T.DiskCalls.counts g.T.SiteCalls.port g.T.SiteCalls.lines c.args.site.now c.loop-place.site c.send.new.self c.args.cover.card c.args.packet.now
          c.args.cover.reference c.loop-place.place c.loop-place.invariant.1 c.send.ensures.moments c.send.ensures.keeps c.send.ensures.content c.send.ensures.tells
          c.in_ok-send.ensures.cause.ok_faults c.in_ok-send.ensures.cause.ok_wants c.in_ok-send.ensures.sent,
    )

pub returns-in_err-send-clause-hands : goal.returns-in_err-send-clause-hands
returns-in_err-send-clause-hands g c = λ tells.
    let below = c.loop-place-test.true in
    piece_stopped g.T.DiskCalls.told g.T.DiskCalls.counts g.T.SiteCalls.port g.T.SiteCalls.lines c.args.site.now c.loop-place.site c.send.new.self c.args.cover.card c.args.packet.now
    c.args.cover.reference c.loop-place.place c.loop-place.invariant.1 c.send.ensures.moments c.send.ensures.keeps c.send.ensures.content c.args.cover.pieces (omega (arith, below)) tells
