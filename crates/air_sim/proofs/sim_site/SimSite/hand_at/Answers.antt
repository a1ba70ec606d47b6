use Rattle.std.proofs.Common.{ap}
use Rattle.air_sim.specs.CardRuns.{reply_in}
use Rattle.air_sim.proofs.HandingLemmas.{message_kept, message_wanting}
use Rattle.air_sim.proofs.WorkingLemmas.{works_then}
use Rattle.air_sim.proofs.sim_site.SimSite.hand_at.Goals as goal

pub returns-in-Ok-clause-works : goal.returns-in-Ok-clause-works
returns-in-Ok-clause-works g c = works_then g.D.DiskCalls.told c.args.self.now c.meet.new.self c.keep_answer.new.self c.meet.ensures.works c.keep_answer.ensures.works

pub returns-in-Ok-clause-hands : goal.returns-in-Ok-clause-hands
returns-in-Ok-clause-hands g c =
    message_kept g.D.DiskCalls.told g.D.DiskCalls.counts c.args.self.now.parts c.meet.new.self.parts c.keep_answer.new.self.parts c.args.card c.args.message.items c.args.cut (reply_in c.meet.result) c.meet.ensures.meets
    (ap (λ s. s.parts.cards.items) c.keep_answer.ensures.same) (ap (λ s. s.parts.messages) c.meet.ensures.same) c.in-Ok.answer.items (ap reply_in c.in-Ok.is) c.keep_answer.result c.keep_answer.ensures.keeps
