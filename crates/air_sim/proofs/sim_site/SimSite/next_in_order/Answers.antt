use Rattle.std.proofs.Common.{◌≡◌, ◌≤◌, ◌∙◌, false, arith, length, nat_lt, refl, subst, sym}
use Rattle.std.proofs.lemmas.Bool.{ltb-true}
use Rattle.std.proofs.lemmas.Bool.Decides.{nat_tests}
use Rattle.air_sim.specs.Polls.{HandsInOrder, progress_of}
use Rattle.air_sim.proofs.PollLemmas.{next_handed, next_same_on, next_waits, orderly_wants, taken_same, taken_there}
use Rattle.air_sim.proofs.WorkingLemmas.{works_then}
use Rattle.air_sim.proofs.sim_site.SimSite.next_in_order.Goals as goal

pub returns-in-Ok-clause-works : goal.returns-in-Ok-clause-works
returns-in-Ok-clause-works g c =
    works_then g.D.DiskCalls.told c.args.self.now c.hand_over_in_order.new.self c.next_message-in-Ok.new.self c.hand_over_in_order.ensures.works c.next_message-in-Ok.ensures.works

pub returns-in-Ok-clause-goes : goal.returns-in-Ok-clause-goes
returns-in-Ok-clause-goes g c =
    let messages = c.args.self.now.parts.messages in
    let none : nat_lt messages.next (length messages.items) ≡ false = sym c.has_next.ensures.next ∙ c.if-has_next.false in
    let few : length messages.items ≤ messages.next = grind (arith, nat_tests) in
    next_handed g.D.DiskCalls.told g.D.DiskCalls.counts c.args.self.now c.hand_over_in_order.new.self c.next_message-in-Ok.new.self c.next_message-in-Ok.result c.next_message-in-Ok.ensures.same c.next_message-in-Ok.ensures.next
    (subst (λ result. HandsInOrder g.D.DiskCalls.told g.D.DiskCalls.counts (progress_of c.args.self.now) (progress_of c.hand_over_in_order.new.self) result) c.in-Ok.is c.hand_over_in_order.ensures.hands)
    c.hand_over_in_order.ensures.next few c.has_next.ensures.within

pub returns-in-Ok-clause-same : goal.returns-in-Ok-clause-same
returns-in-Ok-clause-same g c =
    next_same_on g.D.DiskCalls.told g.D.DiskCalls.counts c.args.self.now c.hand_over_in_order.new.self c.next_message-in-Ok.new.self c.next_message-in-Ok.result c.next_message-in-Ok.ensures.same c.next_message-in-Ok.ensures.next c.hand_over_in_order.ensures.same

pub returns-in-Ok-clause-there : goal.returns-in-Ok-clause-there
returns-in-Ok-clause-there g c = taken_there c.hand_over_in_order.new.self.parts.messages c.next_message-in-Ok.new.self.parts.messages c.next_message-in-Ok.result c.next_message-in-Ok.ensures.next

pub returns-in-Err-clause-goes : goal.returns-in-Err-clause-goes
returns-in-Err-clause-goes g c =
    let messages = c.args.self.now.parts.messages in
    let none : nat_lt messages.next (length messages.items) ≡ false = sym c.has_next.ensures.next ∙ c.if-has_next.false in
    let few : length messages.items ≤ messages.next = grind (arith, nat_tests) in
    orderly_wants g.D.DiskCalls.told g.D.DiskCalls.counts (progress_of c.args.self.now) (progress_of c.hand_over_in_order.new.self) c.in-Err.want
    (subst (λ result. HandsInOrder g.D.DiskCalls.told g.D.DiskCalls.counts (progress_of c.args.self.now) (progress_of c.hand_over_in_order.new.self) result) c.in-Err.is c.hand_over_in_order.ensures.hands)
    c.hand_over_in_order.ensures.next few

pub returns-then-has_next-clause-goes : goal.returns-then-has_next-clause-goes
returns-then-has_next-clause-goes g c =
    let messages = c.args.self.now.parts.messages in
    next_waits g.D.DiskCalls.told g.D.DiskCalls.counts c.args.self.now c.args.self.now c.next_message.new.self c.next_message.result c.next_message.ensures.same c.next_message.ensures.next refl
    (ltb-true messages.next (length messages.items) (sym c.has_next.ensures.next ∙ c.if-has_next.true))

pub returns-then-has_next-clause-same : goal.returns-then-has_next-clause-same
returns-then-has_next-clause-same g c = taken_same c.args.self.now c.next_message.new.self c.next_message.ensures.same

pub returns-then-has_next-clause-there : goal.returns-then-has_next-clause-there
returns-then-has_next-clause-there g c = taken_there c.args.self.now.parts.messages c.next_message.new.self.parts.messages c.next_message.result c.next_message.ensures.next
