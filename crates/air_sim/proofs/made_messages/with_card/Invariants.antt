use Rattle.std.proofs.Common.{◌≡◌, map}
use Rattle.air_sim.proofs.made_messages.with_card.Given as goal

abbrev pub invariant-loop-message : goal.invariant-loop-message
invariant-loop-message l = l.messages.items ≡ map (λ message. (l.card, message)) l.yielded
