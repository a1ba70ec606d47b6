use Rattle.applet_registry.specs.State.{with_state_of}
use Rattle.applet_registry.proofs.Changes.{IsChangedTo}
use Rattle.applet_registry.proofs.application.set_state.Given as goal

-- The applications so far have their new state, and the others are as they were.
abbrev pub invariant-loop-application : goal.invariant-loop-application
invariant-loop-application l = IsChangedTo (with_state_of l.new) l.initial.applications l.applications l.application-index
