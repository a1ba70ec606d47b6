use Rattle.std.proofs.Common.{sym, ap, ◌∙◌, arith}
use Rattle.applet_registry.specs.State.{with_state_of}
use Rattle.applet_registry.proofs.Changes.{changed}
use Rattle.applet_registry.proofs.application.set_state.Goals as goal

pub loop-application-preserved : goal.loop-application-preserved
loop-application-preserved c =
    changed (with_state_of c.args.new.now) c.args.applications.now c.loop-application.applications c.loop-application.application-index c.application-item.result c.take_state.new.self
    (omega arith) c.application-item.is (c.take_state.ensures ∙ ap (with_state_of c.args.new.now) (sym c.application-item.is)) c.loop-application.invariant
