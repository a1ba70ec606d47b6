use Rattle.std.proofs.Common.{sym, [], ◌∷◌, arith}
use Rattle.world_core.proofs.Walks.{logged_nowhere}
use Rattle.world_core.proofs.cards.log_line.Goals as goal

pub returns-clause-ok : goal.returns-clause-ok
returns-clause-ok c =
    rw (← c.loop-state.invariant.same)
    (sym (logged_nowhere c.loop-state.cards c.args.card (c.args.line ∷ []) c.loop-state.state-index (omega arith) c.loop-state.invariant.before))
