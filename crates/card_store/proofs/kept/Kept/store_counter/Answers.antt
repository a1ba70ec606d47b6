use Rattle.std.proofs.Common.{◌≡◌, refl, List, subst, sym}
use Rattle.card_store.specs.Kept.{IsRunning}
use Rattle.card_store.specs.declared.card_lines.CardLine.{CardLine}
use Rattle.card_store.proofs.Running.{begun_running}
use Rattle.card_store.proofs.kept.Kept.store_counter.Goals as goal

pub invariant_of-self-2 : goal.invariant_of-self-2
invariant_of-self-2 c =
    subst (λ (lines : List CardLine). IsRunning lines c.in_ok-script.script) (sym c.in_ok-push.ensures.items)
    (begun_running c.self.inside.lines.items _ c.in_ok-script.script refl c.in_ok-script.ensures.begins)
