use Rattle.std.proofs.Common.{◌≡◌, ◌∙◌, ℕ, ◌<◌, Bool, length, is_none, Option, List, refl, sym, ap, subst}
use Rattle.std.specs.Prelude.{IfSome}
use Rattle.apdu_codec.specs.Reply.{answered}
use Rattle.script_engine.specs.Step.{script_step}
use Rattle.card_store.specs.Content.{with_last}
use Rattle.card_store.specs.Kept.{IsRunning, one_more}
use Rattle.card_store.specs.Store.{Shown, Shows}
use Rattle.card_store.specs.declared.card_lines.CardLine.{CardLine}
use Rattle.card_store.specs.declared.scripts.Script.{Script}
use Rattle.card_store.proofs.Running.{running_within, within_last, running_on, none_is, advanced_shows}
use Rattle.card_store.proofs.kept.Kept.run_command.Goals as goal

pub add_command-requires : goal.add_command-requires
add_command-requires c =
    within_last c.self.inside.lines.items c.unwrap-script.result
    (running_within c.self.inside.lines.items c.self.inside.script c.unwrap-script.result (sym c.take.ensures.value ∙ c.unwrap-script.ensures) c.self.invariant)

pub invariant_of-self : goal.invariant_of-self
invariant_of-self c =
    let lines = c.self.inside.lines.items in
    let script = c.unwrap-script.result in
    let within = running_within lines c.self.inside.script script (sym c.take.ensures.value ∙ c.unwrap-script.ensures) c.self.invariant in
    let goes = subst (λ (body : List ℕ). IfSome c.in-Ok.step.next (λ at. (script.next < at) × (at < length body))) c.as_slice.ensures c.in-Ok.ensures.forward in
    subst (λ (left : Option Script). IsRunning c.add_command.new.lines.items left) (sym c.gone_on.ensures)
    (running_on lines c.add_command.new.lines.items script c.is_none.result c.in-Ok.step.next within goes c.add_command.ensures)

pub returns-in-Ok-clause-ran : goal.returns-in-Ok-clause-ran
returns-in-Ok-clause-ran c = λ content shows.
    let script = c.unwrap-script.result in
    let old : Shown = record { lines = c.self.inside.lines.items; card = c.self.inside.card; script = c.self.inside.script } in
    let new : Shown = record { lines = c.add_command.new.lines.items; card = c.run_one.new.self; script = c.gone_on.result } in
    let ended = none_is c.in-Ok.step.next c.is_none.result c.is_none.ensures in
    advanced_shows content old new script (answered c.run_one.new.self c.in-Ok.step.reply, c.in-Ok.step.next)
    (subst (Shows content) (sym c.self.view_is) shows)
    (sym c.take.ensures.value ∙ c.unwrap-script.ensures)
    (subst (λ (body : List ℕ). (answered c.run_one.new.self c.in-Ok.step.reply, c.in-Ok.step.next) ≡ script_step c.self.inside.card script.part body script.next) c.as_slice.ensures c.in-Ok.ensures.step)
    (c.add_command.ensures ∙ ap (λ (b : Bool). with_last (one_more b) c.self.inside.lines.items) ended)
    refl
    c.gone_on.ensures
