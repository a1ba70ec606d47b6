use Rattle.std.proofs.Common.{◌≡◌, ℕ, List, length, sym, subst, ap, ◌∙◌, arith}
use Rattle.std.proofs.lemmas.Grind.{common_steps}
use Rattle.std.proofs.lemmas.Result.{IfOk-weaker}
use Rattle.expanded_scripts.specs.Template.{IsTemplate}
use Rattle.expanded_scripts.specs.Written.{written}
use Rattle.expanded_scripts.proofs.ReadBack.{template-written, children-few, command-few}
use Rattle.expanded_scripts.proofs.writing.write_template.Goals as goal

pub put_element-requires : goal.put_element-requires
put_element-requires c =
    let items = c.commands-command-items.result.now in
    let size = ap (λ (o : List ℕ). length o) (c.as_slice.ensures ∙ c.command-item.is) in
    let all = ap (λ (commands : List (List ℕ)). length (written commands)) c.commands-command-items.ensures.commands in
    let few = command-few items c.loop-command.command-index c.command-item.result c.loop-command-test.true in
    omega (arith, c.requires, size, all, few, children-few items)

pub returns-clause-read_back : goal.returns-clause-read_back
returns-clause-read_back c =
    let script = c.args.script.now in
    let is : c.as_slice-3.result.now ≡ written script = grind (arith, common_steps) in
    let back = template-written script c.commands-command-items.ensures.plain.1 c.requires in
    let P : List ℕ → Type 0 = λ o. IsTemplate o script in
    IfOk-weaker c.from_slice.result _ (λ o. IsTemplate o script) (λ o e. subst P (sym (e ∙ is)) back) c.from_slice.ensures
