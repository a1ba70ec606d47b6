use Rattle.std.proofs.Common.{sym, subst, List, ℕ}
use Rattle.expanded_scripts.specs.Template.{IsCommand}
use Rattle.expanded_scripts.proofs.Forms.{plain-found}
use Rattle.expanded_scripts.proofs.commands.plain_form.Goals as goal

pub returns-in_ok-plain-in-Some-clause-command : goal.returns-in_ok-plain-in-Some-clause-command
returns-in_ok-plain-in-Some-clause-command c =
    let found = plain-found c.args.value.now c.in-Some.len (sym c.in-Some.ensures.len) in
    let P : List ℕ → Type 0 = λ p. IsCommand c.args.value.now p in
    subst P (sym c.in_ok-plain-in-Some.ensures) found
