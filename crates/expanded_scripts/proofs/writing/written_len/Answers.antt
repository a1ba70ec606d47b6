use Rattle.std.proofs.Common.{List, ℕ, sym, subst, ◌∙◌}
use Rattle.expanded_scripts.specs.Template.{IsWhole, AreWhole}
use Rattle.expanded_scripts.proofs.Forms.{whole-at}
use Rattle.expanded_scripts.proofs.writing.written_len.Goals as goal

pub child_len-children-requires : goal.child_len-children-requires
child_len-children-requires c =
    let items = c.commands-command-items.result.now in
    let P : List ℕ → Type 0 = IsWhole in
    let Q : List (List ℕ) → Type 0 = AreWhole in
    let all = subst Q (sym c.commands-command-items.ensures.commands) c.commands-command-items.ensures.plain.1 in
    let here = whole-at items c.loop-command.command-index c.command-item.result all c.loop-command-test.true in
    subst P (sym (c.as_slice.ensures ∙ c.command-item.is)) here
