use Rattle.std.proofs.Common.{◌≡◌, ◌+◌, ◌-◌, ◌^◌, length, ap, ◌∙◌, arith}
use Rattle.std.proofs.Math.ListN.{set}
use Rattle.card_store.specs.Kept.{one_more}
use Rattle.card_store.specs.declared.card_lines.CardLine.{CardLine}
use Rattle.card_store.proofs.Lines.{last_there, last_within, set_last}
use Rattle.card_store.proofs.kept.add_command.Goals as goal

pub overflow_add-line : goal.overflow_add-line
overflow_add-line c =
    let lines = c.args.lines.now.items in
    let at : (c.len-at.result - 1) + 1 ≡ length lines = omega (arith, c.len-at.ensures, last_there (2 ^ 32 - 2) lines c.requires) in
    omega (arith, ap (λ (l : CardLine). l.executed) c.index_mut-line.ensures.value, last_within (2 ^ 32 - 2) (c.len-at.result - 1) lines c.index_mut-line.result.now at c.requires)

pub returns : goal.returns
returns c =
    let lines = c.args.lines.now.items in
    let line = c.index_mut-line.result.now in
    let k = c.len-at.result - 1 in
    let at : k + 1 ≡ length lines = omega (arith, c.len-at.ensures, last_there (2 ^ 32 - 2) lines c.requires) in
    ap (λ (l : CardLine). set lines k (one_more c.args.ended l)) c.index_mut-line.ensures.value ∙ set_last (one_more c.args.ended) k lines line at
