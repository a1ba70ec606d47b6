use Rattle.std.proofs.Common.{[], ap, length, sym, ◌∙◌}
use Rattle.std.specs.List.{cons_option}
use Rattle.senders.proofs.rounds.one_due.Goals as goal

pub returns-in-Some-clause-due : goal.returns-in-Some-clause-due
returns-in-Some-clause-due g c = sym (ap (λ o. length (cons_option o [])) (sym c.due_of.ensures ∙ c.in-Some.is))

pub returns-in-None-clause-due : goal.returns-in-None-clause-due
returns-in-None-clause-due g c = sym (ap (λ o. length (cons_option o [])) (sym c.due_of.ensures ∙ c.in-None.is))
