use Rattle.std.proofs.Common.{◌∙◌, reverse}
use Rattle.ota_core.specs.History.{next_counter}
use Rattle.ota_core.specs.Questions.{state_of}
use Rattle.campaigns.proofs.RemainingLemmas.{left_next, none_left}
use Rattle.campaigns.proofs.remaining.has_counter.Goals as goal

pub returns-in-Ok : goal.returns-in-Ok
returns-in-Ok c = λ history stands.
    c.is_left.ensures
    ∙ left_next (state_of c.args.keyset (reverse history)) (next_counter c.args.keyset (reverse history)) c.args.before c.in-Ok.next (c.in-Ok.ensures history stands)

pub returns-in-Err : goal.returns-in-Err
returns-in-Err c = λ history stands.
    none_left (state_of c.args.keyset (reverse history)) (next_counter c.args.keyset (reverse history)) c.args.before c.in-Err.field-0 (c.in-Err.ensures history stands)
