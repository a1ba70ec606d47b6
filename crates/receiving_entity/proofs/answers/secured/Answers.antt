use Rattle.std.proofs.Common.{◌≤◌, ◌∙◌, ℕ, List, length, sym, subst}
use Rattle.receiving_entity.proofs.AnswerLemmas.{response_has_octets}
use Rattle.receiving_entity.proofs.answers.secured.Goals as goal

pub messages_of-requires-clause-some : goal.messages_of-requires-clause-some
messages_of-requires-clause-some c =
    let command = c.args.command.now in
    let is = c.as_slice.ensures.value ∙ c.build_in.ensures.packet in
    subst (λ (s : List ℕ). 1 ≤ length s) (sym is) (response_has_octets c.args.keys.now command.spi.answer_ciphered command.tar command.counter c.args.status c.args.octets.now)
