use Rattle.std.proofs.Common.{◌≡◌, ◌<◌, ◌≤◌, ◌∙◌, length, Err, sym, subst}
use Rattle.command_packet.specs.Carried.{Answers, carries}
use Rattle.command_packet.specs.declared.opening.Command.{Command}
use Rattle.command_packet.specs.declared.opening.OpenErr.{OpenErr}
use Rattle.receiving_entity.specs.Taking.{IfTakes}
use Rattle.receiving_entity.proofs.VerdictLemmas.{above_if, carried_is, form_if_wrong, takes_if}
use Rattle.receiving_entity.proofs.verdicts.verdict_under.Goals as goal

pub counter_in-requires : goal.counter_in-requires
counter_in-requires c =
    let carried = carries c.keys_of-keys.result c.args.kvn c.args.packet.now in
    form_if_wrong c.keys_of-keys.result c.args.kvn c.args.packet.now
    (subst (λ (e : OpenErr). Answers carried (Err e)) c.in-Err-CcWrong.field-0-is c.in-Err-CcWrong.ensures)

pub returns-in-Ok-clause-takes : goal.returns-in-Ok-clause-takes
returns-in-Ok-clause-takes c =
    let keys = c.keys_of-keys.result in
    let command = c.in-Ok.command in
    let packet = c.args.packet.now in
    let of = carried_is keys c.args.kvn packet command c.in-Ok.ensures in
    let may : Command → Type 0 = λ x. (c.args.stored < x.counter) × (x.kvn ≡ c.args.kvn) × (length x.body ≤ length packet) in
    subst (λ found. IfTakes found may) (sym c.verdict_unless.ensures)
    (takes_if keys command c.refusal_of.result may (λ none. (above_if c.args.own.now c.args.stored command (sym c.refusal_of.ensures ∙ none), of.0, of.1)))
