use Rattle.std.proofs.Common.{◌+◌, ◌%◌, ◌∷◌, [], ◌++◌, ap, sym, ◌∙◌, arith}
use Rattle.std.proofs.lemmas.List.{map_push}
use Rattle.std.proofs.lemmas.List.FromFn.{map-range_with_len_more}
use Rattle.ota_core.specs.declared.references.Reference.TheVariants.{Short}
use Rattle.sms_segments.specs.Cut.{piece_of}
use Rattle.receiving_entity.specs.Answer.{octets_of}
use Rattle.receiving_entity.proofs.answers.messages_of.Goals as goal

pub loop-before-preserved : goal.loop-before-preserved
loop-before-preserved c =
    let piece_at = piece_of c.args.packet.now 0x71 (Short (c.counter.inside.0 % 256)) in
    ap octets_of c.in_ok-push.ensures.items
    ∙ map_push (λ message. message.items) c.loop-before.messages.items c.piece.result
    ∙ (λ i. c.loop-before.invariant i ++ c.piece.ensures i ∷ [])
    ∙ sym (map-range_with_len_more piece_at 1 c.loop-before.before (c.loop-before.before + 1) (omega arith))
