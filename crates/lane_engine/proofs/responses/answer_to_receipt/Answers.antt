use Rattle.std.proofs.Common.{sym, ◌∙◌, ap, reverse}
use Rattle.ota_core.specs.Entry.{Reservation}
use Rattle.ota_core.specs.Questions.{state_of}
use Rattle.lane_engine.specs.Receipts.{answer_to_place}
use Rattle.lane_engine.proofs.ResponseLemmas.{receipt_closed, receipt_unclosed, unclosed}
use Rattle.lane_engine.proofs.responses.answer_to_receipt.Goals as goal

-- src/responses.rt:120:1
pub returns-in-Closed : goal.returns-in-Closed
returns-in-Closed c = λ history stands response is.
    receipt_closed (reverse history) response
    (ap (λ (p : Reservation). state_of p.keyset (reverse history)) (is ∙ sym c.place.view_is) ∙ sym (c.keyset_state.ensures history stands) ∙ c.in-Closed.is)

-- src/responses.rt:120:1
pub returns-in_default : goal.returns-in_default
returns-in_default c = λ history stands response is.
    c.answer_to_place.ensures history stands ∙ ap (λ (p : Reservation). answer_to_place (reverse history) p) (sym is)
    ∙ receipt_unclosed (reverse history) response c.keyset_state.result
    (ap (λ (p : Reservation). state_of p.keyset (reverse history)) (is ∙ sym c.place.view_is) ∙ sym (c.keyset_state.ensures history stands))
    (unclosed c.keyset_state.result c.in_default.not-Closed)
