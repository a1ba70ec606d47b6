use Rattle.std.proofs.Common.{sym, ◌∙◌, reverse, refl}
use Rattle.lane_engine.specs.Responses.{response_in_octets}
use Rattle.lane_engine.proofs.ResponseLemmas.{answer_receipt, receipt_by}
use Rattle.lane_engine.proofs.responses.answer_to.Goals as goal

-- src/responses.rt:96:1
pub returns-then-is_receipt : goal.returns-then-is_receipt
returns-then-is_receipt c = λ history stands octets fits.
    c.answer_to_receipt.ensures history stands (response_in_octets c.args.response.now octets) refl
    ∙ answer_receipt (reverse history) (response_in_octets c.args.response.now octets)
    (sym (receipt_by c.args.response.now octets fits) ∙ sym c.is_receipt.ensures ∙ c.if-is_receipt.true)
