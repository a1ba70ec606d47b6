use Rattle.std.proofs.Common.{◌≡◌, sym, ◌∙◌, subst, reverse}
use Rattle.ota_core.specs.Entry.{Reservation}
use Rattle.lane_engine.specs.Receipts.{answer_to_place}
use Rattle.lane_engine.specs.declared.answers.Poll.TheVariants as poll
use Rattle.lane_engine.proofs.ResponseLemmas.{place_settled, place_unsettled}
use Rattle.lane_engine.proofs.responses.answer_to_place.Goals as goal

-- src/responses.rt:130:1
pub returns-in-Some : goal.returns-in-Some
returns-in-Some c = λ history stands.
    place_settled (reverse history) c.args.place c.in-Some.field-0 (sym (c.has_reserve.ensures history stands) ∙ c.if-not-has_reserve.false) (sym (c.settlement.ensures history stands) ∙ c.in-Some.is)

-- src/responses.rt:130:1
pub returns-in-None : goal.returns-in-None
returns-in-None c = λ history stands.
    subst (λ (p : Reservation). poll.Settled p.keyset p.counter ≡ answer_to_place (reverse history) c.args.place) (sym c.place.view_is)
    (place_unsettled (reverse history) c.args.place (sym (c.has_reserve.ensures history stands) ∙ c.if-not-has_reserve.false) (sym (c.settlement.ensures history stands) ∙ c.in-None.is))
