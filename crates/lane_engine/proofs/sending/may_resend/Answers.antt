use Rattle.std.proofs.Common.{◌≡◌, Some, None, reverse, subst}
use Rattle.std.proofs.lemmas.Result.{err_from_is_err_and}
use Rattle.ota_core.specs.Entry.{Reservation}
use Rattle.ota_core.specs.Questions.{state_of}
use Rattle.lane_engine.specs.Reserving.{state_refusal}
use Rattle.lane_engine.proofs.AtLemmas.{resend_first, resend_free, resend_taken}
use Rattle.lane_engine.proofs.sending.may_resend.Goals as goal

pub returns-in_err-in_use : goal.returns-in_err-in_use
returns-in_err-in_use c = λ history stands.
    let p = err_from_is_err_and c.from_residual.result c.from_residual.ensures.1 in
    rw (p.1, p.2) (resend_first (reverse history) c.args.place c.in_err-in_use.field-0.0 (subst (λ (p : Reservation). Some c.in_err-in_use.field-0.0 ≡ state_refusal (state_of p.keyset (reverse history))) c.place.view_is (c.in_err-in_use.ensures history stands)))

pub returns-then-is_unsettled : goal.returns-then-is_unsettled
returns-then-is_unsettled c = λ history stands. resend_free (reverse history) c.args.place (subst (λ (p : Reservation). None ≡ state_refusal (state_of p.keyset (reverse history))) c.place.view_is (c.in_ok-in_use.ensures history stands)) (c.if-is_unsettled.ensures history stands)

pub returns : goal.returns
returns c = λ history stands. resend_taken (reverse history) c.args.place (subst (λ (p : Reservation). None ≡ state_refusal (state_of p.keyset (reverse history))) c.place.view_is (c.in_ok-in_use.ensures history stands)) (c.if-is_unsettled.ensures history stands)
