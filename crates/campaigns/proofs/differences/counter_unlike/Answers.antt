use Rattle.std.proofs.Common.{◌≡◌, true, false, Some, reverse, sym, ◌∙◌, ap, subst}
use Rattle.std.specs.List.{list_any}
use Rattle.ota_core.specs.Entry.{Reservation, is_refusal_of}
use Rattle.campaigns.specs.Rows.{is_as_said}
use Rattle.campaigns.proofs.DifferenceLemmas.{last_is, unlike_refused, unlike_said, unlike}
use Rattle.campaigns.proofs.differences.counter_unlike.Goals as goal
use Rattle.campaigns.proofs.differences.counter_unlike.Goals.{then-is_refused-via-then-is_refused, then-is_refused-via-else-is_refused+then-is_as_said}

pub returns-then-is_refused : goal.returns-then-is_refused
returns-then-is_refused c =
    let job = c.args.job.now in
    let history = c.args.history.now in
    let found = last_is job history c.args.place c.requires.last in
    elim c.then-is_refused.branch [
      | then-is_refused-via-then-is_refused w ↦ (
          let refused : list_any (is_refusal_of c.args.place) (reverse history) ≡ true = sym (c.is_refused.ensures history c.requires.stands) ∙ w.if-is_refused.true in
          sym (unlike_refused job history found.0 found.1 (subst (λ (p : Reservation). list_any (is_refusal_of p) (reverse history) ≡ true) (sym found.2) refused)))
      | then-is_refused-via-else-is_refused+then-is_as_said w ↦ (
          let said : is_as_said job found.0 ≡ true = sym (w.is_as_said.ensures found.0 found.1 found.2) ∙ w.if-is_as_said.true in
          sym (unlike_said job history found.0 found.1 said))
    ]

pub returns : goal.returns
returns c =
    let job = c.args.job.now in
    let history = c.args.history.now in
    let found = last_is job history c.args.place c.requires.last in
    let refused : list_any (is_refusal_of c.args.place) (reverse history) ≡ false = sym (c.is_refused.ensures history c.requires.stands) ∙ c.if-is_refused.false in
    let said : is_as_said job found.0 ≡ false = sym (c.is_as_said.ensures found.0 found.1 found.2) ∙ c.if-is_as_said.false in
    let is = unlike job history found.0 found.1 (subst (λ (p : Reservation). list_any (is_refusal_of p) (reverse history) ≡ false) (sym found.2) refused) said in
    ap (λ (p : Reservation). Some p.counter) c.place.view_is ∙ ap (λ (p : Reservation). Some p.counter) (sym found.2) ∙ sym is
