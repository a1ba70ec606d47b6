use Rattle.std.proofs.Common.{◌≡◌, ℕ, List, ap, subst, ◌∙◌}
use Rattle.std.proofs.lemmas.Result.{IfOk-weaker}
use Rattle.apdu_codec.specs.Compact.{compact_response_of}
use Rattle.apdu_codec.specs.Reply.{answered}
use Rattle.script_engine.specs.declared.card.CardState.{CardState}
use Rattle.script_engine.specs.Run.{fresh_card, HasRun}
use Rattle.ota_commands.specs.DryRuns.{Responds}
use Rattle.ota_commands.specs.DryRuns.Responds.{compact}
use Rattle.ota_commands.proofs.dry_runs.compact_response_to.Goals as goal

pub returns : goal.returns
returns c =
    let trial = c.args.trial.now in
    let count = c.in_ok-ran.ran.count in
    let last = answered c.run_script.new.self c.in_ok-ran.ran.reply in
    let P : CardState → Type 0 = λ card. HasRun card trial.part c.as_slice.result.now count last in
    let Q : List ℕ → Type 0 = λ script. HasRun fresh_card trial.part script count last in
    let run = subst Q c.as_slice.ensures (subst P c.in_ok-card.ensures c.in_ok-ran.ensures.ran) in
    let out = ap (λ (octets : List ℕ). compact_response_of count last.sw octets) c.as_slice-2.ensures.value in
    let is : c.as_slice-3.result.now ≡ compact_response_of count last.sw last.out = c.as_slice-3.ensures.value ∙ (c.compact_response-response.ensures ∙ out) in
    IfOk-weaker c.from_slice.result _ (Responds trial) (λ octets e. compact count last c.requires.compact run (e ∙ is)) c.from_slice.ensures
