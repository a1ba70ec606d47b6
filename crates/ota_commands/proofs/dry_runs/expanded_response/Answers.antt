use Rattle.std.proofs.Common.{◌≡◌, ℕ, List, subst}
use Rattle.script_engine.specs.declared.card.CardState.{CardState}
use Rattle.script_engine.specs.Run.{with_mf_selected}
use Rattle.expanded_scripts.specs.Answers.{answers, response_of}
use Rattle.expanded_scripts.specs.Template.{IsTemplate}
use Rattle.ota_commands.specs.DryRuns.Responds.{expanded}
use Rattle.ota_commands.proofs.dry_runs.expanded_response.Goals as goal

pub returns-clause-response : goal.returns-clause-response
returns-clause-response c =
    let part = c.args.trial.now.part in
    let commands = c.in_ok-script.script in
    let P : List ℕ → Type 0 = λ octets. IsTemplate octets commands in
    let Q : CardState → Type 0 = λ card. c.in_ok-response.response ≡ response_of (answers (with_mf_selected card) part commands) in
    expanded commands c.requires (subst P c.as_slice.ensures c.in_ok-script.ensures.script) (subst Q c.in_ok-card.ensures c.in_ok-response.ensures.response)
