use Rattle.std.proofs.Common.{ℕ, Option, Some, None, List, sym, subst}
use Rattle.ota_commands.proofs.Responses.{writes, ends-by}
use Rattle.ota_commands.specs.DryRuns.{EndsBy, Responds, Writes}
use Rattle.ota_commands.specs.declared.faults.Fault.{Fault}
use Rattle.ota_commands.proofs.dry_runs.run_trial.Goals as goal

pub returns-in-Ok-clause-text : goal.returns-in-Ok-clause-text
returns-in-Ok-clause-text g c = λ tells.
    let trial = c.args.trial.now in
    let P : List ℕ → Type 0 = Responds trial in
    let Q : Option Fault → Type 0 = Writes (Some trial) (g.K.Sink.written c.args.out.now) (g.K.Sink.written c.write_response-written.new.out) in
    subst Q (sym c.answer_of.ensures) (writes trial c.as_slice.result.now _ _ c.write_response-written.result (subst P (sym c.as_slice.ensures) c.in-Ok.ensures.response) (c.write_response-written.ensures.text tells))

pub returns-in-Ok-clause-cause : goal.returns-in-Ok-clause-cause
returns-in-Ok-clause-cause g c =
    let trial = c.args.trial.now in
    let P : List ℕ → Type 0 = Responds trial in
    let Q : Option Fault → Type 0 = EndsBy (Some trial) (g.K.Sink.faults c.args.out.now) (g.K.Sink.faults c.write_response-written.new.out) in
    subst Q (sym c.answer_of.ensures) (ends-by trial c.as_slice.result.now _ _ c.write_response-written.result (subst P (sym c.as_slice.ensures) c.in-Ok.ensures.response) c.write_response-written.ensures.cause)
