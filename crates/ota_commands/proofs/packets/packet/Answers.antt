use Rattle.std.proofs.Common.{rules, inr}
use Rattle.ota_commands.specs.Inputs.{source_input, Says, jobs_reading}
use Rattle.ota_commands.proofs.packets.packet.Goals as goal

pub returns-clause-course : goal.returns-clause-course
returns-clause-course g c = λ ends none.
    let said : Says (jobs_reading c.in-Ok.plan) (source_input g.S.Source.tells g.S.Source.left g.S.Source.faults c.args.jobs.now c.jobs_from.new.source) c.deref.result.now =
    search (rules, c.in-Ok-jobs_from.ensures.says, c.deref.ensures.value) in
    inr (record {
      plan = c.in-Ok.plan;
      jobs = c.deref.result.now;
      plan_said = c.in-Ok.ensures.says;
      jobs_said = said;
      run = c.show_for.ensures ends none;
    })
