use Rattle.std.proofs.Common.{◌∙◌}
use Rattle.gf_aes.proofs.Schedules.{schedule_encrypts}
use Rattle.gf_aes.proofs.key_schedule.KeySchedule.encrypt.Goals as goal

pub returns : goal.returns
returns c =
    c.of.ensures ∙ c.encrypt.ensures ∙ schedule_encrypts c.self.inside c.args.self.now c.args.block.now _ c.self.invariant c.self.told.0 c.self.view_is c.columns-columns.ensures
