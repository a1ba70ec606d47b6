use Rattle.std.proofs.Common.{◌∙◌, ap}
use Rattle.gf_aes.specs.Cipher.{aes_decrypts}
use Rattle.gf_aes.proofs.Inverse.{aes_decrypts-aes_encrypts}
use Rattle.gf_aes.proofs.Schedules.{schedule_decrypts}
use Rattle.gf_aes.proofs.key_schedule.KeySchedule.decrypt.Goals as goal

pub returns : goal.returns
returns c =
    let value = c.of.ensures ∙ c.decrypt.ensures ∙ schedule_decrypts c.self.inside c.args.self.now c.args.block.now _ c.self.invariant c.self.told.0 c.self.view_is c.columns-columns.ensures in
    record {
      value = value;
      undoes = λ plain is_block e.
          value ∙ ap (λ x. aes_decrypts c.args.self.now x) e ∙ aes_decrypts-aes_encrypts c.args.self.now plain is_block;
    }
