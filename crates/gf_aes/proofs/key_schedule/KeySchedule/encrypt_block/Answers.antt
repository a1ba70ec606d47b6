use Rattle.gf_aes.proofs.FieldLaws.{is_field}
use Rattle.gf_aes.proofs.key_schedule.KeySchedule.encrypt_block.Goals as goal

pub returns-clause-field : goal.returns-clause-field
returns-clause-field c = is_field
