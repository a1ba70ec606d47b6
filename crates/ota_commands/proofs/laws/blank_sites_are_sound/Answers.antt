use Rattle.ota_commands.specs.BlankLaws.{blank_sound, short_is_blank}
use Rattle.ota_commands.proofs.laws.blank_sites_are_sound.Goals as goal

pub returns-clause-sound : goal.returns-clause-sound
returns-clause-sound g c = λ blank. blank_sound g.T.DiskCalls.told c.args._sites.now blank

pub returns-clause-short : goal.returns-clause-short
returns-clause-short g c = λ lane lanes octets short. short_is_blank lane lanes octets short
