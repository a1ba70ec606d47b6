use Rattle.std.proofs.Common.{◌∙◌, arith}
use Rattle.gf_aes.proofs.Expansion.{rotated}
use Rattle.gf_aes.proofs.key_schedule.rot_word.Goals as goal

pub returns : goal.returns
returns c = c.rotate_left.ensures ∙ rotated c.args.w (omega arith)
