use Rattle.gf_aes.proofs.Entries.{inverse_mix_word-of}
use Rattle.gf_aes.proofs.kernel.inverse_mix_word.Goals as goal

pub returns : goal.returns
returns c =
    rw (c.octet_0.ensures, c.octet_1.ensures, c.octet_2.ensures, c.octet_3.ensures) (inverse_mix_word-of c.args.w)
