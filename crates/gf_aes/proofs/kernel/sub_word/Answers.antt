use Rattle.gf_aes.proofs.Entries.{sub_word-of}
use Rattle.gf_aes.proofs.kernel.sub_word.Goals as goal

pub returns : goal.returns
returns c =
    rw (c.word.ensures, c.octet_0.ensures, c.octet_1.ensures, c.octet_2.ensures, c.octet_3.ensures) (sub_word-of c.args.w)
