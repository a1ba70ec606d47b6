use Rattle.gf_aes.proofs.Entries.{inverse_round_word-of}
use Rattle.gf_aes.proofs.kernel.inverse_round_word.Goals as goal

pub returns : goal.returns
returns c =
    rw (c.octet_0.ensures, c.octet_1.ensures, c.octet_2.ensures, c.octet_3.ensures) (inverse_round_word-of c.args.a c.args.b c.args.c c.args.d c.args.key)
