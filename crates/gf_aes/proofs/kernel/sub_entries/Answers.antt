use Rattle.std.specs.Prelude.{◌/◌, ◌^◌}
use Rattle.gf_aes.specs.Cipher.{octet}
use Rattle.gf_aes.proofs.Words.{octet_below}
use Rattle.gf_aes.proofs.Entries.{SUB_0-at, SUB_1-at, SUB_2-at, SUB_3-at}
use Rattle.gf_aes.proofs.kernel.sub_entries.Goals as goal

pub returns : goal.returns
returns c =
    let w = c.args.w in
    record {
      first = rw c.octet_0.ensures (SUB_0-at (octet w 0) (octet_below (w / 2 ^ 24)));
      second = rw c.octet_1.ensures (SUB_1-at (octet w 1) (octet_below (w / 2 ^ 16)));
      third = rw c.octet_2.ensures (SUB_2-at (octet w 2) (octet_below (w / 2 ^ 8)));
      fourth = rw c.octet_3.ensures (SUB_3-at (octet w 3) (octet_below w));
    }
