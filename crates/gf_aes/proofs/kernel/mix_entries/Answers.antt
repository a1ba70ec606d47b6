use Rattle.std.specs.Prelude.{◌/◌, ◌^◌}
use Rattle.gf_aes.specs.Cipher.{octet}
use Rattle.gf_aes.proofs.Words.{octet_below}
use Rattle.gf_aes.proofs.Entries.{MIX_0-at, MIX_1-at, MIX_2-at, MIX_3-at}
use Rattle.gf_aes.proofs.kernel.mix_entries.Goals as goal

pub returns : goal.returns
returns c =
    let w = c.args.w in
    record {
      first = rw c.octet_0.ensures (MIX_0-at (octet w 0) (octet_below (w / 2 ^ 24)));
      second = rw c.octet_1.ensures (MIX_1-at (octet w 1) (octet_below (w / 2 ^ 16)));
      third = rw c.octet_2.ensures (MIX_2-at (octet w 2) (octet_below (w / 2 ^ 8)));
      fourth = rw c.octet_3.ensures (MIX_3-at (octet w 3) (octet_below w));
    }
