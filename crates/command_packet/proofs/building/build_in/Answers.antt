use Rattle.std.proofs.Common.{◌≡◌, ℕ, ◌+◌, length, arith, ap, sym, ◌∙◌}
use Rattle.command_packet.specs.Carried.{carries}
use Rattle.command_packet.proofs.CommandLemmas.{IsBuilt, Steps, is_built, length-built}
use Rattle.command_packet.proofs.building.build_in.Goals as goal

steps : (c : goal.After-cipher) → IsBuilt c.args.keys.now c.args.kvn c.args.spi c.args.tar c.args.counter c.args.body.now c.cipher.new.out.items
steps c =
    is_built c.args.keys.now c.args.kvn c.args.spi c.args.tar c.args.counter c.padding_len-padding.result c.args.body.now c.kic.result.now c.kid.result.now c.put_checked.new.out.items c.put_checksum.new.out.items c.cipher.new.out.items
    (record {
      checked = c.put_checked.ensures.octets;
      coded = c.put_checksum.ensures.octets;
      ciphered = c.cipher.ensures.octets;
      is_kic = c.kic.ensures;
      is_kid = c.kid.ensures;
      eight = c.put_checksum.ensures.eight;
      undone = c.cipher.ensures.undone;
      len = c.cipher.ensures.len ∙ c.put_checksum.ensures.len ∙ c.put_checked.ensures.len;
    })
    c.put_checked.ensures.tar c.requires.kvn_above c.requires.kvn_below c.put_checked.ensures.below c.requires.fits c.padding_len-padding.ensures.value

pub returns-clause-packet : goal.returns-clause-packet
returns-clause-packet c = (steps c).octets

pub returns-clause-carries : goal.returns-clause-carries
returns-clause-carries c = (steps c).carried

pub returns-clause-len : goal.returns-clause-len
returns-clause-len c =
    length-built c.args.spi.ciphered (length c.args.body.now) c.padding_len-padding.result (length c.cipher.new.out.items) c.padding_len-padding.ensures.value
    (c.cipher.ensures.len ∙ c.put_checksum.ensures.len ∙ c.put_checked.ensures.len)

pub returns-clause-law : goal.returns-clause-law
returns-clause-law c = ap (carries c.args.keys.now c.args.kvn) (sym (steps c).octets) ∙ (steps c).carried
