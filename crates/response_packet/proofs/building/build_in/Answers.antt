use Rattle.std.proofs.Common.{◌∙◌}
use Rattle.response_packet.proofs.AnsweredLemmas.{IsAnswered, is_answered}
use Rattle.response_packet.proofs.building.build_in.Goals as goal

steps : (c : goal.After-cipher) → IsAnswered c.args.keys.now c.args.ciphered c.args.tar c.args.counter c.args.status c.args.octets.now c.cipher.new.out.items
steps c =
    is_answered c.args.keys.now c.args.ciphered c.args.tar c.args.counter c.padding_len-padding.result c.args.status c.args.octets.now c.kic.result.now c.kid.result.now c.put_checked.new.out.items c.put_checksum.new.out.items c.cipher.new.out.items
    (record {
      checks = c.put_checked.ensures.octets;
      coded = c.put_checksum.ensures.octets;
      sends = c.cipher.ensures.octets;
      is_kic = c.kic.ensures;
      is_kid = c.kid.ensures;
      eight = c.put_checksum.ensures.eight;
      undone = c.cipher.ensures.undone;
      len = c.cipher.ensures.len ∙ c.put_checksum.ensures.len ∙ c.put_checked.ensures.len;
    })
    c.put_checked.ensures.tar c.put_checked.ensures.below c.requires c.padding_len-padding.ensures.value

pub returns-clause-packet : goal.returns-clause-packet
returns-clause-packet c = (steps c).is

pub returns-clause-opens : goal.returns-clause-opens
returns-clause-opens c = (steps c).opened
