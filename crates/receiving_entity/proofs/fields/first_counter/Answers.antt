use Rattle.std.proofs.Common.{rules, ◌≡◌, ℕ, List, [], ◌∷◌, length, take, sym, ap, ◌∙◌, arith}
use Rattle.std.specs.Prelude.{slice_index}
use Rattle.aes_modes.specs.Modes.{cbc_plain_of, plain_block}
use Rattle.secured_packet.specs.Secured.{number_of_five}
use Rattle.receiving_entity.proofs.FirstBlock.{alone, first_five, first_octets}
use Rattle.receiving_entity.proofs.fields.first_counter.Goals as goal

pub returns : goal.returns
returns c =
    let kic : List ℕ = c.args.kic.now in
    let octets : List ℕ = c.args.octets.now in
    let is : c.decipher.new.octets ≡ plain_block kic octets 0 = c.decipher.ensures ∙ ap (cbc_plain_of kic) c.copy_from_slice.ensures.after ∙ alone kic octets c.requires.some in
    let long : length c.decipher.new.octets ≡ 16 = search rules in
    let whole : length (plain_block kic octets 0) ≡ 16 = ap length (sym is) ∙ long in
    let five : slice_index c.decipher.new.octets 0 ∷ slice_index c.decipher.new.octets 1 ∷ slice_index c.decipher.new.octets 2 ∷ slice_index c.decipher.new.octets 3 ∷ slice_index c.decipher.new.octets 4 ∷ [] ≡ take 5 c.decipher.new.octets = first_five c.decipher.new.octets long in
    c.counter_of.ensures ∙ ap number_of_five (five ∙ ap (take 5) is ∙ first_octets kic octets c.requires.some 5 (omega arith) whole)
