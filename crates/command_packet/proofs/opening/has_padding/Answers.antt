use Rattle.std.proofs.Common.{◌≡◌, ℕ, ◌-◌, List, leb, length, take, drop, ap, sym, ◌∙◌, arith}
use Rattle.std.specs.Prelude.{slice_index}
use Rattle.std.proofs.lemmas.List.{length-take, take_rest}
use Rattle.secured_packet.specs.Secured.{deciphered}
use Rattle.command_packet.proofs.CarriedLemmas.{padding-parts}
use Rattle.command_packet.proofs.opening.has_padding.Goals as goal

pub returns : goal.returns
returns c =
    let packet : List ℕ = c.args.packet.now in
    let rest : List ℕ = deciphered c.args.ciphered c.args.kic.now (drop 10 packet) in
    let ten : length (take 10 packet) ≡ 10 = omega (arith, length-take 10 packet, c.requires.long) in
    let padding : c.from.result ≡ slice_index rest 5 =
    c.from.ensures ∙ c.padding_in.ensures ∙ ap (λ s. slice_index (deciphered c.args.ciphered c.args.kic.now s) 5) (tail packet) in
    let len : length packet - 24 ≡ length rest - 14 = omega (arith, c.requires.len) in
    (λ i. leb (padding i) (len i)) ∙ padding-parts (take 10 packet) rest ten (omega (arith, c.requires.len, c.requires.long))
  where
    tail : (packet : List ℕ) → take (length packet - 10) (drop 10 packet) ≡ drop 10 packet
    tail packet = take_rest packet 10
