use Rattle.std.proofs.Common.{◌≡◌, ℕ, ◌-◌, List, leb, length, take, drop, ap, ◌∙◌, arith}
use Rattle.std.specs.Prelude.{slice_index}
use Rattle.std.proofs.lemmas.List.{length-take, take_rest}
use Rattle.secured_packet.specs.Secured.{deciphered}
use Rattle.response_packet.proofs.PartLemmas.{padding-parts}
use Rattle.response_packet.proofs.opening.has_padding.Goals as goal

pub returns : goal.returns
returns c =
    let packet : List ℕ = c.args.packet.now in
    let rest : List ℕ = deciphered c.args.ciphered c.args.kic.now (drop 6 packet) in
    let six : length (take 6 packet) ≡ 6 = omega (arith, length-take 6 packet, c.requires.long) in
    let padding : c.from.result ≡ slice_index rest 5 =
    c.from.ensures ∙ c.padding_in.ensures ∙ ap (λ s. slice_index (deciphered c.args.ciphered c.args.kic.now s) 5) (tail packet) in
    let len : length packet - 21 ≡ length rest - 15 = omega (arith, c.requires.len) in
    (λ i. leb (padding i) (len i)) ∙ padding-parts (take 6 packet) rest six (omega (arith, c.requires.len, c.requires.long))
  where
    tail : (packet : List ℕ) → take (length packet - 6) (drop 6 packet) ≡ drop 6 packet
    tail packet = take_rest packet 6
