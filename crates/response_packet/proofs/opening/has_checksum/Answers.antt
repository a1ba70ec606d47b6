use Rattle.std.proofs.Common.{◌≡◌, ℕ, ◌++◌, List, length, take, drop, ap, sym, ◌∙◌, arith}
use Rattle.std.proofs.lemmas.List.{length-drop, length-take, take_rest}
use Rattle.secured_packet.specs.Secured.{deciphered, has_checksum}
use Rattle.response_packet.specs.Response.{user_data_header}
use Rattle.response_packet.proofs.PartLemmas.{authentic-parts}
use Rattle.response_packet.proofs.opening.has_checksum.Goals as goal

pub returns-clause-authentic : goal.returns-clause-authentic
returns-clause-authentic c =
    let packet : List ℕ = c.args.packet.now in
    let keys = c.args.keys.now in
    let six : length (take 6 packet) ≡ 6 = omega (arith, length-take 6 packet, c.requires.long) in
    c.is_authentic.ensures.authentic
    ∙ ap (λ s. has_checksum keys.kid (user_data_header ++ take 6 packet) 7 (deciphered c.args.ciphered keys.kic s)) (take_rest packet 6)
    ∙ authentic-parts (take 6 packet) (deciphered c.args.ciphered keys.kic (drop 6 packet)) six keys.kid

pub returns-clause-len : goal.returns-clause-len
returns-clause-len c =
    let packet : List ℕ = c.args.packet.now in
    let keys = c.args.keys.now in
    ap (λ s. length (deciphered c.args.ciphered keys.kic s)) (sym (take_rest packet 6))
    ∙ c.is_authentic.ensures.len ∙ ap length (take_rest packet 6) ∙ length-drop 6 packet
