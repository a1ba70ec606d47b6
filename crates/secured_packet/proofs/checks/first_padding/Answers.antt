use Rattle.std.proofs.Common.{◌≡◌, ℕ, List, length, drop, ap, sym, ◌∙◌, rules}
use Rattle.std.specs.Prelude.{slice_index}
use Rattle.aes_modes.specs.Modes.{cbc_plain_of, plain_block}
use Rattle.secured_packet.proofs.CheckLemmas.{padding-first, parted}
use Rattle.secured_packet.proofs.checks.first_padding.Goals as goal

pub returns : goal.returns
returns c =
    let kic : List ℕ = c.args.kic.now in
    let octets : List ℕ = c.args.octets.now in
    let first : List ℕ = plain_block kic octets 0 in
    let whole : length c.plain_block-first.result ≡ 16 = search rules in
    let len : length first ≡ 16 = ap length (sym c.plain_block-first.ensures) ∙ whole in
    ap (λ s. slice_index s 5) c.plain_block-first.ensures
    ∙ sym (padding-first first (drop 16 (cbc_plain_of kic octets)) len)
    ∙ ap (λ s. slice_index s 5) (sym (parted kic octets len c.requires.some))
