use Rattle.std.proofs.Common.{◌≡◌, ℕ, List, ◌∙◌, sym, ap}
use Rattle.gf_aes.specs.Cipher.{aes_encrypts, xor_lists}
use Rattle.aes_modes.specs.Modes.{first_subkey, next_subkey}
use Rattle.aes_modes.proofs.Codes.{last_block-short, last_block-whole}
use Rattle.aes_modes.proofs.mac.last_block.Goals as goal

pub returns-then-rest-eq16 : goal.returns-then-rest-eq16
returns-then-rest-eq16 c =
    let key : List ℕ = c.args.key.now in
    let first : c.next_subkey-first.result ≡ first_subkey key =
    c.next_subkey-first.ensures ∙ ap next_subkey (c.to_octets.ensures ∙ c.encrypt.ensures ∙ ap (aes_encrypts key) c.zero-zero.ensures) in
    c.add.ensures
    ∙ (λ i. xor_lists ((c.from_octets-block.ensures ∙ first) i) (c.from_octets.ensures i))
    ∙ sym (last_block-whole key c.args.rest.now c.if-rest-eq16.true)

pub returns-else-rest-eq16 : goal.returns-else-rest-eq16
returns-else-rest-eq16 c =
    let key : List ℕ = c.args.key.now in
    let first : c.next_subkey-first.result ≡ first_subkey key =
    c.next_subkey-first.ensures ∙ ap next_subkey (c.to_octets.ensures ∙ c.encrypt.ensures ∙ ap (aes_encrypts key) c.zero-zero.ensures) in
    c.add-else-rest-eq16.ensures
    ∙ (λ i. xor_lists ((c.from_octets-block-else-rest-eq16.ensures ∙ c.next_subkey.ensures ∙ ap next_subkey first) i) ((c.from_octets-else-rest-eq16.ensures ∙ c.padded.ensures) i))
    ∙ sym (last_block-short key c.args.rest.now c.if-rest-eq16.false)
