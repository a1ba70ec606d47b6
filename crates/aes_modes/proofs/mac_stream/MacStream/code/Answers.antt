use Rattle.std.proofs.Common.{◌≡◌, List, ℕ, ap, ◌∙◌}
use Rattle.gf_aes.specs.Cipher.{aes_encrypts, xor_lists}
use Rattle.aes_modes.specs.Modes.{last_block}
use Rattle.aes_modes.specs.Streams.{MacState, state_after}
use Rattle.aes_modes.proofs.StreamLemmas.{code-after}
use Rattle.aes_modes.proofs.mac_stream.MacStream.code.Goals as goal

pub returns : goal.returns
returns c = λ text is.
    let key : List ℕ = c.args.key.now in
    let state : c.self.inside.chain ≡ (state_after key text).chain = ap (λ (s : MacState). s.chain) (c.self.view_is ∙ is) in
    let held : c.self.inside.held.items ≡ (state_after key text).held = ap (λ (s : MacState). s.held) (c.self.view_is ∙ is) in
    let block : c.last_block.result ≡ last_block key (state_after key text).held = c.last_block.ensures ∙ ap (last_block key) (c.as_slice.ensures.value ∙ held) in
    c.to_octets.ensures ∙ c.encrypt.ensures ∙ ap (aes_encrypts key) (c.add.ensures ∙ (λ i. xor_lists (state i) (block i))) ∙ code-after key text
