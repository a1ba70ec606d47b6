use Rattle.std.proofs.Common.{◌≡◌, List, ℕ, [], ◌∷◌, ◌++◌, length, ap, sym, ◌∙◌, rules}
use Rattle.gf_aes.specs.Cipher.{aes_encrypts, xor_lists}
use Rattle.aes_modes.specs.Streams.{MacState, state_after}
use Rattle.aes_modes.proofs.StreamLemmas.{put-full, put-short, same_state}
use Rattle.aes_modes.proofs.mac_stream.MacStream.put.Goals as goal

pub returns-then-is_full : goal.returns-then-is_full
returns-then-is_full c = λ text is.
    let key : List ℕ = c.args.key.now in
    let whole : length c.args.self.now.held ≡ 16 = search rules in
    let full : length (state_after key text).held ≡ 16 = ap (λ (s : MacState). length s.held) (sym is) ∙ whole in
    let chain : c.put_behind.new.self.chain ≡ aes_encrypts key (xor_lists c.args.self.now.chain c.args.self.now.held) = c.put_behind.ensures.chain in
    same_state _ _ (chain ∙ ap (λ (s : MacState). aes_encrypts key (xor_lists s.chain s.held)) is) c.put_behind.ensures.held
    ∙ put-full key text c.args.octet full

pub returns-else-is_full : goal.returns-else-is_full
returns-else-is_full c = λ text is.
    let key : List ℕ = c.args.key.now in
    let short : ¬ (length c.self.inside.held.items ≡ 16) = search rules in
    let held : c.self.inside.held.items ≡ (state_after key text).held = ap (λ (s : MacState). s.held) (c.self.view_is ∙ is) in
    let chain : c.self.inside.chain ≡ (state_after key text).chain = ap (λ (s : MacState). s.chain) (c.self.view_is ∙ is) in
    same_state _ _ chain (c.push.ensures.items ∙ ap (λ s. s ++ c.args.octet ∷ []) held)
    ∙ put-short key text c.args.octet (λ e. short (ap length held ∙ e))
