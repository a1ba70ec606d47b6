use Rattle.std.proofs.Common.{◌≡◌, ℕ, ◌+◌, ◌-◌, ◌*◌, ◌/◌, List, drop, take, length, ◌∙◌, ap, arith}
use Rattle.gf_aes.specs.Cipher.{aes_encrypts}
use Rattle.aes_modes.specs.Modes.{chained, last_block, text_block}
use Rattle.aes_modes.proofs.Codes.{chained-more, cmac_of-end, rest-of}
use Rattle.aes_modes.proofs.mac.cmac.Goals as goal

pub loop-i-init : goal.loop-i-init
unfolding chained
loop-i-init c = c.zero-chain.ensures

pub loop-i-preserved : goal.loop-i-preserved
loop-i-preserved c =
    let i : ℕ = c.loop-i.i in
    let size : 16 * i + 16 - 16 * i ≡ 16 = omega arith in
    let block : c.from_octets.result ≡ text_block c.args.octets.now i = c.from_octets.ensures ∙ ap (λ n. take n (drop (16 * i) c.args.octets.now)) size in
    c.encrypt.ensures ∙ ap (aes_encrypts c.args.key.now) c.add.ensures
    ∙ chained-more c.args.key.now c.args.octets.now c.loop-i.chain c.from_octets.result i c.loop-i.invariant block

pub returns : goal.returns
returns c =
    let key : List ℕ = c.args.key.now in
    let m : List ℕ = c.args.octets.now in
    let n : ℕ = c.saturating_sub-before.result / 16 in
    let less : c.saturating_sub-before.result ≡ length m - 1 = c.saturating_sub-before.ensures in
    let done : n ≡ c.loop-i.i = omega arith in
    let last : c.last_block.result ≡ last_block key (drop (16 * c.loop-i.i) m) =
    c.last_block.ensures ∙ ap (last_block key) (rest-of m n) ∙ ap (λ k. last_block key (drop (16 * k) m)) done in
    c.to_octets.ensures ∙ c.encrypt-2.ensures ∙ ap (aes_encrypts key) c.add-2.ensures
    ∙ cmac_of-end key m c.loop-i.chain c.last_block.result c.loop-i.i (omega arith) c.loop-i.invariant last
