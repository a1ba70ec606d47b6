use Rattle.std.proofs.Common.{◌≡◌, ℕ, ◌+◌, ◌-◌, ◌*◌, length, ◌∙◌, ap, arith}
use Rattle.gf_aes.specs.Cipher.{aes_encrypts}
use Rattle.aes_modes.proofs.Chains.{encrypted-all, encrypted-more, encrypted-none}
use Rattle.aes_modes.proofs.cbc.cbc_encrypt.Goals as goal

pub loop-i-init : goal.loop-i-init
loop-i-init c = rw c.zero-chain.ensures (encrypted-none c.args.key.now c.args.octets.now)

pub loop-i-preserved : goal.loop-i-preserved
loop-i-preserved c =
    let i : ℕ = c.loop-i.i in
    let len : length c.encrypt.new.block ≡ 16 = omega (arith, ap length c.store.ensures, c.store.auto.octets) in
    rw c.store.ensures (
    encrypted-more c.args.key.now c.args.octets.now c.loop-i.chain c.loop-i.octets c.encrypt.new.block c.from_octets.result i (16 * i + 16 - 16 * i) (omega arith) (omega arith) c.loop-i.invariant c.from_octets.ensures (c.encrypt.ensures ∙ ap (aes_encrypts c.args.key.now) c.add.ensures) len
    )

pub returns : goal.returns
returns c =
    encrypted-all c.args.key.now c.args.octets.now c.loop-i.chain c.loop-i.octets c.loop-i.i c.loop-i.invariant (omega arith) c.requires c.loop-i.auto.octets
