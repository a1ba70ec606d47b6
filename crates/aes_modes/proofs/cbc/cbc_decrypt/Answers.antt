use Rattle.std.proofs.Common.{◌≡◌, ℕ, ◌+◌, ◌-◌, ◌*◌, List, length, ◌∙◌, sym, ap, arith}
use Rattle.gf_aes.specs.Cipher.{aes_decrypts, xor_lists}
use Rattle.aes_modes.specs.Modes.{cbc_plain_of}
use Rattle.aes_modes.proofs.Chains.{cbc_plain_of-cbc_of, decrypted-all, decrypted-more, decrypted-none}
use Rattle.aes_modes.proofs.cbc.cbc_decrypt.Goals as goal

pub loop-i-init : goal.loop-i-init
loop-i-init c = rw c.zero-before.ensures (decrypted-none c.args.key.now c.args.octets.now)

pub loop-i-preserved : goal.loop-i-preserved
loop-i-preserved c =
    let i : ℕ = c.loop-i.i in
    let key : List ℕ = c.args.key.now in
    let len : length c.add.new.self ≡ 16 = omega (arith, ap length c.store.ensures, c.store.auto.octets) in
    let plain : c.decrypt.new.block ≡ aes_decrypts key c.from_octets-encrypted.result =
    c.decrypt.ensures.value ∙ ap (aes_decrypts key) (c.from_octets-plain.ensures ∙ sym c.from_octets-encrypted.ensures) in
    rw c.store.ensures (
    decrypted-more key c.args.octets.now c.from_octets-encrypted.result c.loop-i.octets c.add.new.self c.loop-i.before i (16 * i + 16 - 16 * i) (omega arith) (omega arith) c.loop-i.invariant c.from_octets-encrypted.ensures (c.add.ensures ∙ ap (λ u. xor_lists u c.loop-i.before) plain) len
    )

pub returns : goal.returns
returns c =
    let value = decrypted-all c.args.key.now c.args.octets.now c.loop-i.before c.loop-i.octets c.loop-i.i c.loop-i.invariant (omega arith) c.requires c.loop-i.auto.octets in
    record {
      value = value;
      undoes = λ plain octets whole e.
          value ∙ ap (cbc_plain_of c.args.key.now) e ∙ cbc_plain_of-cbc_of c.args.key.now plain octets whole;
    }
