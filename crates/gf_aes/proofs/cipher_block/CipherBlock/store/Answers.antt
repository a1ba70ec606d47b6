use Rattle.std.proofs.Common.{◌≡◌, ◌≤◌, ◌-◌, ◌/◌, ◌%◌, ◌^◌, ◌++◌, length, drop, ◌∙◌, ap, arith}
use Rattle.std.specs.Prelude.{slice_index}
use Rattle.std.proofs.lemmas.List.{length-append}
use Rattle.gf_aes.specs.Cipher.{octets}
use Rattle.gf_aes.proofs.Words.{half-octets, put_behind}
use Rattle.gf_aes.proofs.cipher_block.CipherBlock.store.Goals as goal

pub returns : goal.returns
returns c =
    let left = slice_index c.self.inside.halves 0 in
    let right = slice_index c.self.inside.halves 1 in
    let xs = c.copy_from_slice.new.self in
    let rest = drop 8 c.args.octets.now in
    let ex : xs ≡ octets (left / 2 ^ 32) ++ octets (left % 2 ^ 32) = c.copy_from_slice.ensures.after ∙ c.to_be_bytes.ensures ∙ half-octets left in
    let ey = c.copy_from_slice-2.ensures.after ∙ c.to_be_bytes-2.ensures ∙ half-octets right in
    let len : length xs ≡ 8 = ap length ex in
    let fits : length rest ≤ length (xs ++ rest) - 8 = omega (arith, len, length-append xs rest) in
    put_behind xs c.copy_from_slice-2.new.self rest (length (xs ++ rest) - 8) len fits
    ∙ (λ i. ex i ++ ey i)
    ∙ c.self.view_is
