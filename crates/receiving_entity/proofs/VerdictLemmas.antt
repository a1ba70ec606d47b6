-- What an opened command says of its packet, and which commands may be taken.
use Rattle.std.proofs.Common.{◌≡◌, ℕ, zero, suc, ◌+◌, ◌-◌, ◌*◌, ◌/◌, ◌<◌, ◌≤◌, ◌==◌, ◌&&◌, Bool, true, false, cond, nat_le, nat_lt, Option, Some, None, List, [], ◌∷◌, length, take, drop, Ok, Err, Result, refl, sym, ap, subst, arith}
use Rattle.std.specs.Prelude.{slice_index}
use Rattle.std.proofs.lemmas.Bool.Decides.{nat_tests}
use Rattle.std.proofs.lemmas.List.{length-append, length-drop, length-take}
use Rattle.aes_modes.specs.KeyPair.{KeyPair}
use Rattle.aes_modes.specs.Modes.{block_before, cbc_plain_of, plain_block, plain_blocks, text_block}
use Rattle.command_packet.specs.Carried.{body_in, carried_by, carried_checked, carried_plain, carries, checked_of, command_in, has_form, has_padding, is_authentic, plain_of, security_in}
use Rattle.command_packet.specs.declared.opening.Command.{Command}
use Rattle.command_packet.specs.declared.opening.OpenErr.{OpenErr}
use Rattle.command_packet.specs.declared.opening.OpenErr.TheVariants.{Form, UnknownAlgorithm, CcWrong, Padding}
use Rattle.gf_aes.specs.Cipher.{aes_decrypts, xor_lists}
use Rattle.ota_core.specs.declared.keysets.KeysetFacts.{KeysetFacts}
use Rattle.ota_core.specs.declared.security.Spi.{Spi}
use Rattle.secured_packet.specs.Secured.{deciphered}
use Rattle.world_core.specs.Receiving.{is_next}
use Rattle.receiving_entity.specs.Taking.{IfTakes}
use Rattle.receiving_entity.specs.Verdict.{is_below_level, refusal_of, verdict_unless}

-- ---- the form

form_of : (b : Bool) (carried : Result Command OpenErr) → cond b carried (Err Form) ≡ Err CcWrong → b ≡ true
form_of true carried e = refl
form_of false carried e = cc

pub form_if_wrong : (keys : KeyPair) (kvn : ℕ) (packet : List ℕ) → carries keys kvn packet ≡ Err CcWrong → has_form packet ≡ true
unfolding carries
form_if_wrong keys kvn packet e = form_of (has_form packet) (carried_by keys kvn packet (security_in packet)) e

-- ---- lengths

xor_short : (u v : List ℕ) → length (xor_lists u v) ≤ length v
xor_short [] v = omega arith
xor_short (x ∷ u) [] = omega arith
xor_short (x ∷ u) (y ∷ v) = omega (arith, xor_short u v)

before_short : (m : List ℕ) (i : ℕ) → length (block_before m i) ≤ 16
before_short m zero = omega arith
before_short m (suc i) = omega (arith, length-take 16 (drop (16 * i) m))

block_short : (key m : List ℕ) (i : ℕ) → length (plain_block key m i) ≤ 16
block_short key m i = omega (arith, xor_short (aes_decrypts key (text_block m i)) (block_before m i), before_short m i)

blocks_short : (key m : List ℕ) (n : ℕ) → length (plain_blocks key m n) ≤ 16 * n
unfolding plain_blocks
blocks_short key m zero = omega arith
blocks_short key m (suc n) = omega (arith, blocks_short key m n, block_short key m n, length-append (plain_blocks key m n) (plain_block key m n))

deciphered_short : (ciphered : Bool) (key m : List ℕ) → length (deciphered ciphered key m) ≤ length m
unfolding cbc_plain_of
deciphered_short true key m = omega (arith, blocks_short key m (length m / 16))
deciphered_short false key m = omega arith

plain_short : (ciphered : Bool) (key packet : List ℕ) → length (plain_of ciphered key packet) ≤ length packet
plain_short ciphered key packet =
    omega (arith, length-append (take 10 packet) (deciphered ciphered key (drop 10 packet)), length-take 10 packet, length-drop 10 packet, deciphered_short ciphered key (drop 10 packet))

checked_short : (plain : List ℕ) → length (checked_of plain) ≤ length plain
checked_short plain = omega (arith, length-append (take 16 plain) (drop 24 plain), length-take 16 plain, length-drop 24 plain)

body_short : (checked : List ℕ) → length (body_in checked) ≤ length checked
body_short checked = omega (arith, length-take (length (drop 16 checked) - slice_index checked 15) (drop 16 checked), length-drop 16 checked)

-- ---- what a command that a packet carries is

module _ (keys : KeyPair) (kvn : ℕ) (packet : List ℕ) (command : Command) where
  -- it is of the keyset, and its script isn't longer than the packet
  abbrev pub IsOf : Type 0
  IsOf = (command.kvn ≡ kvn) × (length command.body ≤ length packet)

  by_padding : (b : Bool) (spi : Spi) → cond b (Ok (command_in kvn spi (checked_of (plain_of spi.ciphered keys.kic packet)))) (Err Padding) ≡ Ok command → IsOf
  by_padding true spi e =
      let plain = plain_of spi.ciphered keys.kic packet in
      let is : command_in kvn spi (checked_of plain) ≡ command = ok_same (command_in kvn spi (checked_of plain)) command e in (
        sym (ap (λ (c : Command). c.kvn) is),
        subst (λ (c : Command). length c.body ≤ length packet) is
            (omega (arith, body_short (checked_of plain), checked_short plain, plain_short spi.ciphered keys.kic packet)),
      )
    where
      ok_same : (a b : Command) → ◌≡◌ {A = Result Command OpenErr} (Ok a) (Ok b) → a ≡ b
      ok_same a b e = cc
  by_padding false spi e = cc

  by_cc : (b : Bool) (spi : Spi) → cond b (carried_checked kvn spi (checked_of (plain_of spi.ciphered keys.kic packet))) (Err CcWrong) ≡ Ok command → IsOf
  by_cc true spi e = by_padding (has_padding (checked_of (plain_of spi.ciphered keys.kic packet))) spi e
  by_cc false spi e = cc

  by_name : (b : Bool) (spi : Spi) → cond b (carried_plain keys.kid kvn spi (plain_of spi.ciphered keys.kic packet)) (Err UnknownAlgorithm) ≡ Ok command → IsOf
  by_name true spi e = by_cc (is_authentic keys.kid (plain_of spi.ciphered keys.kic packet)) spi e
  by_name false spi e = cc

  by_security : (o : Option (Spi × ℕ)) → carried_by keys kvn packet o ≡ Ok command → IsOf
  by_security None e = cc
  by_security (Some (spi, named)) e = by_name (named == kvn) spi e

  by_form : (b : Bool) → cond b (carried_by keys kvn packet (security_in packet)) (Err Form) ≡ Ok command → IsOf
  by_form true e = by_security (security_in packet) e
  by_form false e = cc

  pub carried_is : carries keys kvn packet ≡ Ok command → IsOf
  unfolding carries
  carried_is e = by_form (has_form packet) e

-- ---- which commands may be taken

lower_not : (a b : ℕ) → nat_le a b ≡ false → b < a
lower_not a b e = grind (arith, nat_tests)

higher_if : (below blocked low high : Bool) → ◌≡◌ {A = Option ℕ} (cond below (Some 0x0A) (cond blocked (Some 0x04) (cond low (Some 0x02) (cond high (Some 0x03) None)))) None → low ≡ false
higher_if true blocked low high e = cc
higher_if false true low high e = cc
higher_if false false true high e = cc
higher_if false false false high e = refl

pub above_if : (own : KeysetFacts) (stored : ℕ) (command : Command) → refusal_of own stored command ≡ None → stored < command.counter
above_if own stored command e =
    lower_not command.counter stored
    (higher_if (is_below_level own command.spi) (stored == 0xFF_FFFF_FFFF) (nat_le command.counter stored) (is_next command.spi.mode && nat_lt (stored + 1) command.counter) e)

pub takes_if : (keys : KeyPair) (command : Command) (o : Option ℕ) (P : Command → Type 0) → (o ≡ None → P command) → IfTakes (verdict_unless keys command o) P
takes_if keys command None P may = may refl
takes_if keys command (Some status) P may = tt
