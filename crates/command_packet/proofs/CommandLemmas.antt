-- What is built carries what it is built from.
use Rattle.std.proofs.Common.{◌≡◌, ℕ, zero, suc, ◌+◌, ◌-◌, ◌*◌, ◌/◌, ◌%◌, ◌^◌, ◌<◌, ◌≤◌, Bool, true, false, ◌&&◌, ◌||◌, not, cond, eqb, leb, Option, Some, None, Result, Ok, Err, List, [], ◌∷◌, ◌++◌, length, take, drop, replicate, refl, sym, ap, ◌∙◌, arith, subst, length-append, inl, inr}
use Rattle.std.specs.Int.{bytes_high_first, byte_at, from_be_bytes, to_be_bytes, w16, w64}
use Rattle.std.specs.Prelude.{slice_index}
use Rattle.std.specs.Str.{bytes_eq}
use Rattle.std.proofs.lemmas.Nat.{from_be_bytes-to_be_bytes_2, from_be_bytes-to_be_bytes_8}
use Rattle.std.proofs.lemmas.List.{drop_at, length-replicate, take_at}
use Rattle.std.proofs.lemmas.Bool.{and_from, eq-eqb, le-leb, not_from_false, or_left, or_right}
use Rattle.ota_core.specs.declared.keysets.Mode.{Mode}
use Rattle.ota_core.specs.declared.keysets.Mode.TheVariants.{Higher, Next}
use Rattle.ota_core.specs.declared.security.Spi.{Spi}
use Rattle.ota_core.specs.Security.{command_security, key_octet, read_key_octet, read_spi_octets, spi_octets}
use Rattle.aes_modes.specs.KeyPair.{KeyPair}
use Rattle.secured_packet.proofs.FieldLemmas.{blocks, bytes_eq-same, number_of_five-five, number_of_two-two, padding-few, whole_blocks}
use Rattle.command_packet.specs.declared.opening.Command.{Command}
use Rattle.command_packet.specs.declared.opening.OpenErr.{OpenErr}
use Rattle.command_packet.specs.declared.opening.OpenErr.TheVariants.{Form}
use Rattle.secured_packet.specs.Secured.{checksum_of, deciphered, five, number_of_five, number_of_two, padding_len, sent, two, with_padding}
use Rattle.command_packet.specs.Command.{checked_octets, command_octets, counter_octets, head_octets, packet_length, packet_octets, padding_of}
use Rattle.command_packet.specs.Carried.{carried_by, carried_checked, carried_plain, carries, checked_of, has_form, is_authentic, plain_of, says_ciphered, security_by, security_in}

-- what holds of any three octets holds of a TAR
pub with_tar : (P : List ℕ → Type 0) → ((a b c : ℕ) → P (a ∷ b ∷ c ∷ [])) → (tar : List ℕ) → length tar ≡ 3 → P tar
with_tar P each [] len = absurd (omega arith)
with_tar P each (a ∷ []) len = absurd (omega arith)
with_tar P each (a ∷ b ∷ []) len = absurd (omega arith)
with_tar P each (a ∷ b ∷ c ∷ []) len = each a b c
with_tar P each (a ∷ b ∷ c ∷ d ∷ rest) len = absurd (omega arith)

-- ---- SPI, KIc and KID

says_ciphered-security : (mode : Mode) (ciphered : Bool) → says_ciphered (command_security mode ciphered) ≡ ciphered
says_ciphered-security Higher true = refl
says_ciphered-security Higher false = refl
says_ciphered-security Next true = refl
says_ciphered-security Next false = refl

read-written : (mode : Mode) (ciphered answer : Bool) → let spi : Spi = record { ciphered = ciphered; mode = mode; answer_ciphered = answer } in read_spi_octets (spi_octets spi) ≡ Some spi
read-written Higher true true = refl
read-written Higher true false = refl
read-written Higher false true = refl
read-written Higher false false = refl
read-written Next true true = refl
read-written Next true false = refl
read-written Next false true = refl
read-written Next false false = refl

read_key-written : (kvn : ℕ) → 1 ≤ kvn → kvn ≤ 15 → read_key_octet (key_octet kvn) ≡ Some kvn
read_key-written kvn above below =
    let kind : (kvn * 16 + 2) % 16 ≡ 2 = omega arith in
    let number : (kvn * 16 + 2) / 16 ≡ kvn = omega arith in
    rw (eq-eqb ((kvn * 16 + 2) % 16) 2 kind, number, le-leb 1 kvn above) refl

-- ---- building

-- the packet from its three steps: what is checked behind 8 octets, the checksum in its place, and ciphered
pub built : (keys : KeyPair) (kvn : ℕ) (spi : Spi) (a b c counter padding : ℕ) (text first second third : List ℕ)
    → first ≡ replicate 8 0 ++ checked_octets spi kvn (a ∷ b ∷ c ∷ []) counter padding text
    → second ≡ take 16 (drop 8 first) ++ checksum_of keys.kid (drop 8 first) ++ drop (16 + 8) first
    → third ≡ take 10 second ++ sent spi.ciphered keys.kic (drop 10 second)
    → third ≡ packet_octets keys kvn spi (a ∷ b ∷ c ∷ []) counter padding text
unfolding two five
built keys kvn spi a b c counter padding text first second third e1 e2 e3 =
    e3
    ∙ ap (λ octets. take 10 octets ++ sent spi.ciphered keys.kic (drop 10 octets))
    (e2 ∙ ap (λ octets. take 16 (drop 8 octets) ++ checksum_of keys.kid (drop 8 octets) ++ drop (16 + 8) octets) e1)

module _ (keys : KeyPair) (kvn : ℕ) (spi : Spi) (a b c counter padding : ℕ) (body : List ℕ) where
  abbrev text : List ℕ
  text = with_padding padding body

  abbrev tar : List ℕ
  tar = a ∷ b ∷ c ∷ []

  abbrev checked : List ℕ
  checked = checked_octets spi kvn tar counter padding text

  abbrev code : List ℕ
  code = checksum_of keys.kid checked

  abbrev part : List ℕ
  part = counter_octets counter padding ++ code ++ text

  abbrev head : List ℕ
  head = head_octets (22 + length text) spi kvn tar

  abbrev wanted : Result Command OpenErr
  wanted = Ok (record { kvn = kvn; spi = spi; tar = tar; counter = counter; body = body })

  text_len : length text ≡ length body + padding
  text_len = omega (arith, length-append body (replicate padding 0), length-replicate {A = ℕ} padding 0)

  checked-carried : counter < 2 ^ 40 → carried_checked kvn spi checked ≡ wanted
  unfolding two five
  checked-carried below =
      let fits : leb padding (length text) ≡ true = le-leb padding (length text) (omega (arith, text_len)) in
      let len : length text - padding ≡ length body = omega (arith, text_len) in
      let is : take (length text - padding) text ≡ body = ap (λ n. take n text) len ∙ take_at body (replicate padding 0) (length body) refl in
      rw fits (λ i. Ok (record { kvn = kvn; spi = spi; tar = tar; counter = number_of_five-five counter below i; body = is i }))

  plain-carried : length code ≡ 8 → counter < 2 ^ 40 → carried_plain keys.kid kvn spi (head ++ part) ≡ wanted
  unfolding two five
  plain-carried len below =
      let code_is : take 8 (drop 16 (head ++ part)) ≡ code = take_at code text 8 len in
      let checked_is : checked_of (head ++ part) ≡ checked = ap (λ t. head ++ counter_octets counter padding ++ t) (drop_at code text 8 len) in
      let authentic : is_authentic keys.kid (head ++ part) ≡ true = (λ i. bytes_eq (code_is i) (checksum_of keys.kid (checked_is i))) ∙ bytes_eq-same code in
      rw authentic (ap (carried_checked kvn spi) checked_is ∙ checked-carried below)

  module _ (rest : List ℕ) where
    form : length body ≤ 4096 → padding ≡ padding_of spi body → length rest ≡ 14 + length text → has_form (head ++ rest) ≡ true
    unfolding two
    form fits pad len =
        let few : padding ≤ 15 = omega (arith, padding-few spi.ciphered (14 + length body), pad) in
        let cpl : number_of_two (take 2 (head ++ rest)) ≡ 22 + length text = number_of_two-two (22 + length text) (omega (arith, text_len)) in
        and_from _ _ (and_from _ _ (and_from _ _ (le-leb 24 (length (head ++ rest)) (omega (arith, len))) (eq-eqb _ _ (omega (arith, cpl, len)))) refl)
        (blocks spi.ciphered (says_ciphered (slice_index (head ++ rest) 3)) ((length (head ++ rest) - 10) % 16) (says_ciphered-security spi.mode spi.ciphered)
        (λ is. omega (arith, whole_blocks spi.ciphered (14 + length body) is, pad, len, text_len)))

    security : 1 ≤ kvn → kvn ≤ 15 → security_in (head ++ rest) ≡ Some (spi, kvn)
    unfolding two
    security above below =
        (λ i. security_by (read-written spi.mode spi.ciphered spi.answer_ciphered i) (read_key-written kvn above below i) (read_key-written kvn above below i))
        ∙ rw (eq-eqb kvn kvn refl) refl

    pub carries-built : 1 ≤ kvn → kvn ≤ 15 → counter < 2 ^ 40 → length body ≤ 4096 → padding ≡ padding_of spi body
        → length code ≡ 8 → deciphered spi.ciphered keys.kic rest ≡ part → length rest ≡ 14 + length text
        → carries keys kvn (head ++ rest) ≡ wanted
    unfolding carries two
    carries-built above below small fits pad eight plain len =
        let plain_is : plain_of spi.ciphered keys.kic (head ++ rest) ≡ head ++ part = ap (λ s. head ++ s) plain in
        ap (λ test. cond test (carried_by keys kvn (head ++ rest) (security_in (head ++ rest))) (Err Form)) (form fits pad len)
        ∙ ap (carried_by keys kvn (head ++ rest)) (security above below)
        ∙ rw (eq-eqb kvn kvn refl) (ap (carried_plain keys.kid kvn spi) plain_is ∙ plain-carried eight small)

-- what is left of a packet that is built
pub record IsBuilt (keys : KeyPair) (kvn : ℕ) (spi : Spi) (tar : List ℕ) (counter : ℕ) (body packet : List ℕ) : Type 0 where
  pub octets : packet ≡ command_octets keys kvn spi tar counter body
  pub carried : carries keys kvn packet ≡ Ok (record { kvn = kvn; spi = spi; tar = tar; counter = counter; body = body })

-- the three steps, and what is known of their octets
pub record Steps (keys : KeyPair) (kvn : ℕ) (spi : Spi) (tar : List ℕ) (counter padding : ℕ) (body kic kid first second third : List ℕ) : Type 0 where
  pub checked : first ≡ replicate 8 0 ++ checked_octets spi kvn tar counter padding (with_padding padding body)
  pub coded : second ≡ take 16 (drop 8 first) ++ checksum_of kid (drop 8 first) ++ drop (16 + 8) first
  pub ciphered : third ≡ take 10 second ++ sent spi.ciphered kic (drop 10 second)
  pub is_kic : kic ≡ keys.kic
  pub is_kid : kid ≡ keys.kid
  pub eight : length (checksum_of kid (drop 8 first)) ≡ 8
  pub undone : deciphered spi.ciphered kic (sent spi.ciphered kic (drop 10 second)) ≡ drop 10 second
  pub len : length third ≡ 24 + length body + padding

pub is_built : (keys : KeyPair) (kvn : ℕ) (spi : Spi) (tar : List ℕ) (counter padding : ℕ) (body kic kid first second third : List ℕ)
    → Steps keys kvn spi tar counter padding body kic kid first second third
    → length tar ≡ 3 → 1 ≤ kvn → kvn ≤ 15 → counter < 2 ^ 40 → length body ≤ 4096 → padding ≡ padding_of spi body
    → IsBuilt keys kvn spi tar counter body third
unfolding command_octets two five
is_built keys kvn spi [] counter padding body kic kid first second third steps three above below small fits pad = absurd (omega arith)
is_built keys kvn spi (a ∷ []) counter padding body kic kid first second third steps three above below small fits pad = absurd (omega arith)
is_built keys kvn spi (a ∷ b ∷ []) counter padding body kic kid first second third steps three above below small fits pad = absurd (omega arith)
is_built keys kvn spi (a ∷ b ∷ c ∷ d ∷ more) counter padding body kic kid first second third steps three above below small fits pad = absurd (omega arith)
is_built keys kvn spi (a ∷ b ∷ c ∷ []) counter padding body kic kid first second third steps three above below small fits pad =
    let tar : List ℕ = a ∷ b ∷ c ∷ [] in
    let text : List ℕ = with_padding padding body in
    let checked : List ℕ = checked_octets spi kvn tar counter padding text in
    let code : List ℕ = checksum_of keys.kid checked in
    let part : List ℕ = counter_octets counter padding ++ code ++ text in
    let rest : List ℕ = sent spi.ciphered keys.kic part in
    let coded : second ≡ take 16 (drop 8 first) ++ checksum_of keys.kid (drop 8 first) ++ drop (16 + 8) first =
    steps.coded ∙ ap (λ kid. take 16 (drop 8 first) ++ checksum_of kid (drop 8 first) ++ drop (16 + 8) first) steps.is_kid in
    let ciphered : third ≡ take 10 second ++ sent spi.ciphered keys.kic (drop 10 second) =
    steps.ciphered ∙ ap (λ kic. take 10 second ++ sent spi.ciphered kic (drop 10 second)) steps.is_kic in
    let packet : third ≡ packet_octets keys kvn spi tar counter padding text = built keys kvn spi a b c counter padding text first second third steps.checked coded ciphered in
    let behind : drop 10 second ≡ part =
    ap (drop 10) (coded ∙ ap (λ octets. take 16 (drop 8 octets) ++ checksum_of keys.kid (drop 8 octets) ++ drop (16 + 8) octets) steps.checked) in
    let eight : length code ≡ 8 = sym (λ i. length (checksum_of (steps.is_kid i) (drop 8 (steps.checked i)))) ∙ steps.eight in
    let plain : deciphered spi.ciphered keys.kic rest ≡ part =
    sym (λ i. deciphered spi.ciphered (steps.is_kic i) (sent spi.ciphered (steps.is_kic i) (behind i))) ∙ steps.undone ∙ behind in
    let len : length rest ≡ 14 + length text = omega (arith, steps.len, ap length packet, length-append body (replicate padding 0), length-replicate {A = ℕ} padding 0) in
    record {
      octets = packet ∙ ap (λ p. packet_octets keys kvn spi tar counter p (with_padding p body)) pad;
      carried = ap (carries keys kvn) packet ∙ carries-built keys kvn spi a b c counter padding body rest above below small fits pad eight plain len;
    }

-- how many octets a packet has
pub length-built : (ciphered : Bool) (len padding all : ℕ) → padding ≡ padding_len ciphered (14 + len) → all ≡ 24 + len + padding → all ≡ packet_length ciphered len
length-built true len padding all pad is = omega (arith, pad, is)
length-built false len padding all pad is = omega (arith, pad, is)
