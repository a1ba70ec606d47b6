-- What is built opens to what it is built from.
use Rattle.std.proofs.Common.{◌≡◌, ℕ, ◌+◌, ◌-◌, ◌%◌, ◌^◌, ◌<◌, ◌≤◌, Bool, true, leb, Result, Ok, Err, List, [], ◌∷◌, ◌++◌, length, take, drop, replicate, get_or, refl, sym, ap, ◌∙◌, arith, lit<, length-append}
use Rattle.std.specs.Str.{bytes_eq}
use Rattle.std.proofs.lemmas.List.{drop_at, length-replicate, take_at}
use Rattle.std.proofs.lemmas.Bool.{and_from, eq-eqb, le-leb}
use Rattle.aes_modes.specs.KeyPair.{KeyPair}
use Rattle.secured_packet.specs.Secured.{checksum_of, deciphered, five, number_of_two, sent, two, with_padding}
use Rattle.secured_packet.proofs.FieldLemmas.{blocks, bytes_eq-same, number_of_five-five, number_of_two-two, padding-few, whole_blocks}
use Rattle.response_packet.specs.declared.answers.Answer.{Answer}
use Rattle.response_packet.specs.declared.answers.AnswerErr.{AnswerErr}
use Rattle.response_packet.specs.declared.answers.AnswerErr.TheVariants.{Unsecured}
use Rattle.response_packet.specs.declared.fronts.Front.TheVariants.{Secured}
use Rattle.response_packet.specs.Response.{checked_octets, head_octets, packet_octets, padding_of, plain_octets, response_octets, status_octets, user_data_header}
use Rattle.response_packet.specs.Opened.{checked_of, front_in, has_blocks, has_length, is_authentic, opened_by, opened_checked, opened_plain, opens, plain_of}

-- the packet from its three steps: what is checked behind 5 octets, the checksum in its place, and ciphered
built : (keys : KeyPair) (ciphered : Bool) (a b c counter padding status : ℕ) (text first second third : List ℕ)
    → first ≡ replicate 5 0 ++ checked_octets (a ∷ b ∷ c ∷ []) counter padding status text
    → second ≡ take 13 (drop 8 first) ++ checksum_of keys.kid (drop 5 first) ++ drop (13 + 8) first
    → third ≡ take 6 second ++ sent ciphered keys.kic (drop 6 second)
    → third ≡ packet_octets keys ciphered (a ∷ b ∷ c ∷ []) counter padding status text
unfolding two five
built keys ciphered a b c counter padding status text first second third e1 e2 e3 =
    e3
    ∙ ap (λ octets. take 6 octets ++ sent ciphered keys.kic (drop 6 octets))
    (e2 ∙ ap (λ octets. take 13 (drop 8 octets) ++ checksum_of keys.kid (drop 5 octets) ++ drop (13 + 8) octets) e1)

module _ (keys : KeyPair) (ciphered : Bool) (a b c counter padding status : ℕ) (octets : List ℕ) where
  abbrev text : List ℕ
  text = with_padding padding octets

  abbrev tar : List ℕ
  tar = a ∷ b ∷ c ∷ []

  abbrev checked : List ℕ
  checked = checked_octets tar counter padding status text

  abbrev code : List ℕ
  code = checksum_of keys.kid checked

  abbrev part : List ℕ
  part = status_octets counter padding status ++ code ++ text

  abbrev head : List ℕ
  head = head_octets (19 + length text) 0x12 tar

  abbrev wanted : Result Answer AnswerErr
  wanted = Ok (record { tar = tar; counter = counter; status = status; octets = octets })

  text_len : length text ≡ length octets + padding
  text_len = omega (arith, length-append octets (replicate padding 0), length-replicate {A = ℕ} padding 0)

  checked-opened : counter < 2 ^ 40 → opened_checked (head ++ status_octets counter padding status ++ text) ≡ wanted
  unfolding two five
  checked-opened below =
      let fits : leb padding (length text) ≡ true = le-leb padding (length text) (omega (arith, text_len)) in
      let len : length text - padding ≡ length octets = omega (arith, text_len) in
      let is : take (length text - padding) text ≡ octets = ap (λ n. take n text) len ∙ take_at octets (replicate padding 0) (length octets) refl in
      rw fits (λ i. Ok (record { tar = tar; counter = number_of_five-five counter below i; status = status; octets = is i }))

  plain-opened : length code ≡ 8 → counter < 2 ^ 40 → opened_plain keys.kid (head ++ part) ≡ wanted
  unfolding two five
  plain-opened len below =
      let code_is : take 8 (drop 13 (head ++ part)) ≡ code = take_at code text 8 len in
      let checked_is : checked_of (head ++ part) ≡ head ++ status_octets counter padding status ++ text = ap (λ t. head ++ status_octets counter padding status ++ t) (drop_at code text 8 len) in
      let authentic : is_authentic keys.kid (head ++ part) ≡ true = (λ i. bytes_eq (code_is i) (checksum_of keys.kid (user_data_header ++ checked_is i))) ∙ bytes_eq-same code in
      rw authentic (ap opened_checked checked_is ∙ checked-opened below)

  module _ (rest : List ℕ) where
    front : length octets ≤ 259 → padding ≡ padding_of ciphered octets → length rest ≡ 15 + length text → front_in ciphered (head ++ rest) ≡ Secured
    unfolding two
    front fits pad len =
        let few : padding ≤ 15 = omega (arith, padding-few ciphered (15 + length octets), pad) in
        let rpl : number_of_two (take 2 (head ++ rest)) ≡ 19 + length text = number_of_two-two (19 + length text) (omega (arith, text_len)) in
        let lengths : has_length (head ++ rest) ≡ true = and_from _ _ (le-leb 13 (length (head ++ rest)) (omega (arith, len))) (eq-eqb _ _ (omega (arith, rpl, len))) in
        let whole : has_blocks ciphered (head ++ rest) ≡ true =
        and_from _ _ (le-leb 21 (length (head ++ rest)) (omega (arith, len)))
        (blocks ciphered ciphered ((length (head ++ rest) - 6) % 16) refl (λ is. omega (arith, whole_blocks ciphered (15 + length octets) is, pad, len, text_len))) in
        rw (lengths, whole) refl

    opens-built : counter < 2 ^ 40 → length octets ≤ 259 → padding ≡ padding_of ciphered octets
        → length code ≡ 8 → deciphered ciphered keys.kic rest ≡ part → length rest ≡ 15 + length text
        → opens keys ciphered (head ++ rest) ≡ wanted
    unfolding opens two
    opens-built small fits pad eight plain len =
        let plain_is : plain_of ciphered keys.kic (head ++ rest) ≡ head ++ part = ap (λ s. head ++ s) plain in
        ap (opened_by keys ciphered (head ++ rest)) (front fits pad len) ∙ ap (opened_plain keys.kid) plain_is ∙ plain-opened eight small

-- what is left of a packet that is built
pub record IsAnswered (keys : KeyPair) (ciphered : Bool) (tar : List ℕ) (counter status : ℕ) (octets packet : List ℕ) : Type 0 where
  pub is : packet ≡ response_octets keys ciphered tar counter status octets
  pub opened : opens keys ciphered packet ≡ Ok (record { tar = tar; counter = counter; status = status; octets = octets })

-- the three steps, and what is known of their octets
pub record Steps (keys : KeyPair) (ciphered : Bool) (tar : List ℕ) (counter padding status : ℕ) (octets kic kid first second third : List ℕ) : Type 0 where
  pub checks : first ≡ replicate 5 0 ++ checked_octets tar counter padding status (with_padding padding octets)
  pub coded : second ≡ take 13 (drop 8 first) ++ checksum_of kid (drop 5 first) ++ drop (13 + 8) first
  pub sends : third ≡ take 6 second ++ sent ciphered kic (drop 6 second)
  pub is_kic : kic ≡ keys.kic
  pub is_kid : kid ≡ keys.kid
  pub eight : length (checksum_of kid (drop 5 first)) ≡ 8
  pub undone : deciphered ciphered kic (sent ciphered kic (drop 6 second)) ≡ drop 6 second
  pub len : length third ≡ 21 + length octets + padding

pub is_answered : (keys : KeyPair) (ciphered : Bool) (tar : List ℕ) (counter padding status : ℕ) (octets kic kid first second third : List ℕ)
    → Steps keys ciphered tar counter padding status octets kic kid first second third
    → length tar ≡ 3 → counter < 2 ^ 40 → length octets ≤ 259 → padding ≡ padding_of ciphered octets
    → IsAnswered keys ciphered tar counter status octets third
unfolding response_octets two five
is_answered keys ciphered [] counter padding status octets kic kid first second third steps three small fits pad = absurd (omega arith)
is_answered keys ciphered (a ∷ []) counter padding status octets kic kid first second third steps three small fits pad = absurd (omega arith)
is_answered keys ciphered (a ∷ b ∷ []) counter padding status octets kic kid first second third steps three small fits pad = absurd (omega arith)
is_answered keys ciphered (a ∷ b ∷ c ∷ d ∷ more) counter padding status octets kic kid first second third steps three small fits pad = absurd (omega arith)
is_answered keys ciphered (a ∷ b ∷ c ∷ []) counter padding status octets kic kid first second third steps three small fits pad =
    let tar : List ℕ = a ∷ b ∷ c ∷ [] in
    let text : List ℕ = with_padding padding octets in
    let checked : List ℕ = checked_octets tar counter padding status text in
    let code : List ℕ = checksum_of keys.kid checked in
    let part : List ℕ = status_octets counter padding status ++ code ++ text in
    let rest : List ℕ = sent ciphered keys.kic part in
    let coded : second ≡ take 13 (drop 8 first) ++ checksum_of keys.kid (drop 5 first) ++ drop (13 + 8) first =
    steps.coded ∙ ap (λ kid. take 13 (drop 8 first) ++ checksum_of kid (drop 5 first) ++ drop (13 + 8) first) steps.is_kid in
    let sends : third ≡ take 6 second ++ sent ciphered keys.kic (drop 6 second) =
    steps.sends ∙ ap (λ kic. take 6 second ++ sent ciphered kic (drop 6 second)) steps.is_kic in
    let packet : third ≡ packet_octets keys ciphered tar counter padding status text = built keys ciphered a b c counter padding status text first second third steps.checks coded sends in
    let behind : drop 6 second ≡ part =
    ap (drop 6) (coded ∙ ap (λ octets. take 13 (drop 8 octets) ++ checksum_of keys.kid (drop 5 octets) ++ drop (13 + 8) octets) steps.checks) in
    let eight : length code ≡ 8 = sym (λ i. length (checksum_of (steps.is_kid i) (drop 5 (steps.checks i)))) ∙ steps.eight in
    let plain : deciphered ciphered keys.kic rest ≡ part =
    sym (λ i. deciphered ciphered (steps.is_kic i) (sent ciphered (steps.is_kic i) (behind i))) ∙ steps.undone ∙ behind in
    let len : length rest ≡ 15 + length text = omega (arith, steps.len, ap length packet, length-append octets (replicate padding 0), length-replicate {A = ℕ} padding 0) in
    record {
      is = packet ∙ ap (λ p. packet_octets keys ciphered tar counter p status (with_padding p octets)) pad;
      opened = ap (opens keys ciphered) packet ∙ opens-built keys ciphered a b c counter padding status octets rest small fits pad eight plain len;
    }

-- ---- the unsecured form

-- three octets, one by one
pub three_octets : (s : List ℕ) → length s ≡ 3 → get_or s 0 0 ∷ get_or s 1 0 ∷ get_or s 2 0 ∷ [] ≡ s
three_octets [] len = absurd (omega arith)
three_octets (a ∷ []) len = absurd (omega arith)
three_octets (a ∷ b ∷ []) len = absurd (omega arith)
three_octets (a ∷ b ∷ c ∷ []) len = refl
three_octets (a ∷ b ∷ c ∷ d ∷ rest) len = absurd (omega arith)

pub plain-opens : (keys : KeyPair) (ciphered : Bool) (tar : List ℕ) (counter status : ℕ) → length tar ≡ 3 → opens keys ciphered (plain_octets tar counter status) ≡ Err (Unsecured status)
unfolding opens two five
plain-opens keys ciphered [] counter status len = absurd (omega arith)
plain-opens keys ciphered (a ∷ []) counter status len = absurd (omega arith)
plain-opens keys ciphered (a ∷ b ∷ []) counter status len = absurd (omega arith)
plain-opens keys ciphered (a ∷ b ∷ c ∷ []) counter status len =
    let rpl : number_of_two (0 ∷ 11 ∷ []) ≡ 11 = number_of_two-two 11 (lit< tt) in
    rw rpl refl
plain-opens keys ciphered (a ∷ b ∷ c ∷ d ∷ rest) counter status len = absurd (omega arith)
