-- Octets that open to parts are spelled as a log of these parts.
use Rattle.std.specs.Prelude.{◌≡◌, ◌≢◌, ℕ, zero, suc, ◌+◌, ◌^◌, ◌<◌, ◌≤◌, ◌==◌, Bool, true, false, cond, Option, Some, None, List, [], ◌∷◌, ◌++◌, length, take, drop, All, get_or, refl}
use Rattle.std.specs.List.{flat_map}
use Rattle.std.specs.Option.{option_map}
use Rattle.std.proofs.Common.{sym, ◌∙◌, ap, subst, arith, append_assoc, length-take, length-drop, take-append-drop}
use Rattle.std.proofs.lemmas.Bool.{eqb-true, eqb-false}
use Rattle.std.proofs.lemmas.List.{drop-drop}
use Rattle.std.proofs.lemmas.List.Elements.{All-drop, All-take}
use Rattle.std.proofs.lemmas.Nat.{be_bytes_4}
use Rattle.gate_log.specs.Log.{OPEN, four, part_octets, batch_octets, opened_batches, IsLogOf}
use Rattle.gate_log.specs.Measures.{measured_some, parts_step, parts_none, parts_done, is_batch_of}
use Rattle.gate_log.specs.Reading.{size_at, measured, parts_from, batch_of, Walk, behind_parts, from_batch, walk_from, parts_of}
use Rattle.gate_log.specs.Reading.Walk.{Ended, Broken}
use Rattle.gate_log.specs.Reading.Reading.{Opened}
use Rattle.gate_log.specs.Readings.{IsFormatted, opens_by}
use Rattle.gate_log.specs.Spelled.{AreBatches, parts_in_all}

-- each of them is an octet
abbrev pub AreOctets : List ℕ → Type 0
AreOctets octets = All (λ octet. octet < 256) octets

-- the octets are batches with these parts, and behind them a closed gate and this
pub record AreSpelled (octets : List ℕ) (parts : List (List ℕ)) (behind : List ℕ) : Type 0 where
  pub batches : List (List (List ℕ))
  pub are : AreBatches batches
  pub gate : ℕ
  pub closed : gate ≢ OPEN
  pub is : octets ≡ opened_batches batches ++ gate ∷ behind
  pub parts_are : parts ≡ parts_in_all batches

-- the octets are a log of these batches, which have these parts
pub record IsLogWith (head octets : List ℕ) (parts : List (List ℕ)) : Type 0 where
  pub batches : List (List (List ℕ))
  pub are : AreBatches batches
  pub log : IsLogOf head batches octets
  pub parts_are : parts ≡ parts_in_all batches

-- ---- a length

each_below : (octets : List ℕ) → AreOctets octets → (i : ℕ) → get_or octets i 0 < 256
each_below [] are i = omega arith
each_below (x ∷ octets) are zero = are 0 0 (omega arith)
each_below (x ∷ octets) are (suc i) = each_below octets (λ k d below. are (suc k) d (omega (arith, below))) i

-- four octets are the number that they say
size_back : (octets : List ℕ) → AreOctets octets → 4 ≤ length octets → four (size_at octets) ≡ take 4 octets
unfolding four
size_back octets are long =
    be_bytes_4 (take 4 octets) (size_at octets) (omega (arith, length-take 4 octets, long)) (each_below (take 4 octets) (All-take (λ (o : ℕ). o < 256) 4 octets are)) refl

size_small : (octets : List ℕ) → AreOctets octets → 4 ≤ length octets → size_at octets < 2 ^ 32
size_small [] are long = absurd (omega arith)
size_small (a ∷ []) are long = absurd (omega arith)
size_small (a ∷ b ∷ []) are long = absurd (omega arith)
size_small (a ∷ b ∷ c ∷ []) are long = absurd (omega arith)
size_small (a ∷ b ∷ c ∷ d ∷ octets) are long =
    omega (arith, are 0 0 (omega arith), are 1 0 (omega arith), are 2 0 (omega arith), are 3 0 (omega arith))

-- ---- parts

-- a part, its length in front of it
part_back : (octets part rest : List ℕ) → AreOctets octets → measured octets ≡ Some (part, rest) → octets ≡ part_octets part ++ rest
part_back octets part rest are m =
    let is = measured_some octets part rest m in
    let size : four (length part) ≡ take 4 octets = ap four is.size ∙ size_back octets are (omega (arith, is.within)) in
    let behind : drop 4 octets ≡ part ++ rest =
    sym (take-append-drop (length part) (drop 4 octets))
    ∙ ap (λ (l : List ℕ). l ++ drop (length part) (drop 4 octets)) (sym is.part_is)
    ∙ ap (λ (l : List ℕ). part ++ l) (drop-drop (length part) 4 octets ∙ sym is.rest_is) in
    sym (take-append-drop 4 octets)
    ∙ ap (λ (l : List ℕ). l ++ drop 4 octets) (sym size)
    ∙ ap (λ (l : List ℕ). four (length part) ++ l) behind
    ∙ sym (append_assoc (four (length part)) part rest)

one_option : {A : Type 0} (a b : A) → Some a ≡ Some b → a ≡ b
one_option a b e = cc

none_option : {A : Type 0} (a : A) → None ≡ Some a → ⊥
none_option a e = cc

abbrev PartsBack : ℕ → Type 0
PartsBack n = (octets : List ℕ) (parts : List (List ℕ)) → length octets ≤ n → AreOctets octets → parts_from 0 octets ≡ Some parts → octets ≡ flat_map part_octets parts

module _ (n x : ℕ) (octets : List ℕ) (parts : List (List ℕ)) (back : PartsBack n) (few : length (x ∷ octets) ≤ suc n) (are : AreOctets (x ∷ octets)) (e : parts_from 0 (x ∷ octets) ≡ Some parts) where
  rest_back : (part rest : List ℕ) → measured (x ∷ octets) ≡ Some (part, rest) → (more : Option (List (List ℕ))) → parts_from 0 rest ≡ more → x ∷ octets ≡ flat_map part_octets parts
  rest_back part rest m None none = absurd (none_option parts (sym (parts_step (x ∷ octets) part rest m ∙ ap (option_map (λ (l : List (List ℕ)). part ∷ l)) none) ∙ e))
  rest_back part rest m (Some more) some =
      let is = measured_some (x ∷ octets) part rest m in
      let smaller : length rest ≤ n = omega (arith, few, ap length is.rest_is, length-drop (4 + length part) (x ∷ octets), is.within) in
      let rest_are : AreOctets rest = subst AreOctets (sym is.rest_is) (All-drop (λ (o : ℕ). o < 256) (4 + length part) (x ∷ octets) are) in
      let parts_are : part ∷ more ≡ parts = one_option (part ∷ more) parts (sym (parts_step (x ∷ octets) part rest m ∙ ap (option_map (λ (l : List (List ℕ)). part ∷ l)) some) ∙ e) in
      part_back (x ∷ octets) part rest are m
      ∙ ap (λ (l : List ℕ). part_octets part ++ l) (back rest more smaller rest_are some)
      ∙ ap (flat_map part_octets) parts_are

  first_back : (found : Option (List ℕ × List ℕ)) → measured (x ∷ octets) ≡ found → x ∷ octets ≡ flat_map part_octets parts
  first_back None m = absurd (none_option parts (sym (parts_none x octets m) ∙ e))
  first_back (Some (part, rest)) m = rest_back part rest m (parts_from 0 rest) refl

parts_back : (n : ℕ) → PartsBack n
parts_back n [] parts few are e = ap (flat_map part_octets) (one_option [] parts (sym parts_done ∙ e))
parts_back zero (x ∷ octets) parts few are e = absurd (omega (arith, few))
parts_back (suc n) (x ∷ octets) parts few are e = first_back n x octets parts (parts_back n) few are e (measured (x ∷ octets)) refl

-- ---- batches

module _ (octets : List ℕ) (are : AreOctets octets) (found : List (List ℕ)) (size : ℕ) (batch : batch_of octets ≡ Some (found, size)) where
  body_back : take size (drop 4 octets) ≡ flat_map part_octets found
  body_back =
      let is = is_batch_of octets found size batch in
      let body = take size (drop 4 octets) in
      parts_back (length body) body found (omega arith) (All-take (λ (o : ℕ). o < 256) size (drop 4 octets) (All-drop (λ (o : ℕ). o < 256) 4 octets are)) is.parts_are

  body_long : length (flat_map part_octets found) ≡ size
  body_long =
      let is = is_batch_of octets found size batch in
      omega (arith, ap length body_back, length-take size (drop 4 octets), length-drop 4 octets, is.within)

  batch_small : length (flat_map part_octets found) < 2 ^ 32
  batch_small =
      let is = is_batch_of octets found size batch in
      omega (arith, body_long, is.size_is, size_small octets are (omega (arith, is.within)))

  batch_back : octets ≡ batch_octets found ++ drop (4 + size) octets
  batch_back =
      let is = is_batch_of octets found size batch in
      let front : take 4 octets ≡ four (length (flat_map part_octets found)) = sym (size_back octets are (omega (arith, is.within))) ∙ ap four (sym is.size_is ∙ sym body_long) in
      sym (take-append-drop 4 octets)
      ∙ ap (λ (l : List ℕ). l ++ drop 4 octets) front
      ∙ ap (λ (l : List ℕ). four (length (flat_map part_octets found)) ++ l) (sym (take-append-drop size (drop 4 octets)) ∙ ap (λ (l : List ℕ). l ++ drop size (drop 4 octets)) body_back ∙ ap (λ (l : List ℕ). flat_map part_octets found ++ l) (drop-drop size 4 octets))
      ∙ sym (append_assoc (four (length (flat_map part_octets found))) (flat_map part_octets found) (drop (4 + size) octets))

-- ---- a walk

abbrev SpellsBack : List ℕ → Type 0
SpellsBack octets = AreOctets octets → (skip : ℕ) (parts : List (List ℕ)) (behind : List ℕ) → walk_from skip octets ≡ Ended parts behind → AreSpelled (drop skip octets) parts behind

closed_back : (gate : ℕ) (octets : List ℕ) (parts : List (List ℕ)) (behind : List ℕ) → gate ≢ OPEN → Ended [] octets ≡ Ended parts behind → AreSpelled (gate ∷ octets) parts behind
closed_back gate octets parts behind closed e =
    let parts_are : [] ≡ parts = cc in
    let behind_is : octets ≡ behind = cc in
    record { batches = []; are = tt; gate = gate; closed = closed; is = ap (λ (l : List ℕ). gate ∷ l) behind_is; parts_are = sym parts_are }

module _ (octets : List ℕ) (back : SpellsBack octets) (are : AreOctets octets) (parts : List (List ℕ)) (behind : List ℕ) where
  opened_back : (found : List (List ℕ)) (size : ℕ) → batch_of octets ≡ Some (found, size) → (walk : Walk) → walk_from (4 + size) octets ≡ walk → behind_parts found walk ≡ Ended parts behind
      → AreSpelled (OPEN ∷ octets) parts behind
  opened_back found size batch (Broken more) walked e = absurd cc
  opened_back found size batch (Ended more rest) walked e =
      let parts_are : found ++ more ≡ parts = cc in
      let behind_is : rest ≡ behind = cc in
      let rest_is = back are (4 + size) more rest walked in
      let tail = opened_batches rest_is.batches in
      record {
        batches = found ∷ rest_is.batches;
        are = ((is_batch_of octets found size batch).has_part, batch_small octets are found size batch, rest_is.are);
        gate = rest_is.gate;
        closed = rest_is.closed;
        is = ap (λ (l : List ℕ). OPEN ∷ l)
            (batch_back octets are found size batch
            ∙ ap (λ (l : List ℕ). batch_octets found ++ l) (rest_is.is ∙ ap (λ (l : List ℕ). tail ++ rest_is.gate ∷ l) behind_is)
            ∙ sym (append_assoc (batch_octets found) tail (rest_is.gate ∷ behind)));
        parts_are = sym parts_are ∙ ap (λ (l : List (List ℕ)). found ++ l) rest_is.parts_are;
      }

  open_back : (batch : Option (List (List ℕ) × ℕ)) → batch_of octets ≡ batch → from_batch (λ skip. walk_from skip octets) batch ≡ Ended parts behind → AreSpelled (OPEN ∷ octets) parts behind
  open_back None batch e = absurd cc
  open_back (Some (found, size)) batch e = opened_back found size batch (walk_from (4 + size) octets) refl e

  gate_back : (gate : ℕ) (test : Bool) → (gate == OPEN) ≡ test → cond test (from_batch (λ skip. walk_from skip octets) (batch_of octets)) (Ended [] octets) ≡ Ended parts behind
      → AreSpelled (gate ∷ octets) parts behind
  gate_back gate true test e = subst (λ (g : ℕ). AreSpelled (g ∷ octets) parts behind) (sym (eqb-true gate OPEN test)) (open_back (batch_of octets) refl e)
  gate_back gate false test e = closed_back gate octets parts behind (eqb-false gate OPEN test) e

walk_back : (octets : List ℕ) → SpellsBack octets
unfolding walk_from
walk_back [] are zero parts behind e = absurd cc
walk_back [] are (suc skip) parts behind e = absurd cc
walk_back (x ∷ octets) are (suc skip) parts behind e = walk_back octets (λ k d below. are (suc k) d (omega (arith, below))) skip parts behind e
walk_back (gate ∷ octets) are zero parts behind e =
    let rest_are : AreOctets octets = λ k d below. are (suc k) d (omega (arith, below)) in
    gate_back octets (walk_back octets) rest_are parts behind gate (gate == OPEN) refl e

-- ---- a log

ten_back : (head octets : List ℕ) → length head ≡ 9 → IsFormatted head octets → octets ≡ (OPEN ∷ head) ++ drop 10 octets
ten_back head [] nine formatted = absurd (omega (arith, formatted.long))
ten_back head (x ∷ octets) nine formatted =
    let nine_are : take 5 octets ++ take 4 (drop 5 octets) ≡ head =
    ap (λ (l : List ℕ). l ++ take 4 (drop 5 octets)) formatted.name ∙ ap (λ (l : List ℕ). take 5 head ++ l) formatted.rest ∙ take-append-drop 5 head in
    let tail : octets ≡ head ++ drop 9 octets =
    sym (take-append-drop 5 octets)
    ∙ ap (λ (l : List ℕ). take 5 octets ++ l) (sym (take-append-drop 4 (drop 5 octets)) ∙ ap (λ (l : List ℕ). take 4 (drop 5 octets) ++ l) (drop-drop 4 5 octets))
    ∙ sym (append_assoc (take 5 octets) (take 4 (drop 5 octets)) (drop 9 octets))
    ∙ ap (λ (l : List ℕ). l ++ drop 9 octets) nine_are in
    ap (λ (m : ℕ). m ∷ octets) formatted.mark ∙ ap (λ (l : List ℕ). OPEN ∷ l) tail

pub parts_spelled-back : (head : List ℕ) (parts : List (List ℕ)) (behind octets : List ℕ) → length head ≡ 9 → AreOctets octets → parts_of head octets ≡ Opened parts behind → IsLogWith head octets parts
parts_spelled-back head parts behind octets nine are opened =
    let log = opens_by head octets parts behind opened in
    let spelled = walk_back (drop 10 octets) (All-drop (λ (o : ℕ). o < 256) 10 octets are) 0 parts behind log.1 in
    record {
      batches = spelled.batches;
      are = spelled.are;
      log = record {
        gate = spelled.gate;
        behind = behind;
        closed = spelled.closed;
        is = ten_back head octets nine log.0
            ∙ ap (λ (l : List ℕ). (OPEN ∷ head) ++ l) spelled.is
            ∙ sym (append_assoc (OPEN ∷ head) (opened_batches spelled.batches) (spelled.gate ∷ behind));
      };
      parts_are = spelled.parts_are;
    }
