-- Laws of parts and batches: what is written is read so, and what a reading looks at.
use Rattle.std.specs.Prelude.{◌≡◌, ℕ, zero, suc, ◌+◌, ◌^◌, ◌<◌, ◌≤◌, Bool, true, false, cond, nat_lt, Option, Some, None, List, [], ◌∷◌, ◌++◌, length, take, drop, refl}
use Rattle.std.specs.Option.{option_map, option_and_then}
use Rattle.std.specs.List.{flat_map}
use Rattle.std.specs.Int.{w32, from_be_bytes}
use Rattle.std.proofs.Common.{sym, ◌∙◌, ap, subst, arith, append_assoc, length-append, length-take, length-drop}
use Rattle.std.proofs.lemmas.Bool.{ltb-false, le-ltb}
use Rattle.std.proofs.lemmas.List.{take_at, drop_at, take-take, drop-take, drop-drop}
use Rattle.std.proofs.lemmas.Nat.{from_be_bytes-to_be_bytes_4}
use Rattle.gate_log.specs.Log.{four, part_octets, batch_octets}
use Rattle.gate_log.specs.Reading.{size_at, measured, parts_from, batch_with, batch_of}

pub length-four : (n : ℕ) → length (four n) ≡ 4
unfolding four
length-four n = refl

-- a number that is written is read so
pub size_at-four : (n : ℕ) (rest : List ℕ) → n < 2 ^ 32 → size_at (four n ++ rest) ≡ n
unfolding four
size_at-four n rest fits = from_be_bytes-to_be_bytes_4 n fits

-- ---- a length and so many octets

abbrev Found : Type 0
Found = Option (List ℕ × List ℕ)

-- the octets of that size behind their length, and what follows them
abbrev found : ℕ → List ℕ → Found
found size octets = Some (take size (drop 4 octets), drop (4 + size) octets)

pub record IsMeasured (octets part rest : List ℕ) : Type 0 where
  pub size : length part ≡ size_at octets
  pub part_is : part ≡ take (length part) (drop 4 octets)
  pub rest_is : rest ≡ drop (4 + length part) octets
  pub within : 4 + length part ≤ length octets

measured_cases : (octets part rest : List ℕ) (b : Bool) → nat_lt (length octets) (4 + size_at octets) ≡ b
    → cond b None (found (size_at octets) octets) ≡ Some (part, rest)
    → IsMeasured octets part rest
measured_cases octets part rest true test e = absurd cc
measured_cases octets part rest false test e =
    let size = size_at octets in
    let long : 4 + size ≤ length octets = ltb-false _ _ test in
    let both : ◌≡◌ {A = List ℕ × List ℕ} (take size (drop 4 octets), drop (4 + size) octets) (part, rest) = cc in
    let part_is : take size (drop 4 octets) ≡ part = ap (λ (m : List ℕ × List ℕ). m.0) both in
    let rest_is : drop (4 + size) octets ≡ rest = ap (λ (m : List ℕ × List ℕ). m.1) both in
    let n : length part ≡ size = ap length (sym part_is) ∙ omega (arith, length-take size (drop 4 octets), length-drop 4 octets, long) in
    record {
      size = n;
      part_is = sym part_is ∙ ap (λ (k : ℕ). take k (drop 4 octets)) (sym n);
      rest_is = sym rest_is ∙ ap (λ (k : ℕ). drop (4 + k) octets) (sym n);
      within = omega (arith, n, long);
    }

pub measured_some : (octets part rest : List ℕ) → measured octets ≡ Some (part, rest) → IsMeasured octets part rest
unfolding measured
measured_some octets part rest e = measured_cases octets part rest (nat_lt (length octets) (4 + size_at octets)) refl e

-- octets long enough for the size that they begin with
pub measured_long : (octets : List ℕ) (size : ℕ) → size ≡ size_at octets → 4 + size ≤ length octets → measured octets ≡ Some (take size (drop 4 octets), drop (4 + size) octets)
unfolding measured
measured_long octets size is long =
    let test : nat_lt (length octets) (4 + size_at octets) ≡ false = le-ltb _ _ (omega (arith, is, long)) in
    subst (λ (k : ℕ). cond (nat_lt (length octets) (4 + size_at octets)) None (found (size_at octets) octets) ≡ found k octets) (sym is)
    (ap (λ (b : Bool). cond b None (found (size_at octets) octets)) test)

-- what is written is measured
pub measured-written : (part rest : List ℕ) → length part < 2 ^ 32 → measured (four (length part) ++ (part ++ rest)) ≡ Some (part, rest)
measured-written part rest fits =
    let n = length part in
    let octets = four n ++ (part ++ rest) in
    let four_long = length-four n in
    let size : n ≡ size_at octets = sym (size_at-four n (part ++ rest) fits) in
    let long : 4 + n ≤ length octets = omega (arith, four_long, length-append (four n) (part ++ rest), length-append part rest) in
    let behind : drop 4 octets ≡ part ++ rest = drop_at (four n) (part ++ rest) 4 four_long in
    let part_is : take n (drop 4 octets) ≡ part = ap (take n) behind ∙ take_at part rest n refl in
    let rest_is : drop (4 + n) octets ≡ rest = sym (drop-drop n 4 octets) ∙ ap (drop n) behind ∙ drop_at part rest n refl in
    measured_long octets n size long ∙ ap (λ (m : List ℕ × List ℕ). Some m) (ap (λ (p : List ℕ). (p, drop (4 + n) octets)) part_is ∙ ap (λ (r : List ℕ). (part, r)) rest_is)

-- ---- parts

-- octets that are passed over
pub parts_skip : (skip : ℕ) (octets : List ℕ) → parts_from skip octets ≡ parts_from 0 (drop skip octets)
unfolding parts_from
parts_skip zero octets = refl
parts_skip (suc skip) [] = refl
parts_skip (suc skip) (x ∷ octets) = parts_skip skip octets

-- a part and those behind it
pub parts_step : (octets part rest : List ℕ) → measured octets ≡ Some (part, rest) → parts_from 0 octets ≡ option_map (λ parts. part ∷ parts) (parts_from 0 rest)
unfolding parts_from
parts_step [] part rest e = absurd (omega (arith, (measured_some [] part rest e).within))
parts_step (x ∷ octets) part rest e =
    let is = measured_some (x ∷ octets) part rest e in
    let one_more : suc (3 + length part) ≡ 4 + length part = omega arith in
    let behind : drop (3 + length part) octets ≡ rest = ap (λ (k : ℕ). drop k (x ∷ octets)) one_more ∙ sym is.rest_is in
    ap (option_and_then (λ (m : List ℕ × List ℕ). option_map (λ (parts : List (List ℕ)). m.0 ∷ parts) (parts_from (3 + length m.0) octets))) e
    ∙ ap (option_map (λ (parts : List (List ℕ)). part ∷ parts)) (parts_skip (3 + length part) octets ∙ ap (parts_from 0) behind)

-- octets that begin with no part
pub parts_none : (x : ℕ) (octets : List ℕ) → measured (x ∷ octets) ≡ None → parts_from 0 (x ∷ octets) ≡ None
unfolding parts_from
parts_none x octets e = ap (option_and_then (λ (m : List ℕ × List ℕ). option_map (λ (parts : List (List ℕ)). m.0 ∷ parts) (parts_from (3 + length m.0) octets))) e

pub parts_done : parts_from 0 [] ≡ Some []
unfolding parts_from
parts_done = refl

-- parts that are written are read
pub parts-written : (parts : List (List ℕ)) → length (flat_map part_octets parts) < 2 ^ 32 → parts_from 0 (flat_map part_octets parts) ≡ Some parts
parts-written [] fits = parts_done
parts-written (part ∷ parts) fits =
    let rest = flat_map part_octets parts in
    let whole : flat_map part_octets (part ∷ parts) ≡ four (length part) ++ (part ++ rest) = append_assoc (four (length part)) part rest in
    let long : length (flat_map part_octets (part ∷ parts)) ≡ 4 + length part + length rest =
    ap length whole ∙ omega (arith, length-four (length part), length-append (four (length part)) (part ++ rest), length-append part rest) in
    ap (parts_from 0) whole
    ∙ parts_step (four (length part) ++ (part ++ rest)) part rest (measured-written part rest (omega (arith, long, fits)))
    ∙ ap (option_map (λ (more : List (List ℕ)). part ∷ more)) (parts-written parts (omega (arith, long, fits)))

-- ---- batches

-- the octets behind an open gate begin with a batch of these parts, of so many octets behind its length
pub record IsBatch (octets : List ℕ) (parts : List (List ℕ)) (size : ℕ) : Type 0 where
  pub size_is : size ≡ size_at octets
  pub within : 4 + size < length octets
  pub parts_are : parts_from 0 (take size (drop 4 octets)) ≡ Some parts
  pub has_part : 0 < length parts

batch_with-all : (size : ℕ) (behind : List ℕ) (parts : List (List ℕ)) → 0 < length behind → 0 < length parts → batch_with size behind parts ≡ Some (parts, size)
batch_with-all size [] parts b p = absurd (omega arith)
batch_with-all size (gate ∷ behind) [] b p = absurd (omega arith)
batch_with-all size (gate ∷ behind) (part ∷ parts) b p = refl

batch_with-some : (size : ℕ) (behind : List ℕ) (found parts : List (List ℕ)) (n : ℕ) → batch_with size behind found ≡ Some (parts, n)
    → (0 < length behind) × (0 < length parts) × (found ≡ parts) × (size ≡ n)
batch_with-some size [] [] parts n e = absurd cc
batch_with-some size [] (first ∷ found) parts n e = absurd cc
batch_with-some size (gate ∷ behind) [] parts n e = absurd cc
batch_with-some size (gate ∷ behind) (first ∷ found) parts n e =
    let both : ◌≡◌ {A = List (List ℕ) × ℕ} (first ∷ found, size) (parts, n) = cc in
    let found_is : first ∷ found ≡ parts = ap (λ (p : List (List ℕ) × ℕ). p.0) both in
    (omega arith, omega (arith, ap length found_is), found_is, ap (λ (p : List (List ℕ) × ℕ). p.1) both)

-- a batch by what it is
pub batch_of_is : (octets : List ℕ) (parts : List (List ℕ)) (size : ℕ) → IsBatch octets parts size → batch_of octets ≡ Some (parts, size)
unfolding batch_of
batch_of_is octets parts size is =
    let part = take size (drop 4 octets) in
    let rest = drop (4 + size) octets in
    let n : length part ≡ size = omega (arith, length-take size (drop 4 octets), length-drop 4 octets, is.within) in
    let m : measured octets ≡ Some (part, rest) = measured_long octets size is.size_is (omega (arith, is.within)) in
    ap (option_and_then (λ (m : List ℕ × List ℕ). option_and_then (batch_with (length m.0) m.1) (parts_from 0 m.0))) m
    ∙ ap (option_and_then (batch_with (length part) rest)) is.parts_are
    ∙ batch_with-all (length part) rest parts (omega (arith, length-drop (4 + size) octets, is.within)) is.has_part
    ∙ ap (λ (k : ℕ). Some (parts, k)) n

batch_parts : (octets part rest : List ℕ) (parts : List (List ℕ)) (size : ℕ) → measured octets ≡ Some (part, rest)
    → (found : Option (List (List ℕ))) → parts_from 0 part ≡ found → option_and_then (batch_with (length part) rest) found ≡ Some (parts, size) → IsBatch octets parts size
batch_parts octets part rest parts size m None f e = absurd cc
batch_parts octets part rest parts size m (Some found) f e =
    let is = measured_some octets part rest m in
    let w = batch_with-some (length part) rest found parts size e in
    record {
      size_is = sym w.3 ∙ is.size;
      within = omega (arith, ap length is.rest_is, length-drop (4 + length part) octets, w.0, w.3, is.within);
      parts_are = ap (parts_from 0) (ap (λ (k : ℕ). take k (drop 4 octets)) (sym w.3) ∙ sym is.part_is) ∙ f ∙ ap (λ (l : List (List ℕ)). Some l) w.2;
      has_part = w.1;
    }

batch_measured : (octets : List ℕ) (parts : List (List ℕ)) (size : ℕ) (found : Option (List ℕ × List ℕ)) → measured octets ≡ found
    → option_and_then (λ m. option_and_then (batch_with (length m.0) m.1) (parts_from 0 m.0)) found ≡ Some (parts, size) → IsBatch octets parts size
batch_measured octets parts size None m e = absurd cc
batch_measured octets parts size (Some (part, rest)) m e = batch_parts octets part rest parts size m (parts_from 0 part) refl e

-- what a batch is
pub is_batch_of : (octets : List ℕ) (parts : List (List ℕ)) (size : ℕ) → batch_of octets ≡ Some (parts, size) → IsBatch octets parts size
unfolding batch_of
is_batch_of octets parts size e = batch_measured octets parts size (measured octets) refl e

-- a batch looks at its own octets, and at whether any follow
pub batch_like : (octets other : List ℕ) (parts : List (List ℕ)) (size : ℕ) → batch_of octets ≡ Some (parts, size)
    → take (4 + size) other ≡ take (4 + size) octets → 4 + size < length other → batch_of other ≡ Some (parts, size)
batch_like octets other parts size e same long =
    let is = is_batch_of octets parts size e in
    let four_same : take 4 other ≡ take 4 octets =
    sym (take-take 4 (4 + size) other (omega arith)) ∙ ap (take 4) same ∙ take-take 4 (4 + size) octets (omega arith) in
    let part_same : take size (drop 4 other) ≡ take size (drop 4 octets) =
    sym (drop-take 4 size other) ∙ ap (drop 4) same ∙ drop-take 4 size octets in
    batch_of_is other parts size (record {
      size_is = is.size_is ∙ ap (from_be_bytes w32) (sym four_same);
      within = long;
      parts_are = ap (parts_from 0) part_same ∙ is.parts_are;
      has_part = is.has_part;
    })

-- a batch that is written is read, whatever stands behind its gate
pub batch-written : (parts : List (List ℕ)) (gate : ℕ) (behind : List ℕ) → 0 < length parts → length (flat_map part_octets parts) < 2 ^ 32
    → batch_of (batch_octets parts ++ gate ∷ behind) ≡ Some (parts, length (flat_map part_octets parts))
batch-written parts gate behind has fits =
    let body = flat_map part_octets parts in
    let n = length body in
    let octets = batch_octets parts ++ gate ∷ behind in
    let whole : octets ≡ four n ++ (body ++ gate ∷ behind) = append_assoc (four n) body (gate ∷ behind) in
    let behind_four : drop 4 octets ≡ body ++ gate ∷ behind = ap (drop 4) whole ∙ drop_at (four n) (body ++ gate ∷ behind) 4 (length-four n) in
    batch_of_is octets parts n (record {
      size_is = sym (ap size_at whole ∙ size_at-four n (body ++ gate ∷ behind) fits);
      within = omega (arith, ap length whole, length-four n, length-append (four n) (body ++ gate ∷ behind), length-append body (gate ∷ behind));
      parts_are = ap (parts_from 0) (ap (take n) behind_four ∙ take_at body (gate ∷ behind) n refl) ∙ parts-written parts fits;
      has_part = has;
    })
