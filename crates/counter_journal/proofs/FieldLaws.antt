-- A field that is read is the field that was written.
use Rattle.std.proofs.Common.{◌≡◌, ℕ, zero, suc, ◌+◌, ◌^◌, ◌<◌, ◌≤◌, Bool, true, false, ◌&&◌, ltb, eqb, leb, List, [], ◌∷◌, ◌++◌, length, get_or, take, drop, Option, Some, None, refl, sym, ap, subst, ◌∙◌, append_assoc, arith, inl, inr}
use Rattle.std.specs.Prelude.{IsTrue, if◌then◌else◌, ◌==◌}
use Rattle.std.specs.Int.{w32, w64, from_be_bytes, to_be_bytes}
use Rattle.std.proofs.lemmas.Bool.{cases_lt, ltb-false, leb-true, eqb-true}
use Rattle.std.proofs.lemmas.List.{take-append-drop, length-take, get_or-drop, get_or-take, get_or_past, nil_from_length, append-nil}
use Rattle.std.proofs.lemmas.Nat.{be_bytes_4, be_bytes_8}
use Rattle.ota_core.specs.KeyBytes.{is_key_length}
use Rattle.ota_core.specs.Keyset.{Keyset}
use Rattle.ota_core.specs.declared.jobs.JobId.{JobId}
use Rattle.ota_core.specs.declared.keysets.Mode.{Mode}
use Rattle.ota_core.specs.declared.keysets.Mode.TheVariants.{Higher, Next}
use Rattle.ota_core.specs.declared.keysets.KeysetFacts.{KeysetFacts}
use Rattle.gate_log.specs.Log.{four}
use Rattle.counter_journal.specs.declared.versions.Version.{Version}
use Rattle.counter_journal.specs.declared.versions.Version.TheVariants.{First, Second}
use Rattle.counter_journal.specs.EntryOctets.{five, eight, moment_octets, name_octets, front_octets, mode_octet, flag_octet, key_octets, facts_octets, job_octets}
use Rattle.counter_journal.specs.EntryRanges.{LONGEST_NAME, IsFront}
use Rattle.counter_journal.specs.EntryReading.{◌>>=◌, only_if, octet_at, number_at, counter_at, is_kvn, keyset_at, Front, front_at, mode_of, flag_of, manner_at, key_at, keys_in, facts_in, job_at, tar_at, moment_at, short_name_at, name_at, Purpose, purpose_at}
use Rattle.counter_journal.specs.EntriesAgain.{some_is, widened, keyset_of_numbers, keyset_octets, IsKeyset, IsMoment, IsName, front_of, front_parts, purpose_of, manner_octets, AreFacts, IsJob}

-- each is an octet
abbrev pub IsBytes : List ℕ → Type 0
IsBytes bytes = (i : ℕ) → get_or bytes i 0 < 256

pub IsBytes-drop : (n : ℕ) (bytes : List ℕ) → IsBytes bytes → IsBytes (drop n bytes)
IsBytes-drop n bytes h i = rw get_or-drop (h (n + i))

pub IsBytes-take : (n : ℕ) (bytes : List ℕ) → IsBytes bytes → IsBytes (take n bytes)
IsBytes-take n bytes h i =
    elim (cases_lt i n) [
      | inl lt ↦ rw (get_or-take n bytes i 0 lt) (h i)
      | inr le ↦ rw (get_or_past (take n bytes) i 0 (omega (arith, length-take n bytes))) (omega arith)
    ]

pub IsBytes-rest : (b : ℕ) (bytes : List ℕ) → IsBytes (b ∷ bytes) → IsBytes bytes
IsBytes-rest b bytes h i = h (suc i)

-- ---- steps

-- the value of a step that gave one
pub bind_some : {A B : Type 0} (r : Option A) (f : A → Option B) (y : B) → (r >>= f) ≡ Some y → (x : A) × (r ≡ Some x) × (f x ≡ Some y)
bind_some (Some x) f y e = (x, refl, e)
bind_some None f y e = absurd cc

-- a test that held
pub only_if_some : {A : Type 0} (b : Bool) (x y : A) → only_if b x ≡ Some y → (b ≡ true) × (x ≡ y)
only_if_some true x y e = (refl, cc)
only_if_some false x y e = absurd cc

-- a test that was passed
pub unless_some : {A : Type 0} (b : Bool) (x y : A) → (if b then None else Some x) ≡ Some y → (b ≡ false) × (x ≡ y)
unless_some true x y e = absurd cc
unless_some false x y e = (refl, cc)

pub both_true : (a b : Bool) → (a && b) ≡ true → (a ≡ true) × (b ≡ true)
both_true true true e = (refl, refl)
both_true true false e = absurd cc
both_true false b e = absurd cc

-- what a reader took from the front
pub record Takes (bytes text rest : List ℕ) : Type 0 where
  pub parts : bytes ≡ text ++ rest
  pub rest_fits : IsBytes rest

pub Takes-then : (a x b y c : List ℕ) → Takes a x b → Takes b y c → Takes a (x ++ y) c
Takes-then a x b y c p q = record { parts = p.parts ∙ ap (λ (t : List ℕ). x ++ t) q.parts ∙ sym (append_assoc x y c); rest_fits = q.rest_fits }

-- ---- numbers

four_is : (n : ℕ) → four n ≡ to_be_bytes w32 n
unfolding four
four_is n = refl

eight_is : (n : ℕ) → eight n ≡ to_be_bytes w64 n
unfolding eight
eight_is n = refl

pub octet_takes : (bytes : List ℕ) (o : ℕ) (rest : List ℕ) → IsBytes bytes → octet_at bytes ≡ Some (o, rest) → Takes bytes (o ∷ []) rest
octet_takes [] o rest fits e = absurd cc
octet_takes (b ∷ bytes) o rest fits e =
    subst (λ (x : ℕ × List ℕ). Takes (b ∷ bytes) (x.0 ∷ []) x.1) (some_is (b, bytes) (o, rest) e) (record { parts = refl; rest_fits = IsBytes-rest b bytes fits })

-- so many octets from the front
front_taken : (n : ℕ) (bytes : List ℕ) → IsBytes bytes → Takes bytes (take n bytes) (drop n bytes)
front_taken n bytes fits = record { parts = sym (take-append-drop n bytes); rest_fits = IsBytes-drop n bytes fits }

pub four_takes : (bytes : List ℕ) (n : ℕ) (rest : List ℕ) → IsBytes bytes → number_at w32 bytes ≡ Some (n, rest) → Takes bytes (four n) rest × (n < 2 ^ 32)
four_takes bytes n rest fits e =
    let g = unless_some (ltb (length bytes) 4) (from_be_bytes w32 (take 4 bytes), drop 4 bytes) (n, rest) e in
    let long : 4 ≤ length bytes = ltb-false _ _ g.0 in
    let small = IsBytes-take 4 bytes fits in
    let back : to_be_bytes w32 (from_be_bytes w32 (take 4 bytes)) ≡ take 4 bytes = be_bytes_4 (take 4 bytes) _ (omega (arith, length-take 4 bytes)) small refl in
    let below : from_be_bytes w32 (take 4 bytes) < 2 ^ 32 = omega (arith, small 0, small 1, small 2, small 3) in
    let taken : Takes bytes (four (from_be_bytes w32 (take 4 bytes))) (drop 4 bytes) = subst (λ (t : List ℕ). Takes bytes t (drop 4 bytes)) (sym (four_is _ ∙ back)) (front_taken 4 bytes fits) in
    subst (λ (x : ℕ × List ℕ). Takes bytes (four x.0) x.1 × (x.0 < 2 ^ 32)) g.1 (taken, below)

pub eight_takes : (bytes : List ℕ) (n : ℕ) (rest : List ℕ) → IsBytes bytes → number_at w64 bytes ≡ Some (n, rest) → Takes bytes (eight n) rest × (n < 2 ^ 64)
eight_takes bytes n rest fits e =
    let g = unless_some (ltb (length bytes) 8) (from_be_bytes w64 (take 8 bytes), drop 8 bytes) (n, rest) e in
    let long : 8 ≤ length bytes = ltb-false _ _ g.0 in
    let small = IsBytes-take 8 bytes fits in
    let back : to_be_bytes w64 (from_be_bytes w64 (take 8 bytes)) ≡ take 8 bytes = be_bytes_8 (take 8 bytes) _ (omega (arith, length-take 8 bytes)) small refl in
    let below : from_be_bytes w64 (take 8 bytes) < 2 ^ 64 = omega (arith, small 0, small 1, small 2, small 3, small 4, small 5, small 6, small 7) in
    let taken : Takes bytes (eight (from_be_bytes w64 (take 8 bytes))) (drop 8 bytes) = subst (λ (t : List ℕ). Takes bytes t (drop 8 bytes)) (sym (eight_is _ ∙ back)) (front_taken 8 bytes fits) in
    subst (λ (x : ℕ × List ℕ). Takes bytes (eight x.0) x.1 × (x.0 < 2 ^ 64)) g.1 (taken, below)

IsBytes-widened : (octets : List ℕ) → IsBytes octets → IsBytes (widened octets)
IsBytes-widened octets fits zero = omega arith
IsBytes-widened octets fits (suc zero) = omega arith
IsBytes-widened octets fits (suc (suc zero)) = omega arith
IsBytes-widened octets fits (suc (suc (suc i))) = fits i

five_of : (octets : List ℕ) → length octets ≡ 5 → IsBytes octets → five (from_be_bytes w64 (widened octets)) ≡ octets
unfolding five
five_of octets len fits =
    ap (drop 3) (be_bytes_8 (widened octets) _ (omega (arith, len)) (IsBytes-widened octets fits) refl)

pub counter_takes : (bytes : List ℕ) (n : ℕ) (rest : List ℕ) → IsBytes bytes → counter_at bytes ≡ Some (n, rest) → Takes bytes (five n) rest × (n < 2 ^ 40)
counter_takes bytes n rest fits e =
    let g = unless_some (ltb (length bytes) 5) (from_be_bytes w64 (widened (take 5 bytes)), drop 5 bytes) (n, rest) e in
    let long : 5 ≤ length bytes = ltb-false _ _ g.0 in
    let small = IsBytes-take 5 bytes fits in
    let back : five (from_be_bytes w64 (widened (take 5 bytes))) ≡ take 5 bytes = five_of (take 5 bytes) (omega (arith, length-take 5 bytes)) small in
    let below : from_be_bytes w64 (widened (take 5 bytes)) < 2 ^ 40 = omega (arith, small 0, small 1, small 2, small 3, small 4) in
    let taken : Takes bytes (five (from_be_bytes w64 (widened (take 5 bytes)))) (drop 5 bytes) = subst (λ (t : List ℕ). Takes bytes t (drop 5 bytes)) (sym back) (front_taken 5 bytes fits) in
    subst (λ (x : ℕ × List ℕ). Takes bytes (five x.0) x.1 × (x.0 < 2 ^ 40)) g.1 (taken, below)

-- ---- what each entry begins with

keyset_takes : (bytes : List ℕ) (keyset : Keyset) (rest : List ℕ) → IsBytes bytes → keyset_at bytes ≡ Some (keyset, rest)
    → Takes bytes (keyset_octets keyset) rest × IsKeyset keyset
unfolding keyset_at
keyset_takes bytes keyset rest fits e =
    let a = bind_some (number_at w64 bytes) (λ card. octet_at card.1 >>= λ kvn. only_if (is_kvn kvn.0) (keyset_of_numbers card.0 kvn.0, kvn.1)) (keyset, rest) e in
    let b = bind_some (octet_at a.0.1) (λ kvn. only_if (is_kvn kvn.0) (keyset_of_numbers a.0.0 kvn.0, kvn.1)) (keyset, rest) a.2 in
    let g = only_if_some (is_kvn b.0.0) (keyset_of_numbers a.0.0 b.0.0, b.0.1) (keyset, rest) b.2 in
    let t0 = eight_takes bytes a.0.0 a.0.1 fits a.1 in
    let t1 = octet_takes a.0.1 b.0.0 b.0.1 t0.0.rest_fits b.1 in
    let range = both_true (leb 1 b.0.0) (leb b.0.0 15) g.0 in
    let whole = Takes-then bytes (eight a.0.0) a.0.1 (b.0.0 ∷ []) b.0.1 t0.0 t1 in
    subst (λ (x : Keyset × List ℕ). Takes bytes (keyset_octets x.0) x.1 × IsKeyset x.0) g.1
    (whole, record { card_fits = t0.1; kvn_above = leb-true 1 b.0.0 range.0; kvn_below = leb-true b.0.0 15 range.1 })

abbrev IsTime : Version → ℕ → Type 0
IsTime version moment = (moment < 2 ^ 64) × IsMoment version moment

moment_takes : (version : Version) (bytes : List ℕ) (moment : ℕ) (rest : List ℕ) → IsBytes bytes → moment_at version bytes ≡ Some (moment, rest)
    → Takes bytes (moment_octets version moment) rest × IsTime version moment
moment_takes First bytes moment rest fits e =
    subst (λ (x : ℕ × List ℕ). Takes bytes (moment_octets First x.0) x.1 × IsTime First x.0) (some_is (0, bytes) (moment, rest) e)
    (record { parts = refl; rest_fits = fits }, (omega arith, refl))
moment_takes Second bytes moment rest fits e = let t = eight_takes bytes moment rest fits e in (t.0, (t.1, tt))

pub front_takes : (version : Version) (bytes : List ℕ) (front : Front) (rest : List ℕ) → IsBytes bytes → front_at version bytes ≡ Some (front, rest)
    → Takes bytes (front_octets version front.kind front.by front.moment front.keyset) rest × IsFront front.by front.moment front.keyset × IsMoment version front.moment
unfolding front_at four eight
front_takes version bytes front rest fits e =
    let a = bind_some (octet_at bytes) (λ kind. number_at w32 kind.1 >>= λ by. keyset_at by.1 >>= λ keyset. moment_at version keyset.1 >>= λ moment. Some (front_of kind.0 by.0 moment.0 keyset.0, moment.1)) (front, rest) e in
    let b = bind_some (number_at w32 a.0.1) (λ by. keyset_at by.1 >>= λ keyset. moment_at version keyset.1 >>= λ moment. Some (front_of a.0.0 by.0 moment.0 keyset.0, moment.1)) (front, rest) a.2 in
    let c = bind_some (keyset_at b.0.1) (λ keyset. moment_at version keyset.1 >>= λ moment. Some (front_of a.0.0 b.0.0 moment.0 keyset.0, moment.1)) (front, rest) b.2 in
    let d = bind_some (moment_at version c.0.1) (λ moment. Some (front_of a.0.0 b.0.0 moment.0 c.0.0, moment.1)) (front, rest) c.2 in
    let t0 = octet_takes bytes a.0.0 a.0.1 fits a.1 in
    let t1 = four_takes a.0.1 b.0.0 b.0.1 t0.rest_fits b.1 in
    let t2 = keyset_takes b.0.1 c.0.0 c.0.1 t1.0.rest_fits c.1 in
    let t3 = moment_takes version c.0.1 d.0.0 d.0.1 t2.0.rest_fits d.1 in
    let whole : bytes ≡ front_octets version a.0.0 b.0.0 d.0.0 c.0.0 ++ d.0.1 =
    t0.parts
    ∙ ap (λ (l : List ℕ). a.0.0 ∷ l) (t1.0.parts ∙ ap (λ (l : List ℕ). four b.0.0 ++ l) (t2.0.parts ∙ ap (λ (l : List ℕ). keyset_octets c.0.0 ++ l) t3.0.parts))
    ∙ sym (front_parts version a.0.0 b.0.0 d.0.0 c.0.0 d.0.1) in
    let is : IsFront b.0.0 d.0.0 c.0.0 = record { by_fits = t1.1; moment_fits = t3.1.0; card_fits = t2.1.card_fits; kvn_above = t2.1.kvn_above; kvn_below = t2.1.kvn_below } in
    subst (λ (x : Front × List ℕ). Takes bytes (front_octets version x.0.kind x.0.by x.0.moment x.0.keyset) x.1 × IsFront x.0.by x.0.moment x.0.keyset × IsMoment version x.0.moment)
    (some_is (front_of a.0.0 b.0.0 d.0.0 c.0.0, d.0.1) (front, rest) d.2)
    (record { parts = whole; rest_fits = t3.0.rest_fits }, is, t3.1.1)

-- ---- what a keyset is opened with

mode_cases : (octet : ℕ) (mode : Mode) (two three : Bool) → (octet == 2) ≡ two → (octet == 3) ≡ three
    → (if two then Some Higher else (if three then Some Next else None)) ≡ Some mode → octet ≡ mode_octet mode
mode_cases octet mode true three is_two is_three e = eqb-true octet 2 is_two ∙ ap mode_octet (some_is Higher mode e)
mode_cases octet mode false true is_two is_three e = eqb-true octet 3 is_three ∙ ap mode_octet (some_is Next mode e)
mode_cases octet mode false false is_two is_three e = absurd cc

mode_is : (octet : ℕ) (mode : Mode) → mode_of octet ≡ Some mode → octet ≡ mode_octet mode
mode_is octet mode e = mode_cases octet mode (octet == 2) (octet == 3) refl refl e

flag_cases : (octet : ℕ) (flag zero_octet one : Bool) → (octet == 0) ≡ zero_octet → (octet == 1) ≡ one
    → (if zero_octet then Some false else (if one then Some true else None)) ≡ Some flag → octet ≡ flag_octet flag
flag_cases octet flag true one is_zero is_one e = eqb-true octet 0 is_zero ∙ ap flag_octet (some_is false flag e)
flag_cases octet flag false true is_zero is_one e = eqb-true octet 1 is_one ∙ ap flag_octet (some_is true flag e)
flag_cases octet flag false false is_zero is_one e = absurd cc

flag_is : (octet : ℕ) (flag : Bool) → flag_of octet ≡ Some flag → octet ≡ flag_octet flag
flag_is octet flag e = flag_cases octet flag (octet == 0) (octet == 1) refl refl e

manner_takes : (bytes : List ℕ) (manner : Mode × Bool) (rest : List ℕ) → IsBytes bytes → manner_at bytes ≡ Some (manner, rest) → Takes bytes (manner_octets manner) rest
unfolding manner_at
manner_takes [] manner rest fits e = absurd cc
manner_takes (first ∷ []) manner rest fits e = absurd cc
manner_takes (first ∷ second ∷ bytes) manner rest fits e =
    let a = bind_some (mode_of first) (λ mode. flag_of second >>= λ ciphered. Some ((mode, ciphered), bytes)) (manner, rest) e in
    let b = bind_some (flag_of second) (λ ciphered. Some ((a.0, ciphered), bytes)) (manner, rest) a.2 in
    let is : first ∷ second ∷ bytes ≡ mode_octet a.0 ∷ flag_octet b.0 ∷ bytes = ap (λ (o : ℕ). o ∷ second ∷ bytes) (mode_is first a.0 a.1) ∙ ap (λ (o : ℕ). mode_octet a.0 ∷ o ∷ bytes) (flag_is second b.0 b.1) in
    subst (λ (x : (Mode × Bool) × List ℕ). Takes (first ∷ second ∷ bytes) (manner_octets x.0) x.1) (some_is ((a.0, b.0), bytes) (manner, rest) b.2)
    (record { parts = is; rest_fits = IsBytes-rest second bytes (IsBytes-rest first (second ∷ bytes) fits) })

key_takes : (bytes key rest : List ℕ) → IsBytes bytes → key_at bytes ≡ Some (key, rest) → Takes bytes (key_octets key) rest × IsTrue (is_key_length (length key))
unfolding key_at
key_takes [] key rest fits e = absurd cc
key_takes (size ∷ bytes) key rest fits e =
    let g = only_if_some (is_key_length size && leb size (length bytes)) (take size bytes, drop size bytes) (key, rest) e in
    let tests = both_true (is_key_length size) (leb size (length bytes)) g.0 in
    let within : size ≤ length bytes = leb-true size (length bytes) tests.1 in
    let len : length (take size bytes) ≡ size = omega (arith, within, length-take size bytes) in
    let is : size ∷ bytes ≡ key_octets (take size bytes) ++ drop size bytes = ap (λ (n : ℕ). n ∷ bytes) (sym len) ∙ ap (λ (l : List ℕ). length (take size bytes) ∷ l) (sym (take-append-drop size bytes)) in
    subst (λ (x : List ℕ × List ℕ). Takes (size ∷ bytes) (key_octets x.0) x.1 × IsTrue (is_key_length (length x.0))) g.1
    (record { parts = is; rest_fits = IsBytes-drop size bytes (IsBytes-rest size bytes fits) }, ap is_key_length len ∙ tests.0)

keys_takes : (bytes kic kid : List ℕ) → IsBytes bytes → keys_in bytes ≡ Some (kic, kid)
    → (bytes ≡ key_octets kic ++ key_octets kid) × IsTrue (is_key_length (length kic)) × IsTrue (is_key_length (length kid))
unfolding keys_in
keys_takes bytes kic kid fits e =
    let a = bind_some (key_at bytes) (λ one. key_at one.1 >>= λ two. only_if (eqb (length two.1) 0) (one.0, two.0)) (kic, kid) e in
    let b = bind_some (key_at a.0.1) (λ two. only_if (eqb (length two.1) 0) (a.0.0, two.0)) (kic, kid) a.2 in
    let g = only_if_some (eqb (length b.0.1) 0) (a.0.0, b.0.0) (kic, kid) b.2 in
    let nothing : b.0.1 ≡ [] = nil_from_length b.0.1 (eqb-true _ _ g.0) in
    let t0 = key_takes bytes a.0.0 a.0.1 fits a.1 in
    let t1 = key_takes a.0.1 b.0.0 b.0.1 t0.0.rest_fits b.1 in
    let last : a.0.1 ≡ key_octets b.0.0 = t1.0.parts ∙ ap (λ (r : List ℕ). key_octets b.0.0 ++ r) nothing ∙ append-nil (key_octets b.0.0) in
    let is : bytes ≡ key_octets a.0.0 ++ key_octets b.0.0 = t0.0.parts ∙ ap (λ (r : List ℕ). key_octets a.0.0 ++ r) last in
    subst (λ (x : List ℕ × List ℕ). (bytes ≡ key_octets x.0 ++ key_octets x.1) × IsTrue (is_key_length (length x.0)) × IsTrue (is_key_length (length x.1))) g.1
    (is, t0.1, t1.1)

abbrev facts_with : ℕ → Mode × Bool → List ℕ × List ℕ → KeysetFacts
facts_with base manner keys = record { base = base; mode = manner.0; ciphered = manner.1; kic = keys.0; kid = keys.1 }

pub facts_takes : (bytes : List ℕ) (facts : KeysetFacts) → IsBytes bytes → facts_in bytes ≡ Some facts → (bytes ≡ facts_octets facts) × AreFacts facts
unfolding facts_in five bind_some
facts_takes bytes facts fits e =
    let a = bind_some (counter_at bytes) (λ base. manner_at base.1 >>= λ manner. keys_in manner.1 >>= λ keys. Some (facts_with base.0 manner.0 keys)) facts e in
    let b = bind_some (manner_at a.0.1) (λ manner. keys_in manner.1 >>= λ keys. Some (facts_with a.0.0 manner.0 keys)) facts a.2 in
    let c = bind_some (keys_in b.0.1) (λ keys. Some (facts_with a.0.0 b.0.0 keys)) facts b.2 in
    let t0 = counter_takes bytes a.0.0 a.0.1 fits a.1 in
    let t1 = manner_takes a.0.1 b.0.0 b.0.1 t0.0.rest_fits b.1 in
    let t2 = keys_takes b.0.1 c.0.0 c.0.1 t1.rest_fits c.1 in
    let is : bytes ≡ facts_octets (facts_with a.0.0 b.0.0 c.0) =
    t0.0.parts ∙ ap (λ (r : List ℕ). five a.0.0 ++ r) (t1.parts ∙ ap (λ (r : List ℕ). manner_octets b.0.0 ++ r) t2.0) in
    subst (λ (x : KeysetFacts). (bytes ≡ facts_octets x) × AreFacts x) (some_is (facts_with a.0.0 b.0.0 c.0) facts c.2)
    (is, record { base_fits = t0.1; kic_long = t2.1; kid_long = t2.2 })

-- ---- jobs and applications

abbrev job_of : ℕ → ℕ → JobId
job_of campaign job = record { campaign = campaign; job = job }

pub job_takes : (bytes : List ℕ) (job : JobId) (rest : List ℕ) → IsBytes bytes → job_at bytes ≡ Some (job, rest) → Takes bytes (job_octets job) rest × IsJob job
unfolding job_at
job_takes bytes job rest fits e =
    let a = bind_some (number_at w32 bytes) (λ campaign. number_at w32 campaign.1 >>= λ number. Some (job_of campaign.0 number.0, number.1)) (job, rest) e in
    let b = bind_some (number_at w32 a.0.1) (λ number. Some (job_of a.0.0 number.0, number.1)) (job, rest) a.2 in
    let t0 = four_takes bytes a.0.0 a.0.1 fits a.1 in
    let t1 = four_takes a.0.1 b.0.0 b.0.1 t0.0.rest_fits b.1 in
    let whole = Takes-then bytes (four a.0.0) a.0.1 (four b.0.0) b.0.1 t0.0 t1.0 in
    subst (λ (x : JobId × List ℕ). Takes bytes (job_octets x.0) x.1 × IsJob x.0) (some_is (job_of a.0.0 b.0.0, b.0.1) (job, rest) b.2)
    (whole, record { campaign_fits = t0.1; job_fits = t1.1 })

pub tar_takes : (bytes tar rest : List ℕ) → IsBytes bytes → tar_at bytes ≡ Some (tar, rest) → Takes bytes tar rest × (length tar ≡ 3)
tar_takes bytes tar rest fits e =
    let g = unless_some (ltb (length bytes) 3) (take 3 bytes, drop 3 bytes) (tar, rest) e in
    let long : 3 ≤ length bytes = ltb-false _ _ g.0 in
    let len : length (take 3 bytes) ≡ 3 = omega (arith, long, length-take 3 bytes) in
    subst (λ (x : List ℕ × List ℕ). Takes bytes x.0 x.1 × (length x.0 ≡ 3)) g.1 (front_taken 3 bytes fits, len)

-- the counter, the job and the application fit
pub record ArePurpose (purpose : Purpose) : Type 0 where
  pub counter_fits : purpose.counter < 2 ^ 40
  pub job_fits : IsJob purpose.job
  pub tar_long : length purpose.tar ≡ 3

pub purpose_takes : (bytes : List ℕ) (purpose : Purpose) (rest : List ℕ) → IsBytes bytes → purpose_at bytes ≡ Some (purpose, rest)
    → (bytes ≡ five purpose.counter ++ (job_octets purpose.job ++ (purpose.tar ++ rest))) × IsBytes rest × ArePurpose purpose
unfolding purpose_at five
purpose_takes bytes purpose rest fits e =
    let a = bind_some (counter_at bytes) (λ counter. job_at counter.1 >>= λ job. tar_at job.1 >>= λ tar. Some (purpose_of counter.0 job.0 tar.0, tar.1)) (purpose, rest) e in
    let b = bind_some (job_at a.0.1) (λ job. tar_at job.1 >>= λ tar. Some (purpose_of a.0.0 job.0 tar.0, tar.1)) (purpose, rest) a.2 in
    let c = bind_some (tar_at b.0.1) (λ tar. Some (purpose_of a.0.0 b.0.0 tar.0, tar.1)) (purpose, rest) b.2 in
    let t0 = counter_takes bytes a.0.0 a.0.1 fits a.1 in
    let t1 = job_takes a.0.1 b.0.0 b.0.1 t0.0.rest_fits b.1 in
    let t2 = tar_takes b.0.1 c.0.0 c.0.1 t1.0.rest_fits c.1 in
    subst (λ (x : Purpose × List ℕ). (bytes ≡ five x.0.counter ++ (job_octets x.0.job ++ (x.0.tar ++ x.1))) × IsBytes x.1 × ArePurpose x.0)
    (some_is (purpose_of a.0.0 b.0.0 c.0.0, c.0.1) (purpose, rest) c.2) (
      t0.0.parts ∙ ap (λ (l : List ℕ). five a.0.0 ++ l) (t1.0.parts ∙ ap (λ (l : List ℕ). job_octets b.0.0 ++ l) t2.0.parts),
      t2.0.rest_fits,
      record { counter_fits = t0.1; job_fits = t1.1; tar_long = t2.1 },
    )

short_name_takes : (bytes name rest : List ℕ) → IsBytes bytes → short_name_at bytes ≡ Some (name, rest) → Takes bytes (name_octets Second name) rest × (length name ≤ LONGEST_NAME)
unfolding short_name_at
short_name_takes [] name rest fits e = absurd cc
short_name_takes (size ∷ bytes) name rest fits e =
    let g = only_if_some (leb size LONGEST_NAME && leb size (length bytes)) (take size bytes, drop size bytes) (name, rest) e in
    let tests = both_true (leb size LONGEST_NAME) (leb size (length bytes)) g.0 in
    let within : size ≤ length bytes = leb-true size (length bytes) tests.1 in
    let short : size ≤ LONGEST_NAME = leb-true size LONGEST_NAME tests.0 in
    let len : length (take size bytes) ≡ size = omega (arith, within, length-take size bytes) in
    let is : size ∷ bytes ≡ name_octets Second (take size bytes) ++ drop size bytes = ap (λ (n : ℕ). n ∷ bytes) (sym len) ∙ ap (λ (l : List ℕ). length (take size bytes) ∷ l) (sym (take-append-drop size bytes)) in
    subst (λ (x : List ℕ × List ℕ). Takes (size ∷ bytes) (name_octets Second x.0) x.1 × (length x.0 ≤ LONGEST_NAME)) g.1
    (record { parts = is; rest_fits = IsBytes-drop size bytes (IsBytes-rest size bytes fits) }, omega (arith, len, short))

pub name_takes : (version : Version) (bytes name rest : List ℕ) → IsBytes bytes → name_at version bytes ≡ Some (name, rest)
    → Takes bytes (name_octets version name) rest × (length name ≤ LONGEST_NAME) × IsName version name
name_takes First bytes name rest fits e =
    subst (λ (x : List ℕ × List ℕ). Takes bytes (name_octets First x.0) x.1 × (length x.0 ≤ LONGEST_NAME) × IsName First x.0) (some_is ([], bytes) (name, rest) e)
    (record { parts = refl; rest_fits = fits }, omega arith, refl)
name_takes Second bytes name rest fits e = let t = short_name_takes bytes name rest fits e in (t.0, t.1, tt)
