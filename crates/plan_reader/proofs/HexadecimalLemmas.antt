use Rattle.std.proofs.Common.{◌≡◌, ℕ, ◌/◌, ◌%◌, ◌==◌, true, Some, option_map, Result, Ok, Err, inl, inr, List, length, refl, sym, ◌∙◌, arith}
use Rattle.std.specs.Prelude.{MatchResult}
use Rattle.std.specs.List.{list_all}
use Rattle.std.specs.Result.{result_ok}
use Rattle.std.proofs.lemmas.Bool.{cases_Bool, cases_eq, eqb-false, ne_eqb}
use Rattle.std.proofs.lemmas.Bool.Decides.{nat_tests}
use Rattle.std.proofs.lemmas.List.Sums.{list_all-from_AllPass}
use Rattle.hex.specs.Hex.{decode_of, decode_sized, is_hex_digit}
use Rattle.hex.proofs.HexLemmas.{decode_of-even, decode_of-ok}
use Rattle.hex.proofs.Pairs.{decode_sized-pairs}
use Rattle.plan_reader.specs.Hexadecimal.{octets_of, AreDigitsOf}

-- octets that are filled as a reading says, and left to themselves where it is refused
pub filled : {E : Type 0} (read : Result (List ℕ) E) (result : Result (Unit {0}) E) (octets : List ℕ)
    → MatchResult read (λ bytes. (result ≡ Ok tt) × (octets ≡ bytes)) (λ e. result ≡ Err e)
    → result_ok read ≡ option_map (λ _. octets) (result_ok result)
filled (Ok bytes) result octets h = rw (h.0, h.1) refl
filled (Err e) result octets h = rw h refl

-- digits are read into as many octets as they write
pub octets_of-spelled : (octets digits : List ℕ) → AreDigitsOf octets digits → octets_of (length octets) digits ≡ Some octets
unfolding octets_of
octets_of-spelled octets digits are =
    let ok = decode_of-ok digits octets are in
    let half : length digits / 2 ≡ length octets = omega (arith, ok.2) in
    rw (decode_sized-pairs digits (length octets) ok.0 half, ← decode_of-even digits ok.0, are) refl

-- digits are read into half as many octets as they are
pub octets_of-half : (digits : List ℕ) → octets_of (length digits / 2) digits ≡ result_ok (decode_of digits)
unfolding octets_of
octets_of-half digits =
    let same : (length digits / 2 == length digits / 2) ≡ true = grind (arith, nat_tests) in
    elim (cases_Bool (length digits % 2 == 1)) [ inl odd ↦ rw odd refl | inr even ↦ rw (even, same) refl ]

-- a result whose value is there
result_ok-some : {A E : Type 0} (result : Result A E) (value : A) → result_ok result ≡ Some value → result ≡ Ok value
result_ok-some (Ok x) value h = cc h
result_ok-some (Err e) value h = cc h

-- octets that are read are what the digits write
pub octets_of-reads : (len : ℕ) (octets digits : List ℕ) → octets_of len digits ≡ Some octets
    → AreDigitsOf octets digits × (length octets ≡ len)
unfolding octets_of
octets_of-reads len octets digits h =
    let read = result_ok-some (decode_sized digits len) octets h in
    elim (cases_Bool (length digits % 2 == 1)) [
      | inl odd ↦ cc (rw odd at read)
      | inr even ↦
          let evenly : length digits % 2 ≡ 0 = omega (arith, eqb-false (length digits % 2) 1 even) in
          elim (cases_eq (length digits / 2) len) [
            | inl fits ↦
                let are = decode_of-even digits evenly ∙ sym (decode_sized-pairs digits len evenly fits) ∙ read in
                let ok = decode_of-ok digits octets are in
                (are, omega (arith, ok.2))
            | inr other ↦ cc (rw (even, ne_eqb (length digits / 2) len other) at read)
          ]
    ]

-- digits that are read are hexadecimal digits
pub AreDigitsOf-digits : (octets digits : List ℕ) → AreDigitsOf octets digits → list_all is_hex_digit digits ≡ true
AreDigitsOf-digits octets digits are = list_all-from_AllPass is_hex_digit digits (decode_of-ok digits octets are).1
