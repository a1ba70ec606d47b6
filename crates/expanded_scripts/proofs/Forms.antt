-- A command is read as it is spelled.
use Rattle.std.proofs.Common.{◌≡◌, ℕ, zero, suc, ◌+◌, ◌<◌, ◌≤◌, ◌==◌, ◌&&◌, ◌||◌, nat_lt, get_or, Bool, true, false, cond, Option, Some, None, List, [], ◌∷◌, ◌++◌, length, take, drop, refl, sym, subst, ap, ◌∙◌, arith, length-append, length-take, length-drop}
use Rattle.std.proofs.lemmas.Bool.Decides.{nat_tests}
use Rattle.std.proofs.lemmas.List.{take-append-drop, take_all, append-nil}
use Rattle.std.proofs.Math.Seq.{take-append_seam}
use Rattle.apdu_codec.specs.Apdu.{data_len_of}
use Rattle.expanded_scripts.specs.Decoded.{whole_len_of, plain_len_from, plain_len_of}
use Rattle.expanded_scripts.specs.Template.{IsWhole, IsCommand, IsNoCommand, AreWhole}
use Rattle.expanded_scripts.specs.Template.IsCommand.{header_alone, whole, with_le}

pub whole-long : (value : List ℕ) → IsWhole value → 5 ≤ length value
whole-long [] w = absurd w
whole-long (a ∷ []) w = absurd w
whole-long (a ∷ b ∷ []) w = absurd w
whole-long (a ∷ b ∷ c ∷ []) w = absurd w
whole-long (a ∷ b ∷ c ∷ d ∷ []) w = absurd w
whole-long (a ∷ b ∷ c ∷ d ∷ e ∷ octets) w = omega arith

-- the whole command at the front of octets
pub whole-read : (plain behind : List ℕ) → IsWhole plain → whole_len_of (plain ++ behind) ≡ Some (length plain)
whole-read [] behind w = absurd w
whole-read (a ∷ []) behind w = absurd w
whole-read (a ∷ b ∷ []) behind w = absurd w
whole-read (a ∷ b ∷ c ∷ []) behind w = absurd w
whole-read (a ∷ b ∷ c ∷ d ∷ []) behind w = absurd w
whole-read (cla ∷ ins ∷ p1 ∷ p2 ∷ p3 ∷ octets) behind w =
    let fits : nat_lt (length (octets ++ behind)) (data_len_of ins p3) ≡ false = grind (arith, nat_tests, length-append octets behind, w) in
    let size : data_len_of ins p3 + 5 ≡ length (cla ∷ ins ∷ p1 ∷ p2 ∷ p3 ∷ octets) = omega (arith, w) in
    let P : Bool → Type 0 = λ t. cond t None (Some (data_len_of ins p3 + 5)) ≡ Some (length (cla ∷ ins ∷ p1 ∷ p2 ∷ p3 ∷ octets)) in
    subst P (sym fits) (ap (λ (k : ℕ). Some k) size)

pub record IsFront (value : List ℕ) (len : ℕ) : Type 0 where
  pub within : len ≤ length value
  pub is_whole : IsWhole (take len value)

front-taken : (cla ins p1 p2 p3 len : ℕ) (octets : List ℕ) → data_len_of ins p3 ≤ length octets → data_len_of ins p3 + 5 ≡ len → IsFront (cla ∷ ins ∷ p1 ∷ p2 ∷ p3 ∷ octets) len
front-taken cla ins p1 p2 p3 len octets fits e =
    let size : suc (suc (suc (suc (suc (data_len_of ins p3))))) ≡ len = omega (arith, e) in
    let P : ℕ → Type 0 = λ k. IsFront (cla ∷ ins ∷ p1 ∷ p2 ∷ p3 ∷ octets) k in
    let taken : length (take (data_len_of ins p3) octets) ≡ data_len_of ins p3 = grind (arith, length-take, fits) in
    subst P size (record { within = omega (arith, fits); is_whole = taken })

pub front-found : (value : List ℕ) (len : ℕ) → whole_len_of value ≡ Some len → IsFront value len
front-found [] len e = absurd cc
front-found (a ∷ []) len e = absurd cc
front-found (a ∷ b ∷ []) len e = absurd cc
front-found (a ∷ b ∷ c ∷ []) len e = absurd cc
front-found (a ∷ b ∷ c ∷ d ∷ []) len e = absurd cc
front-found (cla ∷ ins ∷ p1 ∷ p2 ∷ p3 ∷ octets) len e =
    elim (nat_lt (length octets) (data_len_of ins p3)) as (λ t. nat_lt (length octets) (data_len_of ins p3) ≡ t → cond t None (Some (data_len_of ins p3 + 5)) ≡ Some len → IsFront (cla ∷ ins ∷ p1 ∷ p2 ∷ p3 ∷ octets) len) [
      | true ↦ λ t f. absurd cc
      | false ↦ λ t f. front-taken cla ins p1 p2 p3 len octets (grind (arith, nat_tests, t)) cc
    ] refl e

one-left : (octets : List ℕ) → length octets ≡ 1 → (le : ℕ) × (octets ≡ le ∷ [])
one-left [] e = absurd (omega (arith, e))
one-left (le ∷ []) e = (le, refl)
one-left (a ∷ b ∷ c) e = absurd (omega (arith, e))

taken-all : (len : ℕ) (value : List ℕ) → len ≡ length value → take len value ≡ value
taken-all len value all = take_all len value (omega (arith, all))

-- the whole command at the front is all, or has data and all but the last octet
alone : (value : List ℕ) (len : ℕ) → IsFront value len → len ≡ length value → IsCommand value (take len value)
alone value len front all =
    let whole-taken : take len value ≡ value = taken-all len value all in
    let P : List ℕ → Type 0 = IsWhole in
    whole (subst P whole-taken front.is_whole) whole-taken

with-one : (value : List ℕ) (len : ℕ) → IsFront value len → 5 < len → len + 1 ≡ length value → IsCommand value (take len value)
with-one value len front some all =
    let left : length (drop len value) ≡ 1 = grind (arith, length-drop len value, all) in
    let last = one-left (drop len value) left in
    let size : length (take len value) ≡ len = grind (arith, length-take len value, front.within) in
    let P : List ℕ → Type 0 = λ k. value ≡ take len value ++ k in
    with_le last.0 front.is_whole (omega (arith, size, some)) (subst P last.1 (sym (take-append-drop len value)))

pub plain-found : (value : List ℕ) (len : ℕ) → plain_len_of value ≡ Some len → IsCommand value (take len value)
plain-found value len e =
    elim (whole_len_of value) as (λ w. whole_len_of value ≡ w → plain_len_from (length value) w ≡ Some len → IsCommand value (take len value)) [
      | None ↦ λ w f. absurd cc
      | Some n ↦ λ w f.
          elim (n == length value) as (λ t. (n == length value) ≡ t → cond t (Some n) (cond (nat_lt 5 n && (n + 1 == length value)) (Some n) None) ≡ Some len → IsCommand value (take len value)) [
            | true ↦ λ t g.
                let same : n ≡ len = cc in
                let P : ℕ → Type 0 = λ k. IsCommand value (take k value) in
                subst P same (alone value n (front-found value n w) (grind (arith, nat_tests, t)))
            | false ↦ λ t g.
                elim (nat_lt 5 n && (n + 1 == length value)) as (λ u. (nat_lt 5 n && (n + 1 == length value)) ≡ u → cond u (Some n) None ≡ Some len → IsCommand value (take len value)) [
                  | true ↦ λ u h.
                      let same : n ≡ len = cc in
                      let P : ℕ → Type 0 = λ k. IsCommand value (take k value) in
                      subst P same (with-one value n (front-found value n w) (grind (arith, nat_tests, u)) (grind (arith, nat_tests, u)))
                  | false ↦ λ u h. absurd cc
                ] refl g
          ] refl f
    ] refl e

plain-of-whole : (value : List ℕ) → IsWhole value → plain_len_of value ≡ Some (length value)
plain-of-whole value w =
    let P : List ℕ → Type 0 = λ v. whole_len_of v ≡ Some (length value) in
    let read : whole_len_of value ≡ Some (length value) = subst P (append-nil value) (whole-read value [] w) in
    let same : (length value == length value) ≡ true = grind (arith, nat_tests) in
    let Q : Option ℕ → Type 0 = λ o. plain_len_from (length value) o ≡ Some (length value) in
    let R : Bool → Type 0 = λ t. cond t (Some (length value)) (cond (nat_lt 5 (length value) && (length value + 1 == length value)) (Some (length value)) None) ≡ Some (length value) in
    subst Q (sym read) (subst R (sym same) refl)

plain-of-le : (plain : List ℕ) (le : ℕ) → IsWhole plain → 5 < length plain → plain_len_of (plain ++ le ∷ []) ≡ Some (length plain)
plain-of-le plain le w some =
    let all : length (plain ++ le ∷ []) ≡ length plain + 1 = length-append plain (le ∷ []) in
    let read : whole_len_of (plain ++ le ∷ []) ≡ Some (length plain) = whole-read plain (le ∷ []) w in
    let other : (length plain == length plain + 1) ≡ false = grind (arith, nat_tests) in
    let same : (nat_lt 5 (length plain) && (length plain + 1 == length plain + 1)) ≡ true = grind (arith, nat_tests, some) in
    let P : ℕ → Type 0 = λ k. plain_len_from k (Some (length plain)) ≡ Some (length plain) in
    let Q : Option ℕ → Type 0 = λ o. plain_len_from (length (plain ++ le ∷ [])) o ≡ Some (length plain) in
    let R : Bool → Type 0 = λ t. cond t (Some (length plain)) (cond (nat_lt 5 (length plain) && (length plain + 1 == length plain + 1)) (Some (length plain)) None) ≡ Some (length plain) in
    let S : Bool → Type 0 = λ t. cond t (Some (length plain)) None ≡ Some (length plain) in
    let tested : plain_len_from (length plain + 1) (Some (length plain)) ≡ Some (length plain) = subst R (sym other) (subst S (sym same) refl) in
    subst Q (sym read) (subst P (sym all) tested)

pub none-found : (value : List ℕ) → (length value ≡ 4 → ⊥) → plain_len_of value ≡ None → IsNoCommand value
none-found value other none plain (header_alone four e) = other four
none-found value other none plain (whole w e) =
    let read = plain-of-whole value w in
    absurd cc
none-found value other none plain (with_le le w some e) =
    let read = plain-of-le plain le w some in
    let P : List ℕ → Type 0 = λ v. plain_len_of v ≡ Some (length plain) in
    let again : plain_len_of value ≡ Some (length plain) = subst P (sym e) read in
    absurd cc

le-long : (value plain : List ℕ) (le : ℕ) → value ≡ plain ++ le ∷ [] → length value ≡ length plain + 1
le-long value plain le e = ap (λ (k : List ℕ). length k) e ∙ length-append plain (le ∷ [])

le-read : (value plain : List ℕ) (le : ℕ) → IsWhole plain → 5 < length plain → value ≡ plain ++ le ∷ [] → plain_len_of value ≡ Some (length plain)
le-read value plain le w some e =
    let P : List ℕ → Type 0 = λ v. plain_len_of v ≡ Some (length plain) in
    subst P (sym e) (plain-of-le plain le w some)

pub one-command : (value plain other : List ℕ) → IsCommand value plain → IsCommand value other → plain ≡ other
one-command value plain other (header_alone f e) (header_alone g d) = e ∙ sym d
one-command value plain other (header_alone f e) (whole w d) = absurd (omega (arith, f, whole-long value w))
one-command value plain other (header_alone f e) (with_le le w some d) = absurd (omega (arith, f, some, le-long value other le d))
one-command value plain other (whole w e) (header_alone g d) = absurd (omega (arith, g, whole-long value w))
one-command value plain other (whole w e) (whole v d) = e ∙ sym d
one-command value plain other (whole w e) (with_le le v some d) =
    let a = plain-of-whole value w in
    let b = le-read value other le v some d in
    let same : length value ≡ length other = cc in
    absurd (omega (arith, same, le-long value other le d))
one-command value plain other (with_le le w some e) (header_alone g d) = absurd (omega (arith, g, some, le-long value plain le e))
one-command value plain other (with_le le w some e) (whole v d) =
    let a = plain-of-whole value v in
    let b = le-read value plain le w some e in
    let same : length value ≡ length plain = cc in
    absurd (omega (arith, same, le-long value plain le e))
one-command value plain other (with_le le w some e) (with_le la v more d) =
    let a = le-long value plain le e in
    let b = le-long value other la d in
    let same : length plain ≡ length other = omega (arith, a, b) in
    let P : List ℕ → Type 0 = λ v. take (length plain) v ≡ plain in
    let Q : ℕ → Type 0 = λ k. take k value ≡ other in
    let R : List ℕ → Type 0 = λ v. take (length other) v ≡ other in
    let first : take (length plain) value ≡ plain = subst P (sym e) (take-append_seam plain (le ∷ [])) in
    let second : take (length other) value ≡ other = subst R (sym d) (take-append_seam other (la ∷ [])) in
    sym first ∙ subst Q (sym same) second

data-few : (ins p3 : ℕ) → data_len_of ins p3 ≤ p3
data-few ins p3 = elim (ins == 0xB0 || ins == 0xB2) as (λ t. cond t 0 p3 ≤ p3) [ true ↦ omega arith | false ↦ omega arith ]

-- a whole command of octets has at most 260
pub whole-short : (value : List ℕ) → IsWhole value → get_or value 4 0 < 256 → length value < 261
whole-short [] w byte = absurd w
whole-short (a ∷ []) w byte = absurd w
whole-short (a ∷ b ∷ []) w byte = absurd w
whole-short (a ∷ b ∷ c ∷ []) w byte = absurd w
whole-short (a ∷ b ∷ c ∷ d ∷ []) w byte = absurd w
whole-short (cla ∷ ins ∷ p1 ∷ p2 ∷ p3 ∷ octets) w byte =
    let few = data-few ins p3 in
    omega (arith, w, few, byte)

pub whole-at : (plains : List (List ℕ)) (i : ℕ) (other : List ℕ) → AreWhole plains → i < length plains → IsWhole (get_or plains i other)
whole-at [] i other all within = absurd (omega (arith, within))
whole-at (p ∷ ps) zero other all within = all.0
whole-at (p ∷ ps) (suc i) other all within = whole-at ps i other all.1 (omega (arith, within))
