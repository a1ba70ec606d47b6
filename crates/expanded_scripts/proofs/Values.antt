-- A length is read as it is spelled, and so the value behind it.
use Rattle.std.proofs.Common.{◌≡◌, ℕ, ◌+◌, ◌*◌, ◌<◌, ◌≤◌, ◌==◌, nat_lt, Bool, true, false, cond, Option, Some, None, List, [], ◌∷◌, ◌++◌, length, take, drop, refl, sym, subst, ap, ◌∙◌, append_assoc, arith, length-take}
use Rattle.std.proofs.lemmas.Bool.Decides.{nat_tests}
use Rattle.std.proofs.lemmas.List.{take-append-drop, append_cancel_left}
use Rattle.std.proofs.Math.Seq.{take-append_seam}
use Rattle.expanded_scripts.specs.Decoded.{length_in, one_octet_in, two_octets_in}
use Rattle.expanded_scripts.specs.Template.{SpellsLength, HasValue}

-- a length that stands at the front
abbrev pub Spelled : List ℕ → ℕ → List ℕ → Type 0
Spelled octets number behind = (len : List ℕ) × SpellsLength len number × (octets ≡ len ++ behind)

one-spelled : (first : ℕ) (rest : List ℕ) (number : ℕ) (behind : List ℕ) → first ≡ 0x81 → one_octet_in rest ≡ Some (number, behind) → Spelled (first ∷ rest) number behind
one-spelled first [] number behind is e = absurd cc
one-spelled first (x ∷ xs) number behind is e =
    let q : ◌≡◌ {A = ℕ × List ℕ} (x, xs) (number, behind) = cc in
    let n : x ≡ number = ap (λ (p : ℕ × List ℕ). p.0) q in
    let b : xs ≡ behind = ap (λ (p : ℕ × List ℕ). p.1) q in
    (first ∷ x ∷ [], (is, sym n), ap (λ (k : List ℕ). first ∷ x ∷ k) b)

two-spelled : (first : ℕ) (rest : List ℕ) (number : ℕ) (behind : List ℕ) → first ≡ 0x82 → two_octets_in rest ≡ Some (number, behind) → Spelled (first ∷ rest) number behind
two-spelled first [] number behind is e = absurd cc
two-spelled first (_ ∷ []) number behind is e = absurd cc
two-spelled first (x ∷ y ∷ xs) number behind is e =
    let q : ◌≡◌ {A = ℕ × List ℕ} (x * 256 + y, xs) (number, behind) = cc in
    let n : x * 256 + y ≡ number = ap (λ (p : ℕ × List ℕ). p.0) q in
    let b : xs ≡ behind = ap (λ (p : ℕ × List ℕ). p.1) q in
    (first ∷ x ∷ y ∷ [], (is, sym n), ap (λ (k : List ℕ). first ∷ x ∷ y ∷ k) b)

longer-spelled : (first : ℕ) (rest : List ℕ) (number : ℕ) (behind : List ℕ) → cond (first == 0x81) (one_octet_in rest) (cond (first == 0x82) (two_octets_in rest) None) ≡ Some (number, behind) → Spelled (first ∷ rest) number behind
longer-spelled first rest number behind e =
    elim (first == 0x81) as (λ t. (first == 0x81) ≡ t → cond t (one_octet_in rest) (cond (first == 0x82) (two_octets_in rest) None) ≡ Some (number, behind) → Spelled (first ∷ rest) number behind) [
      | true ↦ λ t f. one-spelled first rest number behind (grind (arith, nat_tests, t)) f
      | false ↦ λ t f.
          elim (first == 0x82) as (λ u. (first == 0x82) ≡ u → cond u (two_octets_in rest) None ≡ Some (number, behind) → Spelled (first ∷ rest) number behind) [
            | true ↦ λ u g. two-spelled first rest number behind (grind (arith, nat_tests, u)) g
            | false ↦ λ u g. absurd cc
          ] refl f
    ] refl e

pub length-spelled : (octets : List ℕ) (number : ℕ) (behind : List ℕ) → length_in octets ≡ Some (number, behind) → Spelled octets number behind
length-spelled [] number behind e = absurd cc
length-spelled (first ∷ rest) number behind e =
    elim (nat_lt first 0x80) as (λ t. nat_lt first 0x80 ≡ t → cond t (Some (first, rest)) (cond (first == 0x81) (one_octet_in rest) (cond (first == 0x82) (two_octets_in rest) None)) ≡ Some (number, behind) → Spelled (first ∷ rest) number behind) [
      | true ↦ λ t f.
          let q : ◌≡◌ {A = ℕ × List ℕ} (first, rest) (number, behind) = cc in
          let n : first ≡ number = ap (λ (p : ℕ × List ℕ). p.0) q in
          let b : rest ≡ behind = ap (λ (p : ℕ × List ℕ). p.1) q in
          (first ∷ [], (grind (arith, nat_tests, t), sym n), ap (λ (k : List ℕ). first ∷ k) b)
      | false ↦ λ t f. longer-spelled first rest number behind f
    ] refl e

pub spelled-length : (len : List ℕ) (number : ℕ) (behind : List ℕ) → SpellsLength len number → length_in (len ++ behind) ≡ Some (number, behind)
spelled-length [] number behind s = absurd s
spelled-length (a ∷ []) number behind s =
    let t : nat_lt a 0x80 ≡ true = grind (arith, nat_tests, s.0) in
    let P : Bool → Type 0 = λ b. cond b (Some (a, behind)) (cond (a == 0x81) (one_octet_in behind) (cond (a == 0x82) (two_octets_in behind) None)) ≡ Some (number, behind) in
    subst P (sym t) (ap (λ (k : ℕ). Some (k, behind)) (sym s.1))
spelled-length (a ∷ b ∷ []) number behind s =
    let P : ℕ → Type 0 = λ k. length_in (k ∷ b ∷ behind) ≡ Some (number, behind) in
    subst P (sym s.0) (ap (λ (k : ℕ). Some (k, behind)) (sym s.1))
spelled-length (a ∷ b ∷ c ∷ []) number behind s =
    let P : ℕ → Type 0 = λ k. length_in (k ∷ b ∷ c ∷ behind) ≡ Some (number, behind) in
    subst P (sym s.0) (ap (λ (k : ℕ). Some (k, behind)) (sym s.1))
spelled-length (a ∷ b ∷ c ∷ d ∷ e) number behind s = absurd s

pub value-read : (octets value behind : List ℕ) → HasValue octets value behind → length_in octets ≡ Some (length value, value ++ behind)
value-read octets value behind h =
    let regrouped : octets ≡ h.len ++ (value ++ behind) = h.spelled ∙ append_assoc h.len value behind in
    let P : List ℕ → Type 0 = λ o. length_in o ≡ Some (length value, value ++ behind) in
    subst P (sym regrouped) (spelled-length h.len (length value) (value ++ behind) h.spells)

-- what stands behind a length and its whole value is found
pub value-found : (octets : List ℕ) (number : ℕ) (behind front back : List ℕ) → length_in octets ≡ Some (number, behind) → number ≤ length behind → front ≡ take number behind → back ≡ drop number behind → HasValue octets front back
value-found octets number behind front back e within f b =
    let s = length-spelled octets number behind e in
    let cut = take-append-drop number behind in
    let whole : behind ≡ front ++ back = cc in
    let size : number ≡ length front = grind (arith, length-take, f, within) in
    let P : ℕ → Type 0 = λ k. SpellsLength s.0 k in
    let Q : List ℕ → Type 0 = λ k. octets ≡ s.0 ++ k in
    let spelled : octets ≡ s.0 ++ (front ++ back) = subst Q whole s.2 in record {
      len = s.0;
      spells = subst P size s.1;
      spelled = spelled ∙ sym (append_assoc s.0 front back);
    }

pub one-value : (octets value behind other beyond : List ℕ) → HasValue octets value behind → HasValue octets other beyond → (value ≡ other) × (behind ≡ beyond)
one-value octets value behind other beyond h k =
    let e : ◌≡◌ {A = Option (ℕ × List ℕ)} (Some (length value, value ++ behind)) (Some (length other, other ++ beyond)) = sym (value-read octets value behind h) ∙ value-read octets other beyond k in
    let q : ◌≡◌ {A = ℕ × List ℕ} (length value, value ++ behind) (length other, other ++ beyond) = cc in
    let n : length value ≡ length other = ap (λ (p : ℕ × List ℕ). p.0) q in
    let b : value ++ behind ≡ other ++ beyond = ap (λ (p : ℕ × List ℕ). p.1) q in
    let same : value ≡ other = sym (take-append_seam value behind) ∙ (ap (λ (p : ℕ × List ℕ). take p.0 p.1) q ∙ take-append_seam other beyond) in
    let P : List ℕ → Type 0 = λ v. v ++ behind ≡ other ++ beyond in
    (same, append_cancel_left other behind beyond (subst P same b))

-- a value behind which something stands isn't one that ends where the octets end
pub not-filled : (octets value behind : List ℕ) → HasValue octets value behind → 0 < length behind → (other : List ℕ) → HasValue octets other [] → ⊥
not-filled octets value behind h some other k =
    let same : behind ≡ [] = (one-value octets value behind other [] h k).1 in
    let P : List ℕ → Type 0 = λ b. 0 < length b in
    omega (arith, subst P same some)
