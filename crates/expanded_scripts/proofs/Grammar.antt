-- Children are read one behind the other.
use Rattle.std.proofs.Common.{◌≡◌, ℕ, ◌==◌, ◌||◌, true, false, cond, List, [], ◌∷◌, ◌++◌, length, refl, sym, subst, arith}
use Rattle.apdu_codec.specs.Apdu.{data_len_of}
use Rattle.expanded_scripts.specs.Template.{IsWhole, IsCommand, IsChild, AreChildren, IsOuter, IsTemplate, AreWhole}
use Rattle.expanded_scripts.specs.Template.IsCommand.{header_alone, whole, with_le}

zero-data : (ins : ℕ) → ◌≡◌ {A = ℕ} 0 (data_len_of ins 0)
zero-data ins = elim (ins == 0xB0 || ins == 0xB2) as (λ t. ◌≡◌ {A = ℕ} 0 (cond t 0 0)) [ true ↦ refl | false ↦ refl ]

header-whole : (value : List ℕ) → length value ≡ 4 → IsWhole (value ++ 0x00 ∷ [])
header-whole [] e = absurd (omega (arith, e))
header-whole (a ∷ []) e = absurd (omega (arith, e))
header-whole (a ∷ b ∷ []) e = absurd (omega (arith, e))
header-whole (a ∷ b ∷ c ∷ []) e = absurd (omega (arith, e))
header-whole (a ∷ b ∷ c ∷ d ∷ []) e = zero-data b
header-whole (a ∷ b ∷ c ∷ d ∷ f ∷ g) e = absurd (omega (arith, e))

-- a plain form is a whole command
pub plain-whole : (value plain : List ℕ) → IsCommand value plain → IsWhole plain
plain-whole value plain (header_alone four e) =
    let P : List ℕ → Type 0 = IsWhole in
    subst P (sym e) (header-whole value four)
plain-whole value plain (whole w e) =
    let P : List ℕ → Type 0 = IsWhole in
    subst P (sym e) w
plain-whole value plain (with_le le w some e) = w

pub children-more : (octets : List ℕ) (plains : List (List ℕ)) (left plain behind : List ℕ) → AreChildren octets plains left → IsChild left plain behind → AreChildren octets (plains ++ plain ∷ []) behind
children-more octets [] left plain behind e c =
    let P : List ℕ → Type 0 = λ o. IsChild o plain behind in
    (behind, subst P (sym e) c, refl)
children-more octets (p ∷ ps) left plain behind e c = (e.0, e.1, children-more e.0 ps left plain behind e.2 c)

pub whole-more : (plains : List (List ℕ)) (plain : List ℕ) → AreWhole plains → IsWhole plain → AreWhole (plains ++ plain ∷ [])
whole-more [] plain all w = (w, tt)
whole-more (p ∷ ps) plain all w = (all.0, whole-more ps plain all.1 w)

-- the template is whole, and these are its first children; this is left
pub record Reads (octets : List ℕ) (commands : List (List ℕ)) (left : List ℕ) : Type 0 where
  pub children : List ℕ
  pub outer : IsOuter octets children
  pub before : AreChildren children commands left

pub reads-more : (octets : List ℕ) (commands : List (List ℕ)) (left plain behind : List ℕ) → Reads octets commands left → IsChild left plain behind → Reads octets (commands ++ plain ∷ []) behind
reads-more octets commands left plain behind r c = record {
  children = r.children;
  outer = r.outer;
  before = children-more r.children commands left plain behind r.before c;
}

pub reads-end : (octets : List ℕ) (commands : List (List ℕ)) (left : List ℕ) → Reads octets commands left → left ≡ [] → IsTemplate octets commands
reads-end octets commands left r e =
    let P : List ℕ → Type 0 = λ l. AreChildren r.children commands l in record {
      children = r.children;
      outer = r.outer;
      filled = subst P e r.before;
    }
