-- The one slot that a seat carries.
use Rattle.std.proofs.Common.{◌≡◌, ℕ, List, [], ◌∷◌, Option, Some, None, sym, ap, ◌∙◌}
use Rattle.atomic_table.specs.Table.{Me, rest}

module _ {L : Type 0} where
  abbrev pub first_slot : List (ℕ × Option L) → Option L
  first_slot [] = None
  first_slot (x ∷ xs) = x.1

  pub same_slot : (a b : Option L) (c r s : List (ℕ × Option L)) → c ≡ (0, a) ∷ r → c ≡ (0, b) ∷ s → a ≡ b
  same_slot a b c r s e f = ap first_slot (sym e ∙ f)

  pub not_empty : (a : L) → Some a ≡ None → ⊥
  not_empty a e = cc

  pub same_lane : (a b : L) → Some a ≡ Some b → a ≡ b
  same_lane a b e = cc

module _ {L V : Type 0} where
  -- the lane that was found in the slot is the one that was taken out
  pub took_out : (f : L → V) (x y : Me (Option L) V) (lane result : L) → x ≡ (f lane, (0, Some lane) ∷ []) → lane ≡ result → y ≡ (x.0, (0, None) ∷ rest x.1)
      → y ≡ (f result, (0, None) ∷ [])
  took_out f x y lane result h same e = e ∙ (ap (λ (z : Me (Option L) V). (z.0, (0, None) ∷ rest z.1)) h ∙ ap (λ l. (f l, (0, None) ∷ [])) same)
