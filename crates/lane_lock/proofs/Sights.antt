-- Lists that begin others, sights that are no earlier than others, and the entries under one number.
use Rattle.std.proofs.Common.{◌≡◌, ◌≢◌, ℕ, ◌==◌, cond, List, [], ◌∷◌, ◌++◌, length, drop, refl, sym, ap, ◌∙◌, append_assoc, ne_eqb, eq-eqb}
use Rattle.std.proofs.Math.Seq.{drop-append_seam}
use Rattle.std.proofs.lemmas.List.{append-nil}
use Rattle.std.proofs.lemmas.List.Elements.{filter-append}
use Rattle.lane_lock.specs.declared.views.Sight.{Sight}
use Rattle.lane_lock.specs.Numbers.{Each, behind, Begins}
use Rattle.lane_lock.specs.Meaning.{Meaning, own, IsNoEarlier}

module _ {A : Type 0} where
  pub behind_from : (xs ys zs : List A) → ys ≡ xs ++ zs → behind xs ys ≡ zs
  behind_from xs ys zs e = ap (drop (length xs)) e ∙ drop-append_seam xs zs

  pub begins_from : (xs ys zs : List A) → ys ≡ xs ++ zs → Begins xs ys
  begins_from xs ys zs e = e ∙ ap (λ l. xs ++ l) (sym (behind_from xs ys zs e))

  pub begins_self : (xs : List A) → Begins xs xs
  begins_self xs = begins_from xs xs [] (sym (append-nil xs))

  chained : (xs ys zs : List A) → Begins xs ys → Begins ys zs → zs ≡ xs ++ (behind xs ys ++ behind ys zs)
  chained xs ys zs h k = k ∙ (ap (λ l. l ++ behind ys zs) h ∙ append_assoc xs (behind xs ys) (behind ys zs))

  pub begins_chain : (xs ys zs : List A) → Begins xs ys → Begins ys zs → Begins xs zs
  begins_chain xs ys zs h k = begins_from xs zs (behind xs ys ++ behind ys zs) (chained xs ys zs h k)

  pub behind_chain : (xs ys zs : List A) → Begins xs ys → Begins ys zs → behind xs zs ≡ behind xs ys ++ behind ys zs
  behind_chain xs ys zs h k = behind_from xs zs (behind xs ys ++ behind ys zs) (chained xs ys zs h k)

module _ {E X : Type 0} where
  pub no_earlier_self : (a : Sight E X) → IsNoEarlier a a
  no_earlier_self a = (begins_self a.entries, λ x e. e)

  pub no_earlier_chain : (a b c : Sight E X) → IsNoEarlier a b → IsNoEarlier b c → IsNoEarlier a c
  no_earlier_chain a b c h k = (begins_chain a.entries b.entries c.entries h.0 k.0, λ x e. k.1 x (h.1 x e))

module _ {L O E X : Type 0} (m : Meaning L O E X) where
  pub own_append : (n : ℕ) (es fs : List E) → own m n (es ++ fs) ≡ own m n es ++ own m n fs
  own_append n es fs = filter-append (λ e. m.number_of e == n) es fs

  pub own_none : (k n : ℕ) (es : List E) → n ≢ k → Each (λ e. m.number_of e ≡ k) es → own m n es ≡ []
  own_none k n [] ne h = refl
  own_none k n (e ∷ es) ne h =
      ap (λ b. cond b (e ∷ own m n es) (own m n es)) (ne_eqb (m.number_of e) n (λ q. ne (sym q ∙ h.0))) ∙ own_none k n es ne h.1

  pub own_all : (k : ℕ) (es : List E) → Each (λ e. m.number_of e ≡ k) es → own m k es ≡ es
  own_all k [] h = refl
  own_all k (e ∷ es) h = ap (λ b. cond b (e ∷ own m k es) (own m k es)) (eq-eqb (m.number_of e) k h.0) ∙ ap (λ l. e ∷ l) (own_all k es h.1)
