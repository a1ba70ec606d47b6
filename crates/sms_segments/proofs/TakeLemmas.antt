-- What is kept after a piece is taken.
use Rattle.std.proofs.Common.{◌≡◌, ℕ, true, false, List, refl, sym, ap, ◌∙◌, inl, inr}
use Rattle.std.proofs.lemmas.Bool.{cases_Bool}
use Rattle.sms_segments.specs.declared.concatenations.Concatenation.{Concatenation}
use Rattle.sms_segments.specs.Assembled.{is_same, is_whole, with_piece}
use Rattle.sms_segments.specs.Kept.{Pile, kept_after, kept_in, kept_with, kept_without}
use Rattle.sms_segments.proofs.KeptLemmas.{is_same-true}

-- where more is awaited the piece is kept
pub keeps-part : (old new : Pile) (k : Concatenation) (place : ℕ) (octets : List ℕ)
    → is_whole k.total (with_piece place octets (kept_in old k)) ≡ false
    → ((of : Concatenation) → kept_in new of ≡ kept_with k place octets old of)
    → (of : Concatenation) → kept_in new of ≡ kept_after k place octets old of
keeps-part old new k place octets part kept of = kept of ∙ elim (cases_Bool (is_same k of)) [
  | inl one ↦
      let same = is_same-true k of one in
      let open' : is_whole of.total (with_piece place octets (kept_in old of)) ≡ false = ap (λ k. is_whole k.total (with_piece place octets (kept_in old k))) (sym same) ∙ part in
      rw (one, open') refl
  | inr another ↦ rw another refl
]

-- where the packet is whole nothing is kept of it
pub keeps-whole : (old new : Pile) (k : Concatenation) (place : ℕ) (octets : List ℕ)
    → is_whole k.total (with_piece place octets (kept_in old k)) ≡ true
    → ((of : Concatenation) → kept_in new of ≡ kept_without k old of)
    → (of : Concatenation) → kept_in new of ≡ kept_after k place octets old of
keeps-whole old new k place octets whole rest of = rest of ∙ elim (cases_Bool (is_same k of)) [
  | inl one ↦
      let same = is_same-true k of one in
      let full : is_whole of.total (with_piece place octets (kept_in old of)) ≡ true = ap (λ k. is_whole k.total (with_piece place octets (kept_in old k))) (sym same) ∙ whole in
      rw (one, full) refl
  | inr another ↦ rw another refl
]
