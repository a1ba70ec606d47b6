-- A list of nine words, from what was read of it.
use Rattle.std.proofs.Common.{◌≡◌, ℕ, ◌+◌, ◌<◌, ◌≤◌, List, [], ◌∷◌, length, get_or, drop, sym, ◌∙◌, ap, arith}
use Rattle.std.proofs.lemmas.List.{drop_more, drop_all}

module _ {A : Type 0} (words : List A) where
  step : (i : ℕ) (word : A) → i < length words → word ≡ get_or words i word → drop i words ≡ word ∷ drop (i + 1) words
  step i word within is = drop_more words i word within ∙ ap (λ (w : A). w ∷ drop (i + 1) words) (sym is)

  pub nine_words : (a b c d e f g h i : A) → 9 ≤ length words → length words < 10
      → a ≡ get_or words 0 a → b ≡ get_or words 1 b → c ≡ get_or words 2 c → d ≡ get_or words 3 d → e ≡ get_or words 4 e
      → f ≡ get_or words 5 f → g ≡ get_or words 6 g → h ≡ get_or words 7 h → i ≡ get_or words 8 i
      → words ≡ a ∷ b ∷ c ∷ d ∷ e ∷ f ∷ g ∷ h ∷ i ∷ []
  nine_words a b c d e f g h i least below at_0 at_1 at_2 at_3 at_4 at_5 at_6 at_7 at_8 =
      step 0 a (omega arith) at_0 ∙ ap (λ (l : List A). a ∷ l)
      (step 1 b (omega arith) at_1 ∙ ap (λ (l : List A). b ∷ l)
      (step 2 c (omega arith) at_2 ∙ ap (λ (l : List A). c ∷ l)
      (step 3 d (omega arith) at_3 ∙ ap (λ (l : List A). d ∷ l)
      (step 4 e (omega arith) at_4 ∙ ap (λ (l : List A). e ∷ l)
      (step 5 f (omega arith) at_5 ∙ ap (λ (l : List A). f ∷ l)
      (step 6 g (omega arith) at_6 ∙ ap (λ (l : List A). g ∷ l)
      (step 7 h (omega arith) at_7 ∙ ap (λ (l : List A). h ∷ l)
      (step 8 i (omega arith) at_8 ∙ ap (λ (l : List A). i ∷ l) (drop_all 9 words (omega arith))))))))))
