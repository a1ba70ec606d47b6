-- A list whose elements are changed one after the other.
use Rattle.std.proofs.Common.{◌≡◌, ℕ, ◌+◌, ◌<◌, List, [], ◌∷◌, ◌++◌, length, map, take, drop, set, get_or, sym, ap, ◌∙◌, arith, length-drop}
use Rattle.std.proofs.lemmas.List.{map-append, take_more, take_more_set, drop-set-lt, get_or-drop, drop-drop}

-- the elements before a place are changed by a function, and the others are as they were
pub record IsChangedTo {X : Type 0} (f : X → X) (old now : List X) (i : ℕ) : Type 0 where
  pub done : take i now ≡ map f (take i old)
  pub left : drop i now ≡ drop i old

one-more : {X : Type 0} (l : List X) (i : ℕ) → drop (i + 1) l ≡ drop 1 (drop i l)
one-more l i = sym (drop-drop 1 i l)

first : {X : Type 0} (l : List X) (i : ℕ) (d : X) → get_or (drop i l) 0 d ≡ get_or l i d
first l i d =
    let here : i + 0 ≡ i = omega arith in
    get_or-drop i l 0 d ∙ ap (λ n. get_or l n d) here

pub changed : {X : Type 0} (f : X → X) (old now : List X) (i : ℕ) (x y : X) → i < length now → x ≡ get_or now i x → y ≡ f x → IsChangedTo f old now i → IsChangedTo f old (set now i y) (i + 1)
changed f old now i x y within is new so_far =
    let lens : length (drop i now) ≡ length (drop i old) = ap length so_far.left in
    let within_old : i < length old = omega (arith, lens, length-drop i now, length-drop i old) in
    let same : x ≡ get_or old i x = is ∙ sym (first now i x) ∙ ap (λ l. get_or l 0 x) so_far.left ∙ first old i x in record {
      done =
          take_more_set now i y within
          ∙ ap (λ l. l ++ y ∷ []) so_far.done
          ∙ ap (λ z. map f (take i old) ++ z ∷ []) (new ∙ ap f same)
          ∙ sym (map-append f (take i old) (get_or old i x ∷ []))
          ∙ ap (map f) (sym (take_more old i x within_old));
      left =
          drop-set-lt (i + 1) now i y (omega arith)
          ∙ one-more now i ∙ ap (drop 1) so_far.left ∙ sym (one-more old i);
    }
