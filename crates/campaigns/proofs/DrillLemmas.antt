-- Draws and lines, one by one.
use Rattle.std.proofs.Common.{◌≡◌, ℕ, ◌+◌, List, [], ◌∷◌, ◌++◌, map, refl, sym, ap, ◌∙◌, arith, add-one, append_assoc}
use Rattle.std.specs.List.{flat_map, range_with_len}
use Rattle.std.proofs.lemmas.List.{append-nil}
use Rattle.std.proofs.lemmas.List.Folds.{flat_map-map}
use Rattle.std.proofs.lemmas.List.FromFn.{map-range_with_len_more}
use Rattle.std.proofs.lemmas.Grind.{flat_map-append}
use Rattle.hex.specs.Hex.{encode_lower, encode_with, lower_digits}
use Rattle.campaigns.specs.Drill.{next_state, state_at, top_octet, draw, draws}

-- the lines up to a place, and that of the next one
lines_to_next : (f : ℕ → List ℕ) (n : ℕ) → flat_map f (range_with_len 0 (n + 1)) ≡ flat_map f (range_with_len 0 n) ++ f n
lines_to_next f n =
    sym (flat_map-map (λ line. line) f (range_with_len 0 (n + 1)))
    ∙ ap (flat_map (λ line. line)) (map-range_with_len_more f 0 n n (omega arith))
    ∙ flat_map-append (λ line. line) (map f (range_with_len 0 n)) (f n ∷ [])
    ∙ (λ i. flat_map-map (λ line. line) f (range_with_len 0 n) i ++ append-nil (f n) i)

-- a text that goes on with the line of the next place
pub one_line_more : (f : ℕ → List ℕ) (front text : List ℕ) (n : ℕ) → text ≡ front ++ flat_map f (range_with_len 0 n)
    → text ++ f n ≡ front ++ flat_map f (range_with_len 0 (n + 1))
one_line_more f front text n so_far = rw (so_far, lines_to_next, append_assoc) refl

encode_with-append : (table xs ys : List ℕ) → encode_with table (xs ++ ys) ≡ encode_with table xs ++ encode_with table ys
unfolding encode_with
encode_with-append table [] ys = refl
encode_with-append table (x ∷ xs) ys = rw (encode_with-append table xs ys) refl

-- the octets of one draw more
pub draws_more : (number before len : ℕ) → encode_lower (draws number before (len + 1)) ≡ encode_lower (draws number before len) ++ encode_lower (draw number (before + len) ∷ [])
unfolding draws
draws_more number before len =
    ap encode_lower (map-range_with_len_more (draw number) before len (before + len) refl)
    ∙ encode_with-append lower_digits (draws number before len) (draw number (before + len) ∷ [])

-- no draws
pub draws_none : (number before : ℕ) → encode_lower (draws number before 0) ≡ []
unfolding draws encode_with
draws_none number before = refl

-- what is drawn behind so many others
pub draw_is : (number before octet state : ℕ) → octet ≡ top_octet state → state ≡ state_at number (before + 1) → octet ≡ draw number before
unfolding draw
draw_is number before octet state drawn is = drawn ∙ ap top_octet is

-- the state behind one draw more
pub state_next : (number n : ℕ) → state_at number (n + 1) ≡ next_state (state_at number n)
state_next number n = ap (state_at number) (add-one n)
