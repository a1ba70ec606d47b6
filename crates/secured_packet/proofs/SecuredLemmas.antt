-- The checksum's way between its place and the front, and padding.
use Rattle.std.proofs.Common.{◌≡◌, ℕ, ◌+◌, ◌≤◌, List, ◌++◌, length, take, drop, ap, ◌∙◌, arith}
use Rattle.std.proofs.lemmas.List.{drop-append-le, drop-take, drop_at, length-append, length-drop, length-take, take-append-le, take-take, take_at}

module _ (packet : List ℕ) (front : ℕ) (fits : front + 8 ≤ length packet) where
  code_len : length (take 8 (drop front packet)) ≡ 8
  code_len = omega (arith, length-take 8 (drop front packet), length-drop front packet)

  turned_is : drop front (take (front + 8) packet) ++ take front (take (front + 8) packet) ≡ take 8 (drop front packet) ++ take front packet
  turned_is = λ i. drop-take front 8 packet i ++ take-take front (front + 8) packet (omega arith) i

  pub turned-front : (turned rest : List ℕ) → turned ≡ drop front (take (front + 8) packet) ++ take front (take (front + 8) packet) → take 8 (turned ++ rest) ≡ take 8 (drop front packet)
  turned-front turned rest is =
      ap (λ s. take 8 (s ++ rest)) (is ∙ turned_is)
      ∙ take-append-le 8 (take 8 (drop front packet) ++ take front packet) rest (omega (arith, length-append (take 8 (drop front packet)) (take front packet), code_len))
      ∙ take_at (take 8 (drop front packet)) (take front packet) 8 code_len

  pub turned-behind : (turned rest : List ℕ) → turned ≡ drop front (take (front + 8) packet) ++ take front (take (front + 8) packet) → drop 8 (turned ++ rest) ≡ take front packet ++ rest
  turned-behind turned rest is =
      ap (λ s. drop 8 (s ++ rest)) (is ∙ turned_is)
      ∙ drop-append-le 8 (take 8 (drop front packet) ++ take front packet) rest (omega (arith, length-append (take 8 (drop front packet)) (take front packet), code_len))
      ∙ ap (λ s. s ++ rest) (drop_at (take 8 (drop front packet)) (take front packet) 8 code_len)
