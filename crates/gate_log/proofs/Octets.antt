-- What the writes of an append make of the octets of a log.
use Rattle.std.proofs.Common.{◌≡◌, ◌≢◌, ◌⊎◌, inl, inr, ℕ, suc, ◌+◌, ◌-◌, ◌<◌, List, [], ◌∷◌, ◌++◌, length, get_or, take, drop, sym, ◌∙◌, ap, subst, arith, append_assoc, length-append, take-append-drop}
use Rattle.std.proofs.lemmas.Bool.{cases_eq}
use Rattle.std.proofs.lemmas.List.{drop_at, drop_more, take_all, drop_all, append-nil, take-append-le, get_or-append-add}
use Rattle.disk_model.specs.Disk.{overwritten, Torn, Follows, Only}
use Rattle.gate_log.specs.Log.{OPEN, IsClosedBehind}
use Rattle.gate_log.specs.Append.{EndsClosed, front_of, opened_with, IsBeforeOrAfter}

-- a list up to a place, the element there, and the rest
pub split_at : (octets : List ℕ) (n : ℕ) → n < length octets → octets ≡ take n octets ++ get_or octets n 0 ∷ drop (n + 1) octets
split_at octets n within = sym (take-append-drop n octets) ∙ ap (λ (l : List ℕ). take n octets ++ l) (drop_more octets n 0 within)

module _ (log framed : List ℕ) (ends : EndsClosed log) where
  abbrev gate : ℕ
  gate = get_or log (length log - 1) 0

  last_gate : log ≡ front_of log ++ gate ∷ []
  last_gate =
      split_at log (length log - 1) (omega (arith, ends.filled))
      ∙ ap (λ (l : List ℕ). front_of log ++ gate ∷ l) (drop_all (length log - 1 + 1) log (omega (arith, ends.filled)))

  -- the closed gate stands in each outcome of the first write
  pub torn_behind : (image : List ℕ) → Torn (length log) (length framed) log image → IsClosedBehind (front_of log) image
  torn_behind image torn =
      let n = length log in
      let whole : take n image ≡ log = torn.before ∙ take_all n log (omega arith) in
      record {
        gate = gate;
        behind = drop n image;
        closed = ends.closed;
        is = sym (take-append-drop n image) ∙ ap (λ (l : List ℕ). l ++ drop n image) (whole ∙ last_gate)
            ∙ append_assoc (front_of log) (gate ∷ []) (drop n image);
      }

  pub written_behind : overwritten log (length log) framed ≡ log ++ framed
  written_behind =
      ap (λ (l : List ℕ). l ++ framed ++ drop (length log + length framed) log) (take_all (length log) log (omega arith))
      ∙ ap (λ (l : List ℕ). log ++ framed ++ l) (drop_all (length log + length framed) log (omega arith))
      ∙ append-nil (log ++ framed)

  front_stands : take (length log - 1) (log ++ framed) ≡ front_of log
  front_stands = take-append-le (length log - 1) log framed (omega arith)

  frame_stands : drop (length log - 1 + 1) (log ++ framed) ≡ framed
  frame_stands = drop_at log framed (length log - 1 + 1) (omega (arith, ends.filled))

  -- an image with this gate is the log without the batch or with it
  by_gate : (image : List ℕ) (x : ℕ) → image ≡ front_of log ++ x ∷ framed → (x ≡ OPEN) ⊎ (x ≢ OPEN) → IsBeforeOrAfter log framed image
  by_gate image x is (inl open_gate) = inr (is ∙ ap (λ (n : ℕ). front_of log ++ n ∷ framed) open_gate)
  by_gate image x is (inr closed_gate) = inl (record { gate = x; behind = framed; closed = closed_gate; is = is })

  -- the batch stands whole in each outcome of the second write
  pub torn_gate : (image : List ℕ) → Torn (length log - 1) 1 (log ++ framed) image → IsBeforeOrAfter log framed image
  torn_gate image torn =
      let k = length log - 1 in
      let within : k < length image = omega (arith, ends.filled, torn.no_shorter, length-append log framed) in
      let x = get_or image k 0 in
      let is : image ≡ front_of log ++ x ∷ framed =
      split_at image k within
      ∙ ap (λ (l : List ℕ). l ++ x ∷ drop (k + 1) image) (torn.before ∙ front_stands)
      ∙ ap (λ (l : List ℕ). front_of log ++ x ∷ l) (torn.after ∙ frame_stands) in
      by_gate image x is (cases_eq x OPEN)

  pub written_gate : overwritten (log ++ framed) (length log - 1) (OPEN ∷ []) ≡ opened_with log framed
  written_gate =
      ap (λ (l : List ℕ). l ++ (OPEN ∷ []) ++ drop (length log - 1 + 1) (log ++ framed)) front_stands
      ∙ ap (λ (l : List ℕ). front_of log ++ (OPEN ∷ []) ++ l) frame_stands
      ∙ append_assoc (front_of log) (OPEN ∷ []) framed

  pub length-opened_with : length (opened_with log framed) ≡ length log + length framed
  length-opened_with =
      let a = length-append (front_of log) (OPEN ∷ framed) in
      let b = length-append (front_of log) (gate ∷ []) in
      let e = ap length last_gate in
      omega (arith, a, b, e)

  -- a log with one more framed batch ends as the frame does
  pub ends_closed : EndsClosed framed → EndsClosed (opened_with log framed)
  ends_closed framed_ends = record {
    filled = omega (arith, length-opened_with, ends.filled);
    closed = λ is. framed_ends.closed (sym same_end ∙ is);
  }
    where
      same_end : get_or (opened_with log framed) (length (opened_with log framed) - 1) 0 ≡ get_or framed (length framed - 1) 0
      same_end = ap (λ (i : ℕ). get_or (opened_with log framed) i 0) last ∙ get_or-append-add (front_of log) (OPEN ∷ framed) (suc (length framed - 1)) 0
        where
          last : length (opened_with log framed) - 1 ≡ length (front_of log) + suc (length framed - 1)
          last = omega (arith, length-append (front_of log) (OPEN ∷ framed), framed_ends.filled)

module _ (log framed : List ℕ) (ends : EndsClosed log) (len : ℕ) (long : length log ≡ len) where
  -- what a stop leaves of the first write
  pub first_write : (images : List ℕ → Type 0) → Only log images → (image : List ℕ) → Follows (Torn len (length framed)) images image → IsBeforeOrAfter log framed image
  first_write images only image (old, was, torn) =
      inl (torn_behind log framed ends image
      (subst (λ (n : ℕ). Torn n (length framed) log image) (sym long) (subst (λ (o : List ℕ). Torn len (length framed) o image) (only old was) torn)))

  -- what a read gives after it
  pub after_first : (mid : List ℕ) → mid ≡ overwritten log len framed → mid ≡ log ++ framed
  after_first mid is = is ∙ ap (λ (n : ℕ). overwritten log n framed) (sym long) ∙ written_behind log framed ends

  -- what a stop leaves of the second write
  pub second_write : (mid : List ℕ) → mid ≡ log ++ framed → (images : List ℕ → Type 0) → Only mid images
      → (image : List ℕ) → Follows (Torn (len - 1) 1) images image → IsBeforeOrAfter log framed image
  second_write mid is images only image (old, was, torn) =
      torn_gate log framed ends image
      (subst (λ (n : ℕ). Torn (n - 1) 1 (log ++ framed) image) (sym long) (subst (λ (o : List ℕ). Torn (len - 1) 1 o image) (only old was ∙ is) torn))

  -- what a read gives after it
  pub after_second : (mid new : List ℕ) → mid ≡ log ++ framed → new ≡ overwritten mid (len - 1) (OPEN ∷ []) → new ≡ opened_with log framed
  after_second mid new is written =
      written
      ∙ ap (λ (m : List ℕ). overwritten m (len - 1) (OPEN ∷ [])) is
      ∙ ap (λ (n : ℕ). overwritten (log ++ framed) (n - 1) (OPEN ∷ [])) (sym long)
      ∙ written_gate log framed ends
