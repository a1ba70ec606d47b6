-- What is read from a gate on: whether parts fill a batch, and what a batch read in pieces is.
use Rattle.std.proofs.Common.{◌≡◌, ◌≢◌, ℕ, ◌+◌, ◌<◌, Bool, true, false, Option, Some, None, List, [], ◌∷◌, length, take, drop, get_or, refl, sym, ◌∙◌, ap, subst, arith, length-drop}
use Rattle.std.specs.Prelude.{is_some, nat_lt, ◌&&◌, Result, Ok, Err, IfOk}
use Rattle.std.specs.Option.{option_map}
use Rattle.std.specs.Int.{w32, from_be_bytes}
use Rattle.std.proofs.lemmas.Bool.{lt-ltb}
use Rattle.std.proofs.lemmas.List.{drop_at, drop-drop, take-take}
use Rattle.gate_log.specs.Log.{OPEN}
use Rattle.gate_log.specs.Reading.{size_at, measured, parts_from, batch_of, behind_parts, walk_from}
use Rattle.gate_log.specs.Reading.Walk.{Ended, Broken}
use Rattle.gate_log.specs.Measures.{parts_step, parts_none, parts_done, batch_of_is, is_batch_of}
use Rattle.gate_log.specs.Walks.{walk_batch, walk_damaged}
use Rattle.gate_log.specs.Windows.{WindowsState, rest_of, IsTaken}
use Rattle.gate_log.specs.BatchesRead.{is_framed, IsBody, IsBatchRead, IsStepRead}
use Rattle.gate_log.specs.declared.standings.Standing.{Standing}
use Rattle.gate_log.specs.declared.standings.Standing.TheVariants.{Going, Closed, Damaged}
use Rattle.gate_log.specs.declared.log_errors.LogErr.{LogErr}
use Rattle.gate_log.proofs.Loops.{first_of, step_missing, step_closed}

-- ---- parts that fill octets

is_some_map : (part : List ℕ) (found : Option (List (List ℕ))) → is_some (option_map (λ (parts : List (List ℕ)). part ∷ parts) found) ≡ is_some found
is_some_map part None = refl
is_some_map part (Some parts) = refl

pub are_turn : (part rest behind : List ℕ) → measured rest ≡ Some (part, behind) → is_some (parts_from 0 behind) ≡ is_some (parts_from 0 rest)
are_turn part rest behind e =
    sym (is_some_map part (parts_from 0 behind)) ∙ ap (λ (f : Option (List (List ℕ))). is_some f) (sym (parts_step rest part behind e))

pub are_stop : (rest : List ℕ) → 0 < length rest → measured rest ≡ None → is_some (parts_from 0 rest) ≡ false
are_stop [] some e = absurd (omega arith)
are_stop (x ∷ rest) some e = ap (λ (f : Option (List (List ℕ))). is_some f) (parts_none x rest e)

pub are_end : (rest : List ℕ) → length rest ≡ 0 → is_some (parts_from 0 rest) ≡ true
are_end (x ∷ rest) e = absurd (omega arith)
are_end [] e = ap (λ (f : Option (List (List ℕ))). is_some f) parts_done

-- ---- a framed batch

both_true : (a b : Bool) → (a && b) ≡ true → (a ≡ true) × (b ≡ true)
both_true true true e = (refl, refl)
both_true true false e = absurd cc
both_true false b e = absurd cc

some_of : (found : Option (List (List ℕ))) → is_some found ≡ true → (parts : List (List ℕ)) × (found ≡ Some parts)
some_of None e = absurd cc
some_of (Some parts) e = (parts, refl)

none_of : (found : Option (List (List ℕ) × ℕ)) → ((parts : List (List ℕ)) (size : ℕ) → found ≡ Some (parts, size) → ⊥) → found ≡ None
none_of None never = refl
none_of (Some (parts, size)) never = absurd (never parts size refl)

map_has : (part : List ℕ) (found : Option (List (List ℕ))) (parts : List (List ℕ)) → option_map (λ (more : List (List ℕ)). part ∷ more) found ≡ Some parts → 0 < length parts
map_has part None parts e = absurd cc
map_has part (Some more) parts e = let is : part ∷ more ≡ parts = cc in omega (arith, ap length is)

-- octets that are parts have one, where there are any
has_part : (octets : List ℕ) (parts : List (List ℕ)) → 0 < length octets → parts_from 0 octets ≡ Some parts → 0 < length parts
has_part [] parts some e = absurd (omega arith)
has_part (x ∷ octets) parts some e = at (measured (x ∷ octets)) refl
  where
    at : (found : Option (List ℕ × List ℕ)) → measured (x ∷ octets) ≡ found → 0 < length parts
    at None m = absurd (let never = sym (parts_none x octets m) ∙ e in cc)
    at (Some (part, rest)) m = map_has part (parts_from 0 rest) parts (sym (parts_step (x ∷ octets) part rest m) ∙ e)

none_has : (octets : List ℕ) (parts : List (List ℕ)) → parts_from 0 octets ≡ Some parts → 0 < length parts → 0 < length octets
none_has [] parts e some = absurd (let none : [] ≡ parts = (let both = sym parts_done ∙ e in cc) in omega (arith, some, ap length none))
none_has (x ∷ octets) parts e some = omega arith

framed_parts : (octets : List ℕ) → is_framed octets ≡ true → (parts : List (List ℕ)) × (parts_from 0 octets ≡ Some parts) × (0 < length parts)
framed_parts octets framed =
    let both = both_true (nat_lt 0 (length octets)) (is_some (parts_from 0 octets)) framed in
    let found = some_of (parts_from 0 octets) both.1 in
    (found.0, found.1, has_part octets found.0 (ltb_some octets both.0) found.1)
  where
    ltb_some : (octets : List ℕ) → nat_lt 0 (length octets) ≡ true → 0 < length octets
    ltb_some [] e = absurd cc
    ltb_some (x ∷ octets) e = omega arith

both_are : (a b : Bool) → a ≡ true → b ≡ true → (a && b) ≡ true
both_are a b e f = rw (e, f) refl

parts_framed : (octets : List ℕ) (parts : List (List ℕ)) → parts_from 0 octets ≡ Some parts → 0 < length parts → is_framed octets ≡ true
parts_framed octets parts e some =
    both_are (nat_lt 0 (length octets)) (is_some (parts_from 0 octets)) (lt-ltb 0 (length octets) (none_has octets parts e some))
    (ap (λ (f : Option (List (List ℕ))). is_some f) e)

-- ---- what follows an open gate

module _ (octets : List ℕ) where
  pub body_batch : (size : ℕ) → size ≡ size_at octets → size < length (drop 4 octets) → is_framed (take size (drop 4 octets)) ≡ true
      → (parts : List (List ℕ)) × (parts_from 0 (take size (drop 4 octets)) ≡ Some parts) × (batch_of octets ≡ Some (parts, size))
  body_batch size is within framed =
      let found = framed_parts (take size (drop 4 octets)) framed in (
        found.0,
        found.1,
        batch_of_is octets found.0 size (record {
          size_is = is;
          within = omega (arith, within, length-drop 4 octets);
          parts_are = found.1;
          has_part = found.2;
        }),
      )

  pub no_batch : (size : ℕ) → size ≡ size_at octets → (size < length (drop 4 octets) → is_framed (take size (drop 4 octets)) ≡ true → ⊥) → batch_of octets ≡ None
  no_batch size is never =
      none_of (batch_of octets) (λ parts n e.
      let b = is_batch_of octets parts n e in
      let same : n ≡ size = b.size_is ∙ sym is in
      never (omega (arith, b.within, length-drop 4 octets, same))
      (subst (λ (k : ℕ). is_framed (take k (drop 4 octets)) ≡ true) same (parts_framed (take n (drop 4 octets)) parts b.parts_are b.has_part)))

  pub no_length : length octets < 4 → batch_of octets ≡ None
  no_length short = no_batch (size_at octets) refl (λ within framed. omega (arith, short, within, length-drop 4 octets))

-- ---- what was read in pieces

module _ (text before after : List ℕ) (count : ℕ) (was now : WindowsState) (taken : IsTaken text count before after was now) where
  pub behind_room : (n : ℕ) → length before ≡ n → drop n after ≡ take count (rest_of text was)
  behind_room n is = ap (drop n) taken.octets ∙ drop_at before (take count (rest_of text was)) n is

-- ---- the number in front of a batch

-- the first four octets, behind a gate
pub size_read : (text before after : List ℕ) (was now : WindowsState) → IsTaken text 4 before after was now → length before ≡ 1
    → size_at (drop 1 after) ≡ size_at (rest_of text was)
size_read text before after was now taken one =
    ap size_at (behind_room text before after 4 was now taken 1 one)
    ∙ ap (from_be_bytes w32) (take-take 4 4 (rest_of text was) (omega arith))

-- ---- a step

pub step_read : (octets : List ℕ) (parts : List (List ℕ)) (size : ℕ) → 0 < length octets → get_or octets 0 0 ≡ OPEN → batch_of (drop 1 octets) ≡ Some (parts, size)
    → walk_from 0 octets ≡ behind_parts parts (walk_from 0 (drop (4 + size) (drop 1 octets)))
step_read octets parts size some is e =
    ap (walk_from 0) (first_of octets some ∙ ap (λ (g : ℕ). g ∷ drop 1 octets) is) ∙ walk_batch (drop 1 octets) parts size e

pub step_broken : (octets : List ℕ) → 0 < length octets → get_or octets 0 0 ≡ OPEN → batch_of (drop 1 octets) ≡ None → walk_from 0 octets ≡ Broken []
step_broken octets some is e =
    ap (walk_from 0) (first_of octets some ∙ ap (λ (g : ℕ). g ∷ drop 1 octets) is) ∙ walk_damaged (drop 1 octets) e

pub step_short : (octets : List ℕ) → length octets < 1 → walk_from 0 octets ≡ Broken []
step_short octets short = step_missing octets (omega (arith, short))

-- the gate, alone in the room
pub gate_read : (text after : List ℕ) (was now : WindowsState) → IsTaken text 1 [] after was now → length after ≡ 1
    → (0 < length (rest_of text was)) × (get_or (rest_of text was) 0 0 ≡ get_or after 0 0)
gate_read text after was now taken one = at (rest_of text was) taken.octets
  where
    at : (rest : List ℕ) → after ≡ take 1 rest → (0 < length rest) × (get_or rest 0 0 ≡ get_or after 0 0)
    at [] e = absurd (omega (arith, one, ap length e))
    at (x ∷ rest) e = (omega arith, ap (λ (l : List ℕ). get_or l 0 0) (sym e))

-- ---- a batch and a step, by what follows

module _ (text before after room : List ℕ) (was is now : WindowsState) (taken : IsTaken text 4 before after was is) (size : ℕ) (size_is : size ≡ size_at (rest_of text was)) where
  batch_of_body : (standing : Standing) → IsBody standing text size room is now → IsBatchRead standing text room was now
  batch_of_body Going body =
      let octets = rest_of text was in
      let within = subst (λ (l : List ℕ). size < length l) taken.rest body.0 in
      let framed = subst (λ (l : List ℕ). is_framed (take size l) ≡ true) taken.rest body.2 in
      let found = body_batch octets size size_is within framed in
      (found.0, size, ap (parts_from 0) (body.1 ∙ ap (take size) taken.rest) ∙ found.1, found.2, body.3 ∙ ap (drop size) taken.rest ∙ drop-drop size 4 octets)
  batch_of_body Closed body = absurd body
  batch_of_body Damaged body =
      no_batch (rest_of text was) size size_is (λ within framed.
      body (subst (λ (l : List ℕ). size < length l) (sym taken.rest) within) (subst (λ (l : List ℕ). is_framed (take size l) ≡ true) (sym taken.rest) framed))

  pub batch_by_body : (result : Result Standing LogErr) → IfOk result (λ standing. IsBody standing text size room is now) → IfOk result (λ standing. IsBatchRead standing text room was now)
  batch_by_body (Ok standing) body = batch_of_body standing body
  batch_by_body (Err error) body = tt

module _ (text after room : List ℕ) (was is now : WindowsState) (taken : IsTaken text 1 [] after was is) (one : length after ≡ 1) (gate : get_or after 0 0 ≡ OPEN) where
  step_of_batch : (standing : Standing) → IsBatchRead standing text room is now → IsStepRead standing text room was now
  step_of_batch Going batch =
      let first = gate_read text after was is taken one in
      let octets = rest_of text was in
      let found = ap batch_of (sym taken.rest) ∙ batch.3 in
      (batch.0, batch.2, step_read octets batch.0 batch.1 first.0 (first.1 ∙ gate) found ∙ ap (λ (l : List ℕ). behind_parts batch.0 (walk_from 0 l)) (sym (batch.4 ∙ ap (drop (4 + batch.1)) taken.rest)))
  step_of_batch Closed batch = absurd batch
  step_of_batch Damaged batch =
      let first = gate_read text after was is taken one in
      step_broken (rest_of text was) first.0 (first.1 ∙ gate) (ap batch_of (sym taken.rest) ∙ batch)

  pub step_by_batch : (result : Result Standing LogErr) → IfOk result (λ standing. IsBatchRead standing text room is now) → IfOk result (λ standing. IsStepRead standing text room was now)
  step_by_batch (Ok standing) batch = step_of_batch standing batch
  step_by_batch (Err error) batch = tt

pub step_of_closed : (text after : List ℕ) (was now : WindowsState) → IsTaken text 1 [] after was now → length after ≡ 1 → get_or after 0 0 ≢ OPEN
    → walk_from 0 (rest_of text was) ≡ Ended [] (rest_of text now)
step_of_closed text after was now taken one closed =
    let first = gate_read text after was now taken one in
    step_closed (rest_of text was) first.0 (λ is. closed (sym first.1 ∙ is)) ∙ ap (λ (l : List ℕ). Ended [] l) (sym taken.rest)
