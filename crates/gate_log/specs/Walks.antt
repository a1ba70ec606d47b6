-- Laws of a walk from gate to gate.
use Rattle.std.specs.Prelude.{◌≡◌, ◌≢◌, ℕ, zero, suc, ◌+◌, ◌^◌, ◌<◌, ◌≤◌, ◌==◌, Bool, true, false, cond, Option, Some, None, List, [], ◌∷◌, ◌++◌, length, take, drop, refl}
use Rattle.std.specs.List.{flat_map}
use Rattle.std.proofs.Common.{sym, ◌∙◌, ap, subst, arith, append_assoc, length-append}
use Rattle.std.proofs.lemmas.Bool.{eqb-true, eqb-false, ne_eqb}
use Rattle.std.proofs.lemmas.List.{take-append-le, drop_at}
use Rattle.gate_log.specs.Log.{OPEN, four, part_octets, batch_octets}
use Rattle.gate_log.specs.Reading.{batch_of, Walk, behind_parts, from_batch, walk_from}
use Rattle.gate_log.specs.Reading.Walk.{Ended, Broken}
use Rattle.gate_log.specs.Measures.{batch_like, batch-written, length-four}

pub walk_skip : (skip : ℕ) (octets : List ℕ) → walk_from skip octets ≡ walk_from 0 (drop skip octets)
unfolding walk_from
walk_skip zero octets = refl
walk_skip (suc skip) [] = refl
walk_skip (suc skip) (x ∷ octets) = walk_skip skip octets

pub behind_none : (walk : Walk) → behind_parts [] walk ≡ walk
behind_none (Ended parts behind) = refl
behind_none (Broken parts) = refl

pub behind_more : (one other : List (List ℕ)) (walk : Walk) → behind_parts one (behind_parts other walk) ≡ behind_parts (one ++ other) walk
behind_more one other (Ended parts behind) = ap (λ (l : List (List ℕ)). Ended l behind) (sym (append_assoc one other parts))
behind_more one other (Broken parts) = ap (λ (l : List (List ℕ)). Broken l) (sym (append_assoc one other parts))

-- a closed gate ends the walk
pub walk_closed : (gate : ℕ) (octets : List ℕ) → gate ≢ OPEN → walk_from 0 (gate ∷ octets) ≡ Ended [] octets
unfolding walk_from
walk_closed gate octets closed = let test : (gate == OPEN) ≡ false = ne_eqb gate OPEN closed in rw test refl

-- behind an open gate stands a batch, and then the next gate
pub walk_batch : (octets : List ℕ) (parts : List (List ℕ)) (size : ℕ) → batch_of octets ≡ Some (parts, size)
    → walk_from 0 (OPEN ∷ octets) ≡ behind_parts parts (walk_from 0 (drop (4 + size) octets))
unfolding walk_from
walk_batch octets parts size e =
    ap (from_batch (λ (skip : ℕ). walk_from skip octets)) e ∙ ap (behind_parts parts) (walk_skip (4 + size) octets)

pub walk_damaged : (octets : List ℕ) → batch_of octets ≡ None → walk_from 0 (OPEN ∷ octets) ≡ Broken []
unfolding walk_from
walk_damaged octets e = ap (from_batch (λ (skip : ℕ). walk_from skip octets)) e

pub walk_missing : walk_from 0 [] ≡ Broken []
unfolding walk_from
walk_missing = refl

-- a batch that is written is walked over
pub walk-written : (parts : List (List ℕ)) (gate : ℕ) (behind : List ℕ) → 0 < length parts → length (flat_map part_octets parts) < 2 ^ 32
    → walk_from 0 (OPEN ∷ batch_octets parts ++ gate ∷ behind) ≡ behind_parts parts (walk_from 0 (gate ∷ behind))
walk-written parts gate behind has fits =
    let n = length (flat_map part_octets parts) in
    let long : length (batch_octets parts) ≡ 4 + n = omega (arith, length-append (four n) (flat_map part_octets parts), length-four n) in
    walk_batch (batch_octets parts ++ gate ∷ behind) parts n (batch-written parts gate behind has fits)
    ∙ ap (λ (l : List ℕ). behind_parts parts (walk_from 0 l)) (drop_at (batch_octets parts) (gate ∷ behind) (4 + n) long)

-- ---- what ends in a closed gate

-- The octets are a front, a closed gate and what lies behind it, and with another gate and rest behind that front the
-- walk goes on from there.
pub record IsSplit (octets : List ℕ) (skip : ℕ) (parts : List (List ℕ)) (behind : List ℕ) : Type 0 where
  pub front : List ℕ
  pub gate : ℕ
  pub is : octets ≡ front ++ gate ∷ behind
  pub closed : gate ≢ OPEN
  pub passes : skip ≤ length front
  pub again : (other : ℕ) (rest : List ℕ) → walk_from skip (front ++ other ∷ rest) ≡ behind_parts parts (walk_from 0 (other ∷ rest))

-- what a walk from the octets behind a gate gives
abbrev Splits : List ℕ → Type 0
Splits octets = (skip : ℕ) (parts : List (List ℕ)) (behind : List ℕ) → walk_from skip octets ≡ Ended parts behind → IsSplit octets skip parts behind

at_closed : (gate : ℕ) (octets : List ℕ) (parts : List (List ℕ)) (behind : List ℕ) → gate ≢ OPEN → Ended [] octets ≡ Ended parts behind
    → IsSplit (gate ∷ octets) 0 parts behind
at_closed gate octets parts behind closed e =
    let parts_are : [] ≡ parts = cc in
    let behind_is : octets ≡ behind = cc in
    record {
      front = [];
      gate = gate;
      is = ap (λ (l : List ℕ). gate ∷ l) behind_is;
      closed = closed;
      passes = omega arith;
      again = λ other rest. subst (λ (l : List (List ℕ)). walk_from 0 (other ∷ rest) ≡ behind_parts l (walk_from 0 (other ∷ rest))) parts_are (sym (behind_none (walk_from 0 (other ∷ rest))));
    }

module _ (octets : List ℕ) (splits : Splits octets) (parts : List (List ℕ)) (behind : List ℕ) where
  at_batch : (found : List (List ℕ)) (size : ℕ) → batch_of octets ≡ Some (found, size) → (walk : Walk) → walk_from (4 + size) octets ≡ walk
      → behind_parts found walk ≡ Ended parts behind → IsSplit (OPEN ∷ octets) 0 parts behind
  unfolding walk_from
  at_batch found size batch (Broken more) walked e = absurd cc
  at_batch found size batch (Ended more rest) walked e =
      let s = splits (4 + size) more rest walked in
      let parts_are : found ++ more ≡ parts = cc in
      let behind_is : rest ≡ behind = cc in
      record {
        front = OPEN ∷ s.front;
        gate = s.gate;
        is = ap (λ (l : List ℕ). OPEN ∷ l) (s.is ∙ ap (λ (l : List ℕ). s.front ++ s.gate ∷ l) behind_is);
        closed = s.closed;
        passes = omega arith;
        again = λ other others.
            let octets_again = s.front ++ other ∷ others in
            let same : take (4 + size) octets_again ≡ take (4 + size) octets =
            take-append-le (4 + size) s.front (other ∷ others) s.passes
            ∙ sym (ap (take (4 + size)) s.is ∙ take-append-le (4 + size) s.front (s.gate ∷ rest) s.passes) in
            let long : 4 + size < length octets_again = omega (arith, s.passes, length-append s.front (other ∷ others)) in
            ap (from_batch (λ (skip : ℕ). walk_from skip octets_again)) (batch_like octets octets_again found size batch same long)
            ∙ ap (behind_parts found) (s.again other others)
            ∙ behind_more found more (walk_from 0 (other ∷ others))
            ∙ ap (λ (l : List (List ℕ)). behind_parts l (walk_from 0 (other ∷ others))) parts_are;
      }

  at_open : (batch : Option (List (List ℕ) × ℕ)) → batch_of octets ≡ batch → from_batch (λ skip. walk_from skip octets) batch ≡ Ended parts behind
      → IsSplit (OPEN ∷ octets) 0 parts behind
  at_open None batch e = absurd cc
  at_open (Some (found, size)) batch e = at_batch found size batch (walk_from (4 + size) octets) refl e

  at_gate : (gate : ℕ) (test : Bool) → (gate == OPEN) ≡ test
      → cond test (from_batch (λ skip. walk_from skip octets) (batch_of octets)) (Ended [] octets) ≡ Ended parts behind → IsSplit (gate ∷ octets) 0 parts behind
  at_gate gate true test e = subst (λ (g : ℕ). IsSplit (g ∷ octets) 0 parts behind) (sym (eqb-true gate OPEN test)) (at_open (batch_of octets) refl e)
  at_gate gate false test e = at_closed gate octets parts behind (eqb-false gate OPEN test) e

pub split : (octets : List ℕ) → Splits octets
unfolding walk_from
split [] zero parts behind e = absurd cc
split [] (suc skip) parts behind e = absurd cc
split (x ∷ octets) (suc skip) parts behind e =
    let s = split octets skip parts behind e in
    record {
      front = x ∷ s.front;
      gate = s.gate;
      is = ap (λ (l : List ℕ). x ∷ l) s.is;
      closed = s.closed;
      passes = omega (arith, s.passes);
      again = s.again;
    }
split (gate ∷ octets) zero parts behind e = at_gate octets (split octets) parts behind gate (gate == OPEN) refl e
