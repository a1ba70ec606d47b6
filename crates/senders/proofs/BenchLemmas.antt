-- Each step of the queue of work keeps its rule, and who has all parts knows the whole.
use Rattle.std.proofs.Common.{◌≡◌, ◌≢◌, ℕ, zero, suc, ◌+◌, ◌-◌, ◌<◌, List, [], ◌∷◌, ◌++◌, length, set, Option, Some, None, IfNone, MatchOption, refl, sym, ap, subst, arith, ⊎_elim}
use mathlib.Core.Option.{some, some-injective, some-ne-none}
use lib.ListN.{get_elem?}
use Rattle.crossbeam_queue.specs.Fifo.{Pushes, Pops, Forks, Merges, Learns, Held}
use Rattle.crossbeam_queue.proofs.Lists.{at_set, at_snoc}
use Rattle.lane_lock.specs.Numbers.{total, IsIn}
use Rattle.lane_lock.proofs.Counting.{total_set, total_at, total_append, Each_append}
use Rattle.senders.specs.Bench.{hand, IdleIsEmpty, IsFair, KnowsAll, Whole}
use Rattle.senders.specs.declared.benches.Hand.{Hand}
use Rattle.senders.specs.declared.pieces.Work.{Work}

IsIdle : Hand → Type 0
IsIdle v = v.parts ≡ 0 → (v.put ≡ []) × (v.taken ≡ [])

idle_set : (views : List Hand) (port : ℕ) (w : Hand) → (w.parts ≡ 0 → (w.put ≡ []) × (w.taken ≡ [])) → IdleIsEmpty views → IdleIsEmpty (set views port w)
idle_set views port w mine idle j u e = ⊎_elim
    (λ (x : (j ≡ port) × (w ≡ u)). subst (λ (h : Hand). h.parts ≡ 0 → (h.put ≡ []) × (h.taken ≡ [])) x.1 mine)
    (λ (x : (j ≢ port) × (get_elem? views j ≡ some u)). idle j u x.1)
    (at_set views port j w u e)

idle_snoc : (views : List Hand) (w : Hand) → (w.parts ≡ 0 → (w.put ≡ []) × (w.taken ≡ [])) → IdleIsEmpty views → IdleIsEmpty (views ++ w ∷ [])
idle_snoc views w mine idle j u e = ⊎_elim
    (λ (x : get_elem? views j ≡ some u). idle j u x)
    (λ (is : w ≡ u). subst (λ (h : Hand). h.parts ≡ 0 → (h.put ≡ []) × (h.taken ≡ [])) is mine)
    (at_snoc views w u j e)

pub begins : (works : List Work) → IsFair works [] (hand 1024 [] [] ∷ [])
begins works = (tt, (refl, (λ h. refl), only))
  where
    only : IdleIsEmpty (hand 1024 [] [] ∷ [])
    only zero u e none = let same = some-injective (hand 1024 [] []) u e in (sym (ap (λ (h : Hand). h.put) same), sym (ap (λ (h : Hand). h.taken) same))
    only (suc j) u e none = absurd (some-ne-none u (sym e))

pub puts : (works : List Work) (n port : ℕ) (v : Hand) (x : Work) → 0 < v.parts → IsIn x works
    → Pushes (IsFair works) n port v x (λ w. w ≡ hand v.parts (v.put ++ x ∷ []) v.taken)
puts works n port v x some_part piece items views room fair at =
    let w = hand v.parts (v.put ++ x ∷ []) v.taken in (
      w,
      (
        Each_append (λ p. IsIn p works) items (x ∷ []) fair.0 (piece, tt),
        (
          (let s = total_set (λ (u : Hand). u.parts) views port v w at in let p = fair.1.0 in omega arith),
          (λ h.
              let s = total_set (λ (u : Hand). total h u.put) views port v w at in
              let t = total_set (λ (u : Hand). total h u.taken) views port v w at in
              let a = total_append h v.put (x ∷ []) in
              let b = total_append h items (x ∷ []) in
              let p = fair.1.1 h in
              omega arith),
          idle_set views port w (λ none. absurd (omega arith)) fair.1.2,
        ),
      ),
      refl,
    )

pub takes : (works : List Work) (port : ℕ) (v : Hand) → 0 < v.parts
    → Pops (IsFair works) port v (λ x w. (w ≡ hand v.parts v.put (v.taken ++ x ∷ [])) × IsIn x works)
takes works port v some_part x items views fair at =
    let w = hand v.parts v.put (v.taken ++ x ∷ []) in (
      w,
      (
        fair.0.1,
        (
          (let s = total_set (λ (u : Hand). u.parts) views port v w at in let p = fair.1.0 in omega arith),
          (λ h.
              let s = total_set (λ (u : Hand). total h u.put) views port v w at in
              let t = total_set (λ (u : Hand). total h u.taken) views port v w at in
              let a = total_append h v.taken (x ∷ []) in
              let p = fair.1.1 h in
              omega arith),
          idle_set views port w (λ none. absurd (omega arith)) fair.1.2,
        ),
      ),
      (refl, fair.0.0),
    )

pub forks : (works : List Work) (port : ℕ) (v : Hand) → 1 < v.parts → Forks (IsFair works) port v (hand (v.parts - 1) v.put v.taken) (hand 1 [] [])
forks works port v two_parts items views fair at =
    let left = hand (v.parts - 1) v.put v.taken in
    let right = hand 1 [] [] in
    let vs = set views port left in (
      fair.0,
      (
        (let s = total_set (λ (u : Hand). u.parts) views port v left at in let a = total_append (λ (u : Hand). u.parts) vs (right ∷ []) in let p = fair.1.0 in omega arith),
        (λ h.
            let s = total_set (λ (u : Hand). total h u.put) views port v left at in
            let t = total_set (λ (u : Hand). total h u.taken) views port v left at in
            let a = total_append (λ (u : Hand). total h u.put) vs (right ∷ []) in
            let b = total_append (λ (u : Hand). total h u.taken) vs (right ∷ []) in
            let p = fair.1.1 h in
            omega arith),
        idle_snoc vs right (λ none. absurd (omega arith)) (idle_set views port left (λ none. absurd (omega arith)) fair.1.2),
      ),
    )

pub merges : (works : List Work) (port : ℕ) (v : Hand) (other : ℕ) (w : Hand) → 0 < v.parts
    → Merges (IsFair works) port v other w (hand (v.parts + w.parts) (v.put ++ w.put) (v.taken ++ w.taken)) (hand 0 [] [])
merges works port v other w some_part items views fair at apart at' =
    let both = hand (v.parts + w.parts) (v.put ++ w.put) (v.taken ++ w.taken) in
    let spent = hand 0 [] [] in
    let vs = set views port both in (
      fair.0,
      (
        (let s = total_set (λ (u : Hand). u.parts) views port v both at in let t = total_set (λ (u : Hand). u.parts) vs other w spent at' in let p = fair.1.0 in omega arith),
        (λ h.
            let s = total_set (λ (u : Hand). total h u.put) views port v both at in
            let s' = total_set (λ (u : Hand). total h u.put) vs other w spent at' in
            let t = total_set (λ (u : Hand). total h u.taken) views port v both at in
            let t' = total_set (λ (u : Hand). total h u.taken) vs other w spent at' in
            let a = total_append h v.put w.put in
            let b = total_append h v.taken w.taken in
            let p = fair.1.1 h in
            omega arith),
        idle_set vs other spent (λ none. (refl, refl)) (idle_set views port both (λ none. absurd (omega arith)) fair.1.2),
      ),
    )

-- where passes without parts have nothing, and there is no part left, there is nothing
none_left : (f : Hand → ℕ) (views : List Hand) → total (λ (u : Hand). u.parts) views ≡ 0 → ((j : ℕ) (u : Hand) → get_elem? views j ≡ some u → u.parts ≡ 0 → f u ≡ 0)
    → total f views ≡ 0
none_left f [] none idle = refl
none_left f (x ∷ xs) none idle =
    let first = idle 0 x refl (omega arith) in
    let rest = none_left f xs (omega arith) (λ j u at. idle (suc j) u at) in
    omega arith

alone : (f : Hand → ℕ) (views : List Hand) (port : ℕ) (v : Hand) → get_elem? views port ≡ some v → total (λ (u : Hand). u.parts) views ≡ v.parts
    → ((j : ℕ) (u : Hand) → get_elem? views j ≡ some u → u.parts ≡ 0 → f u ≡ 0) → total f views ≡ f v
alone f [] port v at whole idle = absurd (some-ne-none v (sym at))
alone f (x ∷ xs) zero v at whole idle =
    let same = some-injective x v at in
    let parts = ap (λ (u : Hand). u.parts) same in
    let value = ap f same in
    let rest = none_left f xs (omega arith) (λ j u at. idle (suc j) u at) in
    omega arith
alone f (x ∷ xs) (suc port) v at whole idle =
    let most = total_at (λ (u : Hand). u.parts) xs port v at in
    let first = idle 0 x refl (omega arith) in
    let rest = alone f xs port v at (omega arith) (λ j u at. idle (suc j) u at) in
    omega arith

pub learns : (works : List Work) (port : ℕ) (v : Hand) → Learns (IsFair works) port v (Whole v)
learns works port v items views fair at all h =
    let p = fair.1.1 h in
    let whole = fair.1.0 in
    let a = alone (λ (u : Hand). total h u.put) views port v at (omega arith) (λ j u at' none. ap (total h) (fair.1.2 j u at' none).0) in
    let b = alone (λ (u : Hand). total h u.taken) views port v at (omega arith) (λ j u at' none. ap (total h) (fair.1.2 j u at' none).1) in
    omega arith

-- as many as there are, where each weighs 1
count_all : (works : List Work) → total (λ (w : Work). 1) works ≡ length works
count_all [] = refl
count_all (work ∷ works) = let rest = count_all works in omega (arith, rest)

-- a queue from which nothing was taken isn't full, where less was put into it than it has room for
pub not_full : (v : Hand) (n : ℕ) → v.parts ≡ 1024 → v.taken ≡ [] → length v.put < n → Held n (Whole v) → ⊥
not_full v n all none room (items, full, whole) =
    let sum = whole all (λ (w : Work). 1) in
    let a = count_all v.put in
    let b = count_all items in
    let c = ap (total (λ (w : Work). 1)) none in
    absurd (omega (arith, room, full, sum, a, b, c))

-- who has all parts has taken all, where the queue was empty
pub knows_all : (v : Hand) → Held 0 (Whole v) → KnowsAll v
knows_all v (items, none, whole) all h = by_items items none (whole all h)
  where
    by_items : (list : List Work) → length list ≡ 0 → total h v.put ≡ total h v.taken + total h list → total h v.put ≡ total h v.taken
    by_items [] e sum = omega (arith, sum)
    by_items (x ∷ xs) e sum = absurd (omega (arith, e))

-- what is known where there is none
pub none_of : {T A A' : Type 0} (B : T → Type 0) (o : Option T) → (A → A') → MatchOption o A B → IfNone o A'
none_of B None f h = f h
none_of B (Some x) f h = tt
