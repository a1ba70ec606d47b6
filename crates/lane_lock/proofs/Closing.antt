-- The seat that has all numbers finds the lane at home, grown by exactly what it knows of.
use Rattle.std.proofs.Common.{◌≡◌, ◌≢◌, ℕ, suc, ◌+◌, ◌<◌, ◌⊎◌, cond, List, [], ◌∷◌, Option, Some, refl, sym, ap, subst, ◌∙◌, inl, inr, arith, eq-eqb, ne_eqb}
use mathlib.Core.Logic.{dite}
use mathlib.Core.Option.{some, some-injective}
use native.Mathlib.Decide.{dec_le, ℕ_discrete}
use lib.ListN.{get_elem?}
use Rattle.atomic_table.specs.Table.{State, Final, Seen}
use Rattle.lane_lock.specs.declared.views.Key.{Key}
use Rattle.lane_lock.specs.declared.views.Part.{Part}
use Rattle.lane_lock.specs.declared.views.Sight.{Sight}
use Rattle.lane_lock.specs.declared.views.Stage.TheVariants.{Resting}
use Rattle.lane_lock.specs.declared.views.View.{View}
use Rattle.lane_lock.specs.Numbers.{same, total, within, Each, IsIn}
use Rattle.lane_lock.specs.Meaning.{Meaning, own}
use Rattle.lane_lock.specs.Views.{waits, waits_at, has, numbered}
use Rattle.lane_lock.specs.Grown.{IsNumber, HasAll, IsGrown, IsAsHeavy, added_since}
use Rattle.lane_lock.specs.Rule.{IsAtHome, Slot, inside, outside, IsSetBy, IsRuled}
use Rattle.lane_lock.proofs.Counting.{same_here, same_apart, total_at, total_two, within_most, within_low, within_high, within_here}
use Rattle.lane_lock.proofs.Still.{rests, found_at_home}
use Rattle.lane_lock.proofs.Passing.{is_number, not_beside}

module _ {A : Type 0} where
  total_same : (f g : A → ℕ) (l : List A) → Each (λ x. f x ≡ g x) l → total f l ≡ total g l
  total_same f g [] h = refl
  total_same f g (x ∷ xs) h = let first = h.0 in let others = total_same f g xs h.1 in omega arith

module _ {L O E X : Type 0} (m : Meaning L O E X) (h : E → ℕ) where
  weight_owned : E → List E → ℕ → ℕ
  weight_owned e es k = total h (own m k (e ∷ es))

  -- an entry weighs in the list of its own number alone
  heavier : (e : E) (es : List E) (k : ℕ) → m.number_of e ≡ k → total h (own m k (e ∷ es)) ≡ h e + total h (own m k es)
  heavier e es k q = ap (λ b. total h (cond b (e ∷ own m k es) (own m k es))) (eq-eqb (m.number_of e) k q)

  as_heavy : (e : E) (es : List E) (k : ℕ) → m.number_of e ≢ k → total h (own m k (e ∷ es)) ≡ total h (own m k es)
  as_heavy e es k q = ap (λ b. total h (cond b (e ∷ own m k es) (own m k es))) (ne_eqb (m.number_of e) k q)

  none_more : (e : E) (es : List E) (parts : List (Part E)) → numbered (m.number_of e) parts ≡ 0
      → total (λ (p : Part E). total h (own m p.number (e ∷ es))) parts ≡ total (λ (p : Part E). total h (own m p.number es)) parts
  none_more e es [] none_of = refl
  none_more e es (p ∷ ps) none_of =
      let first = as_heavy e es p.number (λ q. let one : same (m.number_of e) p.number ≡ 1 = ap (same (m.number_of e)) (sym q) ∙ same_here (m.number_of e) in absurd (omega arith)) in
      let others = none_more e es ps (omega arith) in
      omega arith

  one_more : (e : E) (es : List E) (parts : List (Part E)) → numbered (m.number_of e) parts ≡ 1
      → total (λ (p : Part E). total h (own m p.number (e ∷ es))) parts ≡ h e + total (λ (p : Part E). total h (own m p.number es)) parts
  one_more e es [] one_of = absurd (omega arith)
  one_more e es (p ∷ ps) one_of = dite (ℕ_discrete (m.number_of e) p.number)
      (λ q.
      let one : same (m.number_of e) p.number ≡ 1 = ap (same (m.number_of e)) (sym q) ∙ same_here (m.number_of e) in
      let first = heavier e es p.number q in
      let others = none_more e es ps (omega arith) in
      omega arith)
      (λ q.
      let no : same (m.number_of e) p.number ≡ 0 = same_apart (m.number_of e) p.number q in
      let first = as_heavy e es p.number q in
      let others = one_more e es ps (omega arith) in
      omega arith)

  nothing_weighs : (parts : List (Part E)) → total (λ (p : Part E). total h (own m p.number [])) parts ≡ 0
  nothing_weighs [] = refl
  nothing_weighs (p ∷ ps) = let others = nothing_weighs ps in omega arith

  weighed : (key : Key L) (es : List E) (parts : List (Part E)) → Each (λ e. IsNumber key (m.number_of e)) es
      → ((n : ℕ) → numbered n parts ≡ within 1 (suc key.seats) n) → total h es ≡ total (λ (p : Part E). total h (own m p.number es)) parts
  weighed key [] parts by_seats numbers = sym (nothing_weighs parts)
  weighed key (e ∷ es) parts by_seats numbers =
      let n = m.number_of e in
      let above = by_seats.0.0 in
      let below = by_seats.0.1 in
      let there = within_here 1 (suc key.seats) n above (omega arith) in
      let more = one_more e es parts (numbers n ∙ there) in
      let others = weighed key es parts by_seats.1 numbers in
      omega arith

module _ {L O E X : Type 0} (m : Meaning L O E X) (key : Key L) where
  pub weighs : (v : View L E X) (lane : L) → IsGrown m key v lane → IsAsHeavy m key v lane
  weighs v lane g h = weighed m h key (added_since m key (m.entries lane)) v.parts g.seats g.numbers
      ∙ sym (total_same (λ (p : Part E). total h p.added) (λ (p : Part E). total h (own m p.number (added_since m key (m.entries lane)))) v.parts
      (Rattle.lane_lock.proofs.Counting.Each_map _ _ v.parts (λ p e. ap (total h) e) g.parts))

  -- no other view has a number
  alone : (s : State (Option L) (View L E X)) (r : IsRuled m key s) (id j n : ℕ) (v u : View L E X) → get_elem? s.views id ≡ some v → HasAll key v
      → get_elem? s.views j ≡ some u → j ≢ id → 0 < numbered n u.parts → ⊥
  alone s r id j n v u at all g ne some_list =
      let number = is_number m key s r j n u g (omega arith) in
      let mine = all n number in
      let beside = not_beside m key s r id j n v u at g ne (omega arith) in
      absurd (omega arith)

  numbers_of : (s : State (Option L) (View L E X)) (r : IsRuled m key s) (id : ℕ) (v : View L E X) → get_elem? s.views id ≡ some v → HasAll key v
      → (n : ℕ) → numbered n v.parts ≡ within 1 (suc key.seats) n
  numbers_of s r id v at all n =
      let its = total_at (has n) s.views id v at in
      let those = r.numbers n in
      let most = within_most 1 (suc key.seats) n in
      dite (dec_le 1 (within 1 (suc key.seats) n))
      (λ some_seat.
      let above = within_low 1 (suc key.seats) n some_seat in
      let below = within_high 1 (suc key.seats) n some_seat in
      let mine = all n (above, omega arith) in
      omega arith)
      (λ no_seat. omega arith)

  set_by : (s : State (Option L) (View L E X)) (r : IsRuled m key s) (id : ℕ) (v : View L E X) (x : X) → get_elem? s.views id ≡ some v → HasAll key v
      → IsSetBy m key s.views x → (m.ending key.put.value ≡ Some x) ⊎ IsIn x v.ends
  set_by s r id v x at all (inl e) = inl e
  set_by s r id v x at all (inr (j, u, n, g, some_list, is_in)) = dite (ℕ_discrete j id)
      (λ e. inr (subst (λ (z : View L E X). IsIn x z.ends) (some-injective u v (sym g ∙ (ap (get_elem? s.views) e ∙ at))) is_in))
      (λ ne. absurd (alone s r id j n v u at all g ne some_list))

  grown : ((a b : L) → m.later a b → m.opening b ≡ m.opening a) → (s : State (Option L) (View L E X)) (r : IsRuled m key s) (id : ℕ) (v : View L E X) (lane : L)
      → get_elem? s.views id ≡ some v → HasAll key v → IsAtHome m key r.now lane → IsGrown m key v lane
  grown opens s r id v lane at all home =
      let f = found_at_home m key opens r.turn r.now v lane (r.each id v at) r.stands home in
      record {
        later = f.later;
        opening = f.opening;
        entries = f.entries;
        seats = f.seats;
        numbers = numbers_of s r id v at all;
        parts = f.parts;
        at_home = f.at_home;
        seen = f.seen.0;
        kept = f.kept;
        set = λ x e. set_by s r id v x at all (r.set x (sym (ap (λ (z : Sight E X). z.ending) home.shows) ∙ e));
        found = f.seen.1;
        ends = f.ends;
      }

  at_close : ((a b : L) → m.later a b → m.opening b ≡ m.opening a) → (s : State (Option L) (View L E X)) (r : IsRuled m key s) (id : ℕ) (v : View L E X) (xs : List (Option L))
      → get_elem? s.views id ≡ some v → v.stage ≡ Resting → HasAll key v → ((k : ℕ) (y : Option L) → get_elem? s.homes k ≡ some (some y) → get_elem? xs k ≡ some y)
      → Slot m key r.turn r.now s → (lane : L) × (get_elem? xs 0 ≡ some (Some lane)) × IsGrown m key v lane
  at_close opens s r id v xs at idle all tell (inside lane homes home no_one) =
      (lane, tell 0 (Some lane) (ap (λ (l : List _). get_elem? l 0) homes), grown opens s r id v lane at all home)
  at_close opens s r id v xs at idle all tell (outside j u homes g holding) =
      let its : waits r.turn u ≡ 1 = ap (waits_at r.turn) holding ∙ same_here r.turn in
      let t = (r.each j u g).seated r.turn (omega arith) in
      absurd (alone s r id j t.0 v u at all g
      (λ e. rests v.stage r.turn idle (sym (ap (λ (z : View L E X). z.stage) (some-injective u v (sym g ∙ (ap (get_elem? s.views) e ∙ at)))) ∙ holding)) t.1)

  pub closes : ((a b : L) → m.later a b → m.opening b ≡ m.opening a) → (id : ℕ) (v : View L E X) (ws : List ℕ) (xs : List (Option L))
      → v.stage ≡ Resting → HasAll key v → Final (Seen (IsRuled m key) id v) ws xs → (lane : L) × (get_elem? xs 0 ≡ some (Some lane)) × IsGrown m key v lane
  closes opens id v ws xs idle all final = at_close opens final.0 final.1.0 id v xs final.1.1 idle all final.4 final.1.0.slot
