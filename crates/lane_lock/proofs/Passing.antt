-- Putting the lane back and passing the turn keeps the rule.
use Rattle.std.proofs.Common.{◌≡◌, ◌≢◌, ℕ, suc, ◌+◌, ◌%◌, ◌^◌, ◌<◌, ◌≤◌, ◌⊎◌, true, List, [], ◌∷◌, ◌++◌, set, slice_index, slice_set, Option, Some, None, refl, sym, ap, subst, ◌∙◌, inl, inr, ⊎_elim, arith}
use Rattle.std.proofs.lemmas.List.{append-nil}
use mathlib.Core.Option.{none, some}
use lib.ListN.{get_elem?}
use Rattle.atomic_table.specs.Table.{State, Me, gives, put_back, step, Allows}
use Rattle.atomic_table.proofs.Lists.{at_set}
use Rattle.lane_lock.specs.declared.views.Key.{Key}
use Rattle.lane_lock.specs.declared.views.Part.{Part}
use Rattle.lane_lock.specs.declared.views.Sight.{Sight}
use Rattle.lane_lock.specs.declared.views.Stage.{Stage}
use Rattle.lane_lock.specs.declared.views.Stage.TheVariants.{Resting, Waiting, Holding}
use Rattle.lane_lock.specs.declared.views.View.{View}
use Rattle.lane_lock.specs.Numbers.{same, within, Each, IsIn, behind, Begins}
use Rattle.lane_lock.specs.Meaning.{Meaning, shown, own, IsNoEarlier}
use Rattle.lane_lock.specs.Views.{waits, waits_at, has, numbered, leader, left, is_holding, held_ticket, added_to_first, newly_set}
use Rattle.lane_lock.specs.Grown.{IsNumber, MayLeave, added_since}
use Rattle.lane_lock.specs.Rule.{Fits, Stands, Slot, inside, outside, IsSetBy, IsRuled}
use Rattle.lane_lock.specs.Plays.{passed}
use Rattle.lane_lock.proofs.Counting.{same_here, set_found, total_set, total_at, total_two, within_most, within_low, within_high, within_start, Each_map, Each_append}
use Rattle.lane_lock.proofs.Sights.{behind_chain, no_earlier_self, no_earlier_chain, own_append, own_none, own_all}
use Rattle.lane_lock.proofs.Still.{rests, set_still, only_holder}

pub holder : (stage : Stage) → is_holding stage ≡ true → stage ≡ Holding (held_ticket stage)
holder Resting e = cc
holder (Waiting t) e = cc
holder (Holding t) e = refl

next_turn : (t : ℕ) → t + 1 < 18446744073709551616 → (t + 1) % 18446744073709551616 ≡ suc t
next_turn t small = omega arith

module _ {A : Type 0} where
  pub is_in_left : (x : A) (l r : List A) → IsIn x l → IsIn x (l ++ r)
  is_in_left x [] r h = absurd h
  is_in_left x (y ∷ ys) r h = ⊎_elim (λ e. inl e) (λ k. inr (is_in_left x ys r k)) h

  pub is_in_right : (x : A) (l r : List A) → IsIn x r → IsIn x (l ++ r)
  is_in_right x [] r h = h
  is_in_right x (y ∷ ys) r h = inr (is_in_right x ys r h)

  newly_is : (a b : Option A) → Each (λ x. b ≡ Some x) (newly_set a b)
  newly_is (Some x) b = tt
  newly_is None None = tt
  newly_is None (Some x) = (refl, tt)

  newly_or : (a b : Option A) (x : A) → ((y : A) → a ≡ Some y → b ≡ Some y) → b ≡ Some x → (a ≡ Some x) ⊎ IsIn x (newly_set a b)
  newly_or (Some y) b x keeps_it e = inl (sym (keeps_it y refl) ∙ e)
  newly_or None None x keeps_it e = cc
  newly_or None (Some y) x keeps_it e = let same_end : y ≡ x = cc in inr (inl same_end)

module _ {E : Type 0} where
  pub led_number : (parts : List (Part E)) (n : ℕ) → leader parts ≡ Some n → 0 < numbered n parts
  led_number [] n e = cc
  led_number (p ∷ ps) n e = let same_number : p.number ≡ n = cc in let one : same n p.number ≡ 1 = ap (same n) same_number ∙ same_here n in omega arith

  numbered_added : (n : ℕ) (entries : List E) (parts : List (Part E)) → numbered n (added_to_first entries parts) ≡ numbered n parts
  numbered_added n entries [] = refl
  numbered_added n entries (p ∷ ps) = refl

module _ {L O E X : Type 0} (m : Meaning L O E X) (key : Key L) (n : ℕ) (before after : List E)
    (front : Begins (m.entries key.put.value) before) (goes : Begins before after) (by_own : Each (λ e. m.number_of e ≡ n) (behind before after)) where
  added_more : added_since m key after ≡ added_since m key before ++ behind before after
  added_more = behind_chain (m.entries key.put.value) before after front goes

  own_other : (k : ℕ) → k ≢ n → own m k (added_since m key after) ≡ own m k (added_since m key before)
  own_other k ne = ap (own m k) added_more ∙ (own_append m k (added_since m key before) (behind before after)
      ∙ (ap (λ l. own m k (added_since m key before) ++ l) (own_none m n k (behind before after) ne by_own) ∙ append-nil (own m k (added_since m key before))))

  own_longer : own m n (added_since m key after) ≡ own m n (added_since m key before) ++ behind before after
  own_longer = ap (own m n) added_more ∙ (own_append m n (added_since m key before) (behind before after)
      ∙ ap (λ l. own m n (added_since m key before) ++ l) (own_all m n (behind before after) by_own))

  parts_other : (parts : List (Part E)) → Each (λ p. p.added ≡ own m p.number (added_since m key before)) parts → numbered n parts ≡ 0
      → Each (λ p. p.added ≡ own m p.number (added_since m key after)) parts
  parts_other [] h none_of = tt
  parts_other (p ∷ ps) h none_of = (
    h.0 ∙ sym (own_other p.number (λ e. let one : same n p.number ≡ 1 = ap (same n) e ∙ same_here n in absurd (omega arith))),
    parts_other ps h.1 (omega arith),
  )

  parts_own : (parts : List (Part E)) → leader parts ≡ Some n → numbered n parts ≤ 1 → Each (λ p. p.added ≡ own m p.number (added_since m key before)) parts
      → Each (λ p. p.added ≡ own m p.number (added_since m key after)) (added_to_first (behind before after) parts)
  parts_own [] led few h = tt
  parts_own (p ∷ ps) led few h =
      let e : p.number ≡ n = cc in
      let one : same n p.number ≡ 1 = ap (same n) e ∙ same_here n in (
        ap (λ l. l ++ behind before after) (h.0 ∙ ap (λ k. own m k (added_since m key before)) e) ∙ (sym own_longer ∙ ap (λ k. own m k (added_since m key after)) (sym e)),
        parts_other ps h.1 (omega arith),
      )

module _ {L O E X : Type 0} (m : Meaning L O E X) (key : Key L) where
  -- another view, once this one has put the lane back
  fits_beside : (turn turn' n : ℕ) (now now' : Sight E X) (u : View L E X) → Stands m key now → IsNoEarlier now now' → Each (λ e. m.number_of e ≡ n) (behind now.entries now'.entries)
      → has n u ≡ 0 → ((t : ℕ) → u.stage ≡ Holding t → ⊥) → Fits m key turn now u → Fits m key turn' now' u
  fits_beside turn turn' n now now' u st goes by_own apart free f = record {
    named = f.named;
    seen = no_earlier_chain u.seen now now' f.seen goes;
    also = f.also;
    parts = parts_other m key n now.entries now'.entries st.front goes.0 by_own u.parts f.parts (omega arith);
    ends = Each_map (λ x. now.ending ≡ Some x) (λ x. now'.ending ≡ Some x) u.ends goes.1 f.ends;
    spare = λ k h. own_other m key n now.entries now'.entries st.front goes.0 by_own k
        (λ e. let there : 0 < within u.next u.past n = subst (λ (z : ℕ). 0 < within u.next u.past z) e h in absurd (omega arith)) ∙ f.spare k h;
    holds = λ t e. absurd (free t e);
    seated = f.seated;
  }

  -- the view that has put it back
  fits_left : (turn turn' n : ℕ) (v : View L E X) (now' : Sight E X) → Stands m key v.seen → IsNoEarlier v.seen now' → Each (λ e. m.number_of e ≡ n) (behind v.seen.entries now'.entries)
      → leader v.parts ≡ Some n → has n v ≤ 1 → Fits m key turn v.seen v → Fits m key turn' now' (left now' v)
  fits_left turn turn' n v now' st goes by_own led few f =
      let some_list = led_number v.parts n led in
      record {
        named = f.named;
        seen = no_earlier_self now';
        also = tt;
        parts = parts_own m key n v.seen.entries now'.entries st.front goes.0 by_own v.parts led (omega arith) f.parts;
        ends = Each_append (λ x. now'.ending ≡ Some x) v.ends (newly_set v.seen.ending now'.ending)
            (Each_map (λ x. v.seen.ending ≡ Some x) (λ x. now'.ending ≡ Some x) v.ends goes.1 f.ends) (newly_is v.seen.ending now'.ending);
        spare = λ k h. own_other m key n v.seen.entries now'.entries st.front goes.0 by_own k
            (λ e. let there : 0 < within v.next v.past n = subst (λ (z : ℕ). 0 < within v.next v.past z) e h in absurd (omega arith)) ∙ f.spare k h;
        holds = λ t e. absurd (rests Resting t refl e);
        seated = λ t h. absurd (omega arith);
      }

  stands_left : (n : ℕ) (now now' : Sight E X) → Stands m key now → IsNoEarlier now now' → Each (λ e. m.number_of e ≡ n) (behind now.entries now'.entries) → IsNumber key n → Stands m key now'
  stands_left n now now' st goes by_own number = record {
    front = Rattle.lane_lock.proofs.Sights.begins_chain (m.entries key.put.value) now.entries now'.entries st.front goes.0;
    seats = subst (λ (l : List E). Each (λ e. IsNumber key (m.number_of e)) l) (sym (added_more m key n now.entries now'.entries st.front goes.0 by_own))
        (Each_append (λ e. IsNumber key (m.number_of e)) (added_since m key now.entries) (behind now.entries now'.entries) st.seats
        (Each_map (λ e. m.number_of e ≡ n) (λ e. IsNumber key (m.number_of e)) (behind now.entries now'.entries) (λ e q. subst (λ (z : ℕ). IsNumber key z) (sym q) number) by_own));
    kept = λ x e. goes.1 x (st.kept x e);
  }

  set_left : (views : List (View L E X)) (id n : ℕ) (v : View L E X) (now' : Sight E X) (x : X) → get_elem? views id ≡ some v → leader v.parts ≡ Some n
      → ((y : X) → v.seen.ending ≡ Some y → now'.ending ≡ Some y) → ((y : X) → v.seen.ending ≡ Some y → IsSetBy m key views y) → now'.ending ≡ Some x
      → IsSetBy m key (set views id (left now' v)) x
  set_left views id n v now' x at led keeps_it was e = ⊎_elim
      (λ before. set_still m key views id v (left now' v) x at (λ k h. subst (λ (z : ℕ). 0 < z) (sym (numbered_added k (behind v.seen.entries now'.entries) v.parts)) h)
      (λ h. is_in_left x v.ends (newly_set v.seen.ending now'.ending) h) (was x before))
      (λ new. inr (
        id,
        left now' v,
        n,
        set_found views id v (left now' v) at,
        subst (λ (z : ℕ). 0 < z) (sym (numbered_added n (behind v.seen.entries now'.entries) v.parts)) (led_number v.parts n led),
        is_in_right x v.ends (newly_set v.seen.ending now'.ending) new,
      ))
      (newly_or v.seen.ending now'.ending x keeps_it e)

  -- the number of a view is the number of a seat, and it has it once
  pub is_number : (s : State (Option L) (View L E X)) (r : IsRuled m key s) (id n : ℕ) (v : View L E X) → get_elem? s.views id ≡ some v → 0 < has n v → IsNumber key n
  is_number s r id n v at some_list =
      let its = total_at (has n) s.views id v at in
      let all = r.numbers n in
      let there : 0 < within 1 (suc key.seats) n = omega arith in
      let above = within_low 1 (suc key.seats) n there in
      let below = within_high 1 (suc key.seats) n there in
      (above, omega arith)

  pub once : (s : State (Option L) (View L E X)) (r : IsRuled m key s) (id n : ℕ) (v : View L E X) → get_elem? s.views id ≡ some v → has n v ≤ 1
  once s r id n v at = let its = total_at (has n) s.views id v at in let all = r.numbers n in let most = within_most 1 (suc key.seats) n in omega arith

  pub not_beside : (s : State (Option L) (View L E X)) (r : IsRuled m key s) (id j n : ℕ) (v u : View L E X) → get_elem? s.views id ≡ some v → get_elem? s.views j ≡ some u → j ≢ id
      → 0 < has n v → has n u ≡ 0
  not_beside s r id j n v u at g ne some_list =
      let two = total_two (has n) s.views id j v u at g ne in
      let all = r.numbers n in
      let most = within_most 1 (suc key.seats) n in
      omega arith

  passed_on : (s : State (Option L) (View L E X)) (id n t : ℕ) (v : View L E X) (lane : L) (homes : List _) (r : IsRuled m key s) → get_elem? s.views id ≡ some v
      → v.stage ≡ Holding t → leader v.parts ≡ Some n → MayLeave m key v n lane → homes ≡ some (Some lane) ∷ []
      → IsRuled m key (record { words = slice_set s.words 1 ((slice_index s.words 1 + 1) % 18446744073709551616); homes = homes; views = set s.views id (left (shown m lane) v) })
  passed_on s id n t v lane homes r at holding led c homes_are =
      let w : View L E X = left (shown m lane) v in
      let held = (r.each id v at).holds t holding in
      let in_turn : v.stage ≡ Holding r.turn = holding ∙ ap Holding held.0 in
      let mine : waits r.turn v ≡ 1 = ap (waits_at r.turn) in_turn ∙ same_here r.turn in
      let saw : r.now ≡ v.seen = sym held.1 in
      let its = total_at (waits r.turn) s.views id v at in
      let live = r.tickets r.turn in
      let below : r.turn < r.next = within_high r.turn r.next r.turn (omega arith) in
      let small = r.fits in
      let next_is = next_turn r.turn (omega arith) in
      let some_list = led_number v.parts n led in
      let number : IsNumber key n = is_number s r id n v at (omega arith) in
      let goes : IsNoEarlier v.seen (shown m lane) = (c.entries, c.ending) in
      let st : Stands m key v.seen = subst (λ (z : Sight E X). Stands m key z) saw r.stands in
      record {
        next = r.next;
        turn = suc r.turn;
        now = shown m lane;
        words = ap (λ (l : List ℕ). slice_set l 1 ((slice_index l 1 + 1) % 18446744073709551616)) r.words ∙ ap (λ k. r.next ∷ k ∷ []) next_is;
        fits = r.fits;
        order = omega arith;
        tickets = λ k.
            let change = total_set (waits k) s.views id v w at in
            let were = r.tickets k in
            let less = within_start r.turn r.next k below in
            let had : waits k v ≡ same k r.turn = ap (waits_at k) in_turn in
            omega arith;
        numbers = λ k.
            let change = total_set (has k) s.views id v w at in
            let were = r.numbers k in
            let same_numbers = numbered_added k (behind v.seen.entries (m.entries lane)) v.parts in
            omega arith;
        each = λ j u g. ⊎_elim
            (λ (p : (j ≡ id) × (w ≡ u)). subst (λ (z : View L E X). Fits m key (suc r.turn) (shown m lane) z) p.1
            (fits_left r.turn (suc r.turn) n v (shown m lane) st goes c.by_own led (once s r id n v at) (subst (λ (z : Sight E X). Fits m key r.turn z v) saw (r.each id v at))))
            (λ (p : (j ≢ id) × (get_elem? s.views j ≡ some u)). fits_beside r.turn (suc r.turn) n v.seen (shown m lane) u st goes c.by_own
            (not_beside s r id j n v u at p.1 p.0 (omega arith))
            (λ k e. only_holder m key s r id j v u at mine p.1 (e ∙ ap Holding ((r.each j u p.1).holds k e).0) p.0)
            (subst (λ (z : Sight E X). Fits m key r.turn z u) saw (r.each j u p.1)))
            (at_set s.views id j w u g);
        stands = stands_left n v.seen (shown m lane) st goes c.by_own number;
        set = λ x e. set_left s.views id n v (shown m lane) x at led c.ending (λ y q. r.set y (ap (λ (z : Sight E X). z.ending) saw ∙ q)) e;
        slot = inside lane homes_are (record { shows = refl; later = c.later; at_home = c.at_home })
            (λ j k u g e. ⊎_elim (λ (p : (j ≡ id) × (w ≡ u)). rests Resting k refl (ap (λ (z : View L E X). z.stage) p.1 ∙ e))
            (λ (p : (j ≢ id) × (get_elem? s.views j ≡ some u)). only_holder m key s r id j v u at mine p.1 (e ∙ ap Holding ((r.each j u p.1).holds k e).0) p.0) (at_set s.views id j w u g));
      }

  out_homes : (s : State (Option L) (View L E X)) (r : IsRuled m key s) (id t : ℕ) (v : View L E X) → get_elem? s.views id ≡ some v → v.stage ≡ Holding t
      → Slot m key r.turn r.now s → s.homes ≡ none ∷ []
  out_homes s r id t v at holding (inside lane homes home no_one) = absurd (no_one id t v at holding)
  out_homes s r id t v at holding (outside j u homes g e) = homes

  same_lane : (lane other : L) (c : List (ℕ × Option L)) → c ≡ (0, Some lane) ∷ [] → c ≡ (0, Some other) ∷ [] → lane ≡ other
  same_lane lane other c e f = ap (lane_in lane) (sym e ∙ f)
    where
      lane_in : L → List (ℕ × Option L) → L
      lane_in d [] = d
      lane_in d ((k, None) ∷ l) = d
      lane_in d ((k, Some x) ∷ l) = x

  pub passes : (slots id n : ℕ) (me : Me (Option L) (View L E X)) (lane : L) → me.1 ≡ (0, Some lane) ∷ [] → is_holding me.0.stage ≡ true → leader me.0.parts ≡ Some n
      → MayLeave m key me.0 n lane
      → Allows (IsRuled m key) slots id me 1 (λ k. (k + 1) % 2 ^ 64) (passed m (step slots 1 1 0 none) me)
  passes slots id n me lane carried is_held led c s r wide at fit =
      let holding = holder me.0.stage is_held in
      let homes : put_back s.homes me.1 ≡ some (Some lane) ∷ [] =
      ap (λ c. put_back s.homes c) carried ∙ ap (λ (l : List _). slice_set l 0 (some (Some lane))) (out_homes s r id _ me.0 at holding r.slot) in (
        left (shown m lane) me.0,
        gives,
        tt,
        passed_on s id n _ me.0 lane (put_back s.homes me.1) r at holding led c homes,
        λ other e. ap (λ l. (left (shown m l) me.0, Rattle.atomic_table.specs.Table.rest me.1)) (same_lane lane other me.1 carried e)
            ∙ ap (λ c. (left (shown m other) me.0, Rattle.atomic_table.specs.Table.rest c)) e,
      )
