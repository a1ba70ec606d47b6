-- What a step that changes one view leaves as it was.
use Rattle.std.proofs.Common.{◌≡◌, ◌≢◌, ℕ, ◌<◌, List, set, Option, sym, ap, subst, ◌∙◌, inl, inr, ⊎_elim, arith}
use mathlib.Core.Logic.{dite}
use mathlib.Core.Option.{some, some-injective}
use native.Mathlib.Decide.{ℕ_discrete}
use lib.ListN.{get_elem?}
use Rattle.atomic_table.specs.Table.{State}
use Rattle.atomic_table.proofs.Lists.{at_set, set_else}
use Rattle.lane_lock.specs.declared.views.Key.{Key}
use Rattle.lane_lock.specs.declared.views.Sight.{Sight}
use Rattle.lane_lock.specs.declared.views.Stage.{Stage}
use Rattle.lane_lock.specs.declared.views.Stage.TheVariants.{Resting, Waiting, Holding}
use Rattle.lane_lock.specs.declared.views.View.{View}
use Rattle.lane_lock.specs.Numbers.{IsIn}
use Rattle.lane_lock.specs.Meaning.{Meaning, shown}
use Rattle.lane_lock.specs.Views.{waits, waits_at, numbered}
use Rattle.lane_lock.specs.Grown.{IsFound}
use Rattle.lane_lock.specs.Rule.{Fits, Stands, IsAtHome, Slot, inside, outside, IsSetBy, IsRuled}
use Rattle.lane_lock.proofs.Counting.{same_here, set_found, total_two, within_most}

pub rests : (stage : Stage) (t : ℕ) → stage ≡ Resting → stage ≡ Holding t → ⊥
rests stage t e h = cc

pub waits_still : (stage : Stage) (u t : ℕ) → stage ≡ Waiting u → stage ≡ Holding t → ⊥
waits_still stage u t e h = cc

pub same_ticket : (t u : ℕ) → Waiting t ≡ Waiting u → t ≡ u
same_ticket t u e = cc

module _ {L O E X : Type 0} (m : Meaning L O E X) (key : Key L) where
  -- the same state, with words and views that are equal to those before
  pub same_state : (s : State (Option L) (View L E X)) (ws : List ℕ) (vs : List (View L E X)) → IsRuled m key s → ws ≡ s.words → vs ≡ s.views
      → IsRuled m key (record { words = ws; homes = s.homes; views = vs })
  same_state s ws vs r we ve =
      subst (λ (u : List (View L E X)). IsRuled m key (record { words = ws; homes = s.homes; views = u })) (sym ve)
      (subst (λ (w : List ℕ). IsRuled m key (record { words = w; homes = s.homes; views = s.views })) (sym we) r)

  -- an end that a view has set is set still, where the view that is changed keeps its numbers and its ends
  pub set_still : (views : List (View L E X)) (id : ℕ) (v w : View L E X) (x : X) → get_elem? views id ≡ some v
      → ((n : ℕ) → 0 < numbered n v.parts → 0 < numbered n w.parts) → (IsIn x v.ends → IsIn x w.ends) → IsSetBy m key views x → IsSetBy m key (set views id w) x
  set_still views id v w x at keeps_numbers keeps_ends (inl e) = inl e
  set_still views id v w x at keeps_numbers keeps_ends (inr (j, u, n, g, some_list, is_in)) = dite (ℕ_discrete j id)
      (λ e. let same_view : u ≡ v = some-injective u v (sym g ∙ (ap (get_elem? views) e ∙ at)) in
      inr (id, w, n, set_found views id v w at, keeps_numbers n (subst (λ (z : View L E X). 0 < numbered n z.parts) same_view some_list), keeps_ends (subst (λ (z : View L E X). IsIn x z.ends) same_view is_in)))
      (λ ne. inr (j, u, n, set_else views id j w ne ∙ g, some_list, is_in))

  -- the slot is where it was, where the view that is changed neither had the lane nor has it
  pub slot_still : (turn : ℕ) (now : Sight E X) (s : State (Option L) (View L E X)) (id : ℕ) (v w : View L E X) (ws : List ℕ) → get_elem? s.views id ≡ some v
      → ((t : ℕ) → v.stage ≡ Holding t → ⊥) → ((t : ℕ) → w.stage ≡ Holding t → ⊥)
      → Slot m key turn now s → Slot m key turn now (record { words = ws; homes = s.homes; views = set s.views id w })
  slot_still turn now s id v w ws at free free' (inside lane h home no_one) = inside lane h home
      (λ j t u g e. ⊎_elim (λ (p : (j ≡ id) × (w ≡ u)). free' t (ap (λ (z : View L E X). z.stage) p.1 ∙ e)) (λ (p : (j ≢ id) × (get_elem? s.views j ≡ some u)). no_one j t u p.1 e) (at_set s.views id j w u g))
  slot_still turn now s id v w ws at free free' (outside j u h g e) = dite (ℕ_discrete j id)
      (λ q. let same_view : u ≡ v = some-injective u v (sym g ∙ (ap (get_elem? s.views) q ∙ at)) in absurd (free turn (sym (ap (λ (z : View L E X). z.stage) same_view) ∙ e)))
      (λ ne. outside j u h (set_else s.views id j w ne ∙ g) e)

  -- where a view has the ticket of this turn, no other view has the lane
  pub only_holder : (s : State (Option L) (View L E X)) (r : IsRuled m key s) (id j : ℕ) (v u : View L E X) → get_elem? s.views id ≡ some v → waits r.turn v ≡ 1
      → get_elem? s.views j ≡ some u → u.stage ≡ Holding r.turn → j ≢ id → ⊥
  only_holder s r id j v u at mine g e ne =
      let two = total_two (waits r.turn) s.views id j v u at g ne in
      let its : waits r.turn u ≡ 1 = ap (waits_at r.turn) e ∙ same_here r.turn in
      let most = within_most r.turn r.next r.turn in
      let all = r.tickets r.turn in
      absurd (omega arith)

  -- what a seat finds at home
  pub found_at_home : ((a b : L) → m.later a b → m.opening b ≡ m.opening a) → (turn : ℕ) (now : Sight E X) (v : View L E X) (lane : L)
      → Fits m key turn now v → Stands m key now → IsAtHome m key now lane → IsFound m key v lane
  found_at_home opens turn now v lane f st home =
      let e = sym home.shows in
      let f' : Fits m key turn (shown m lane) v = subst (λ (z : Sight E X). Fits m key turn z v) e f in
      let st' : Stands m key (shown m lane) = subst (λ (z : Sight E X). Stands m key z) e st in
      record {
        later = home.later;
        opening = opens _ _ home.later;
        entries = st'.front;
        seats = st'.seats;
        at_home = home.at_home;
        seen = f'.seen;
        parts = f'.parts;
        kept = st'.kept;
        ends = f'.ends;
      }
