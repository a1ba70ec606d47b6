-- Drawing a ticket keeps the rule.
use Rattle.std.proofs.Common.{◌≡◌, ◌≢◌, ℕ, suc, ◌+◌, ◌<◌, ◌==◌, List, set, slice_index, slice_set, Option, refl, sym, ap, subst, ◌∙◌, ⊎_elim, arith}
use mathlib.Core.Option.{none, some}
use prog.Atomic.{either}
use lib.ListN.{get_elem?}
use Rattle.atomic_table.specs.Table.{State, Me, Act, keeps, Valid, stepped, carried_after, step, Allows}
use Rattle.atomic_table.proofs.Lists.{at_set, set_again, exchanged}
use Rattle.lane_lock.specs.declared.views.Key.{Key}
use Rattle.lane_lock.specs.declared.views.Sight.{Sight}
use Rattle.lane_lock.specs.declared.views.Stage.TheVariants.{Resting, Waiting}
use Rattle.lane_lock.specs.declared.views.View.{View}
use Rattle.lane_lock.specs.Numbers.{total, within}
use Rattle.lane_lock.specs.Meaning.{Meaning}
use Rattle.lane_lock.specs.Views.{waits, waits_at, has, numbered, staged}
use Rattle.lane_lock.specs.Rule.{Fits, IsRuled}
use Rattle.lane_lock.specs.Plays.{drawn}
use Rattle.lane_lock.proofs.Counting.{total_set, within_end}
use Rattle.lane_lock.proofs.Still.{rests, waits_still, same_state, set_still, slot_still}

module _ {L O E X : Type 0} (m : Meaning L O E X) (key : Key L) where
  fits_waiting : (turn t : ℕ) (now : Sight E X) (v : View L E X) → (n : ℕ) → 0 < numbered n v.parts → Fits m key turn now v → Fits m key turn now (staged (Waiting t) v)
  fits_waiting turn t now v n some_list f = record {
    named = f.named;
    seen = f.seen;
    also = f.also;
    parts = f.parts;
    ends = f.ends;
    spare = f.spare;
    holds = λ u e. absurd (waits_still (Waiting t) t u refl e);
    seated = λ u w. (n, some_list);
  }

  drew : (s : State (Option L) (View L E X)) (id : ℕ) (v : View L E X) (old new : ℕ) → IsRuled m key s → get_elem? s.views id ≡ some v → v.stage ≡ Resting
      → (n : ℕ) → 0 < numbered n v.parts → new ≡ old + 1 → new < 18446744073709551616 → slice_index s.words 0 ≡ old
      → IsRuled m key (record { words = slice_set s.words 0 new; homes = s.homes; views = set s.views id (staged (Waiting old) v) })
  drew s id v old new r at idle n some_list one small here =
      let w = staged (Waiting old) v in
      let first : r.next ≡ old = sym (ap (λ (l : List ℕ). slice_index l 0) r.words) ∙ here in
      let order = r.order in
      record {
        next = new;
        turn = r.turn;
        now = r.now;
        words = ap (λ (l : List ℕ). slice_set l 0 new) r.words;
        fits = small;
        order = omega arith;
        tickets = λ t.
            let change = total_set (waits t) s.views id v w at in
            let before = r.tickets t in
            let more = within_end r.turn old t (omega arith) in
            let none_before : waits t v ≡ 0 = ap (waits_at t) idle in
            let e : new ≡ suc old = omega arith in
            let q : within r.turn r.next t ≡ within r.turn old t = ap (λ k. within r.turn k t) first in
            subst (λ k. total (waits t) (set s.views id w) ≡ within r.turn k t) (sym e) (omega arith);
        numbers = λ k. let change = total_set (has k) s.views id v w at in let before = r.numbers k in omega arith;
        each = λ j u g. ⊎_elim (λ (p : (j ≡ id) × (w ≡ u)). subst (λ (z : View L E X). Fits m key r.turn r.now z) p.1 (fits_waiting r.turn old r.now v n some_list (r.each id v at)))
            (λ (p : (j ≢ id) × (get_elem? s.views j ≡ some u)). r.each j u p.1) (at_set s.views id j w u g);
        stands = r.stands;
        set = λ x e. set_still m key s.views id v w x at (λ k h. h) (λ h. h) (r.set x e);
        slot = slot_still m key r.turn r.now s id v w (slice_set s.words 0 new) at (λ t e. rests v.stage t idle e) (λ t e. waits_still (Waiting old) old t refl e) r.slot;
      }

  pub draws : (slots id : ℕ) (me : Me (Option L) (View L E X)) (old new : ℕ) → me.0.stage ≡ Resting → (n : ℕ) → 0 < numbered n me.0.parts
      → new ≡ old + 1 → new < 18446744073709551616
      → Allows (IsRuled m key) slots id me 0 (λ n. either (n == old) new n) (drawn (step slots 0 old new none) me)
  draws slots id me old new idle n some_list one small s r wide at fit =
      let found = slice_index s.words 0 in
      exchanged found old new
      (λ k. (w : View L E X) × (a : Act (Option L)) × Valid s.homes me.1 a × IsRuled m key (stepped s 0 k id me.1 w a) × drawn (step slots 0 old new none) me found (w, carried_after me.1 a))
      (λ hit. (
        staged (Waiting old) me.0,
        keeps,
        tt,
        drew s id me.0 old new r at idle n some_list one small hit,
        ((λ e. ap (λ k. (staged (Waiting k) me.0, me.1)) (sym hit)), (λ ne. absurd (ne hit))),
      ))
      (λ miss. (
        me.0,
        keeps,
        tt,
        same_state m key s _ _ r (ap (λ (l : List ℕ). slice_set l 0 (slice_index l 0)) r.words ∙ sym r.words) (set_again s.views id me.0 at),
        ((λ e. absurd (miss e)), (λ ne. refl)),
      ))
