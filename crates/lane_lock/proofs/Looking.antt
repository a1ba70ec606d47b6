-- Looking whose turn it is keeps the rule, and gives the lane in one's own turn.
use Rattle.std.proofs.Common.{◌≡◌, ◌≢◌, ℕ, ◌<◌, List, [], ◌∷◌, set, slice_index, slice_set, Option, Some, refl, sym, ap, subst, ◌∙◌, ⊎_elim, arith}
use mathlib.Core.Logic.{dite}
use mathlib.Core.Option.{none, some, some-injective}
use native.Mathlib.Decide.{ℕ_discrete}
use lib.ListN.{get_elem?}
use Rattle.atomic_table.specs.Table.{State, Me, Act, keeps, takes, Valid, stepped, carried_after, step, Allows}
use Rattle.atomic_table.proofs.Lists.{at_set, set_again}
use Rattle.lane_lock.specs.declared.views.Key.{Key}
use Rattle.lane_lock.specs.declared.views.Sight.{Sight}
use Rattle.lane_lock.specs.declared.views.Stage.{Stage}
use Rattle.lane_lock.specs.declared.views.Stage.TheVariants.{Waiting, Holding}
use Rattle.lane_lock.specs.declared.views.View.{View}
use Rattle.lane_lock.specs.Meaning.{Meaning, shown}
use Rattle.lane_lock.specs.Views.{waits, waits_at, has, taken, staged}
use Rattle.lane_lock.specs.Grown.{IsFound}
use Rattle.lane_lock.specs.Rule.{Fits, IsAtHome, Slot, inside, outside, IsRuled}
use Rattle.lane_lock.specs.Plays.{looked}
use Rattle.lane_lock.proofs.Counting.{total_set, set_found, same_here}
use Rattle.lane_lock.proofs.Sights.{no_earlier_self}
use Rattle.lane_lock.proofs.Still.{waits_still, same_ticket, same_state, set_still, only_holder, found_at_home}

held_same : (t u : ℕ) → Holding t ≡ Holding u → u ≡ t
held_same t u e = cc

module _ {L O E X : Type 0} (m : Meaning L O E X) (key : Key L) where
  fits_taken : (turn t : ℕ) (now : Sight E X) (v : View L E X) → t ≡ turn → v.stage ≡ Waiting t → Fits m key turn now v → Fits m key turn now (taken t now v)
  fits_taken turn t now v here waiting f = record {
    named = f.named;
    seen = no_earlier_self now;
    also = tt;
    parts = f.parts;
    ends = f.ends;
    spare = f.spare;
    holds = λ u e. (held_same t u e ∙ here, refl);
    seated = λ u w. f.seated u (subst (λ n. 0 < n) (sym (ap (waits_at u) waiting)) w);
  }

  took : (s : State (Option L) (View L E X)) (id : ℕ) (v : View L E X) (t : ℕ) (lane : L) (r : IsRuled m key s) → get_elem? s.views id ≡ some v → v.stage ≡ Waiting t
      → t ≡ r.turn → s.homes ≡ some (Some lane) ∷ [] → IsAtHome m key r.now lane
      → IsRuled m key (record { words = slice_set s.words 1 (slice_index s.words 1); homes = slice_set s.homes 0 none; views = set s.views id (taken t (shown m lane) v) })
  took s id v t lane r at waiting here homes home =
      let w : View L E X = taken t (shown m lane) v in
      let w' : View L E X = taken t r.now v in
      let same_view : w' ≡ w = ap (λ (z : Sight E X). taken t z v) (sym home.shows) in
      let f = r.each id v at in
      record {
        next = r.next;
        turn = r.turn;
        now = r.now;
        words = ap (λ (l : List ℕ). slice_set l 1 (slice_index l 1)) r.words;
        fits = r.fits;
        order = r.order;
        tickets = λ k.
            let change = total_set (waits k) s.views id v w at in
            let before = r.tickets k in
            let same_before : waits k v ≡ waits k w = ap (waits_at k) waiting in
            omega arith;
        numbers = λ k. let change = total_set (has k) s.views id v w at in let before = r.numbers k in omega arith;
        each = λ j u g. ⊎_elim (λ (p : (j ≡ id) × (w ≡ u)). subst (λ (z : View L E X). Fits m key r.turn r.now z) (same_view ∙ p.1) (fits_taken r.turn t r.now v here waiting f))
            (λ (p : (j ≢ id) × (get_elem? s.views j ≡ some u)). r.each j u p.1) (at_set s.views id j w u g);
        stands = r.stands;
        set = λ x e. set_still m key s.views id v w x at (λ k h. h) (λ h. h) (r.set x e);
        slot = outside id w (ap (λ (l : List _). slice_set l 0 none) homes) (set_found s.views id v w at) (ap Holding here);
      }

  pub looks : ((a b : L) → m.later a b → m.opening b ≡ m.opening a) → (slots id : ℕ) (me : Me (Option L) (View L E X)) (ticket : ℕ) → me.0.stage ≡ Waiting ticket → me.1 ≡ []
      → Allows (IsRuled m key) slots id me 1 (λ n. n) (looked m (step slots 1 0 0 none) me)
  looks opens slots id me ticket waiting empty s r wide at fit = dite (ℕ_discrete r.turn ticket) its_turn not_yet
    where
      here : slice_index s.words 1 ≡ r.turn
      here = ap (λ (l : List ℕ). slice_index l 1) r.words

      Goal : Type 0
      Goal = (w : View L E X) × (a : Act (Option L)) × Valid s.homes me.1 a × IsRuled m key (stepped s 1 (slice_index s.words 1) id me.1 w a) × looked m (step slots 1 0 0 none) me (slice_index s.words 1) (w, carried_after me.1 a)

      not_yet : r.turn ≢ ticket → Goal
      not_yet ne = (
        me.0,
        keeps,
        tt,
        same_state m key s _ _ r (ap (λ (l : List ℕ). slice_set l 1 (slice_index l 1)) r.words ∙ sym r.words) (set_again s.views id me.0 at),
        λ t e. ((λ other. refl), (λ same. absurd (ne (sym here ∙ (same ∙ same_ticket t ticket (sym e ∙ waiting)))))),
      )

      take_it : r.turn ≡ ticket → Slot m key r.turn r.now s → Goal
      take_it e (outside j u homes g holding) = absurd (only_holder m key s r id j me.0 u at (ap (waits_at r.turn) (waiting ∙ ap Waiting (sym e)) ∙ same_here r.turn) g holding
          (λ same. waits_still u.stage ticket r.turn (ap (λ (z : View L E X). z.stage) (some-injective u me.0 (sym g ∙ (ap (get_elem? s.views) same ∙ at))) ∙ waiting) holding))
      take_it e (inside lane homes home no_one) = (
        taken ticket (shown m lane) me.0,
        takes 0 (Some lane),
        ap (λ (l : List _). get_elem? l 0) homes,
        took s id me.0 ticket lane r at waiting (sym e) homes home,
        λ t q.
            let same : t ≡ ticket = same_ticket t ticket (sym q ∙ waiting) in (
              (λ other. absurd (other (here ∙ (e ∙ sym same)))),
              (λ _. (
                lane,
                ap (λ k. (taken k (shown m lane) me.0, (0, Some lane) ∷ me.1)) (sym same) ∙ ap (λ c. (taken t (shown m lane) me.0, (0, Some lane) ∷ c)) empty,
                λ k named. subst (λ (z : Key L). IsFound m z me.0 lane) (sym ((r.each id me.0 at).named k named)) (found_at_home m key opens r.turn r.now me.0 lane (r.each id me.0 at) r.stands home),
              )),
            ),
      )

      its_turn : r.turn ≡ ticket → Goal
      its_turn e = take_it e r.slot

  -- what was found does not depend on the stage
  pub found_before : (stage : Stage) (v : View L E X) (lane : L) → IsFound m key (staged stage v) lane → IsFound m key v lane
  found_before stage v lane f = record {
    later = f.later;
    opening = f.opening;
    entries = f.entries;
    seats = f.seats;
    at_home = f.at_home;
    seen = f.seen;
    parts = f.parts;
    kept = f.kept;
    ends = f.ends;
  }
