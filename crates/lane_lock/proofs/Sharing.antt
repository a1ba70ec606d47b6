-- Giving a number away, and making one seat of two, keep the rule. A seat then knows that it has seen what either had.
use Rattle.std.proofs.Common.{◌≡◌, ◌≢◌, ℕ, ◌<◌, ◌≤◌, Bool, true, false, leb, List, [], ◌∷◌, ◌++◌, length, set, slice_index, slice_set, if◌then◌else◌, Option, Some, None, refl, sym, ap, subst, ◌∙◌, inl, inr, ⊎_elim, arith}
use Rattle.std.proofs.lemmas.Bool.Decides.{nat_tests}
use mathlib.Core.Logic.{dite}
use mathlib.Core.Option.{none, some, some-injective}
use native.Mathlib.Decide.{ℕ_discrete}
use lib.ListN.{get_elem?}
use Rattle.atomic_table.specs.Table.{State, Me, keeps, step, Allows, Splits, Joins}
use Rattle.atomic_table.proofs.Lists.{at_set, at_snoc, at_longer, set_again, set_else}
use Rattle.lane_lock.specs.declared.views.Key.{Key}
use Rattle.lane_lock.specs.declared.views.Part.{Part}
use Rattle.lane_lock.specs.declared.views.Sight.{Sight}
use Rattle.lane_lock.specs.declared.views.Stage.TheVariants.{Resting, Holding}
use Rattle.lane_lock.specs.declared.views.View.{View}
use Rattle.lane_lock.specs.Numbers.{same, IsIn, Begins}
use Rattle.lane_lock.specs.Meaning.{Meaning, own, IsNoEarlier}
use Rattle.lane_lock.specs.Views.{waits, waits_at, has, numbered, giving, given, joined, spent, either_end, both_seen}
use Rattle.lane_lock.specs.Grown.{added_since}
use Rattle.lane_lock.specs.Rule.{Fits, Slot, inside, outside, IsSetBy, IsRuled}
use Rattle.lane_lock.specs.Plays.{learned}
use Rattle.lane_lock.proofs.Counting.{total_set, total_append, set_found, within_none, within_start, within_here, Each_append}
use Rattle.lane_lock.proofs.Sights.{begins_from, begins_self}
use Rattle.lane_lock.proofs.Still.{rests, same_state, set_still, slot_still}
use Rattle.lane_lock.proofs.Passing.{is_in_left, is_in_right}

module _ {A : Type 0} where
  shorter_begins : (ys xs a b : List A) → xs ++ a ≡ ys ++ b → length ys ≤ length xs → (c : List A) × (xs ≡ ys ++ c)
  shorter_begins [] xs a b e short = (xs, refl)
  shorter_begins (y ∷ ys) [] a b e short = absurd (omega arith)
  shorter_begins (y ∷ ys) (x ∷ xs) a b e short =
      let first : x ≡ y = cc in
      let others : xs ++ a ≡ ys ++ b = cc in
      let t = shorter_begins ys xs a b others (omega arith) in
      (t.0, ap (λ z. z ∷ xs) first ∙ ap (λ l. y ∷ l) t.1)

  begins_shorter : (xs ys zs : List A) → Begins xs zs → Begins ys zs → length ys ≤ length xs → Begins ys xs
  begins_shorter xs ys zs h k short = let t = shorter_begins ys xs _ _ (sym h ∙ k) short in begins_from ys xs t.0 t.1

  longer_by : (b : Bool) (xs ys zs : List A) → leb (length ys) (length xs) ≡ b → Begins xs zs → Begins ys zs
      → Begins (if b then xs else ys) zs × Begins xs (if b then xs else ys) × Begins ys (if b then xs else ys)
  longer_by true xs ys zs e h k = let short : length ys ≤ length xs = grind (arith, nat_tests) in (h, begins_self xs, begins_shorter xs ys zs h k short)
  longer_by false xs ys zs e h k = let short : length xs ≤ length ys = grind (arith, nat_tests) in (k, begins_shorter ys xs zs k h short, begins_self ys)

  second_end : (a b c : Option A) (y : A) → ((x : A) → a ≡ Some x → c ≡ Some x) → ((x : A) → b ≡ Some x → c ≡ Some x) → b ≡ Some y → either_end a b ≡ Some y
  second_end (Some x) b c y h k e = sym (h x refl) ∙ k y e
  second_end None b c y h k e = e

  first_end : (a b : Option A) (x : A) → a ≡ Some x → either_end a b ≡ Some x
  first_end (Some z) b x e = e
  first_end None b x e = cc

  either_is : (a b c : Option A) (x : A) → ((y : A) → a ≡ Some y → c ≡ Some y) → ((y : A) → b ≡ Some y → c ≡ Some y) → either_end a b ≡ Some x → c ≡ Some x
  either_is (Some z) b c x h k e = h x e
  either_is None b c x h k e = k x e

module _ {E X : Type 0} where
  -- what was seen in either is no later than what is there now, and no earlier than each
  both_fit : (a b now : Sight E X) → IsNoEarlier a now → IsNoEarlier b now
      → IsNoEarlier (both_seen a b) now × IsNoEarlier a (both_seen a b) × IsNoEarlier b (both_seen a b)
  both_fit a b now h k =
      let t = longer_by (leb (length b.entries) (length a.entries)) a.entries b.entries now.entries refl h.0 k.0 in (
        (t.0, λ x e. either_is a.ending b.ending now.ending x h.1 k.1 e),
        (t.1, λ x e. first_end a.ending b.ending x e),
        (t.2, λ x e. second_end a.ending b.ending now.ending x h.1 k.1 e),
      )

module _ {L O E X : Type 0} (m : Meaning L O E X) (key : Key L) where
  fits_giving : (turn : ℕ) (now : Sight E X) (v : View L E X) → v.next < v.past → Fits m key turn now v → Fits m key turn now (giving v)
  fits_giving turn now v some_left f = record {
    named = f.named;
    seen = f.seen;
    also = f.also;
    parts = f.parts;
    ends = f.ends;
    spare = λ n h. let more = within_start v.next v.past n some_left in f.spare n (omega arith);
    holds = f.holds;
    seated = f.seated;
  }

  fits_given : (turn : ℕ) (now : Sight E X) (v : View L E X) → v.next < v.past → Fits m key turn now v → Fits m key turn now (given v)
  fits_given turn now v some_left f = record {
    named = f.named;
    seen = f.seen;
    also = tt;
    parts = (sym (f.spare v.next (let here = within_here v.next v.past v.next (omega arith) some_left in omega arith)), tt);
    ends = tt;
    spare = λ n h. let no = within_none 0 0 n (omega arith) in absurd (omega arith);
    holds = λ t e. absurd (rests Resting t refl e);
    seated = λ t h. absurd (omega arith);
  }

  set_longer : (views more : List (View L E X)) (x : X) → IsSetBy m key views x → IsSetBy m key (views ++ more) x
  set_longer views more x (inl e) = inl e
  set_longer views more x (inr (j, u, n, g, some_list, is_in)) = inr (j, u, n, at_longer views more j u g, some_list, is_in)

  slot_longer : (turn : ℕ) (now : Sight E X) (s : State (Option L) (View L E X)) (u : View L E X) → ((t : ℕ) → u.stage ≡ Holding t → ⊥)
      → Slot m key turn now s → Slot m key turn now (record { words = s.words; homes = s.homes; views = s.views ++ u ∷ [] })
  slot_longer turn now s u free (inside lane h home no_one) = inside lane h home
      (λ j t z g e. ⊎_elim (λ was. no_one j t z was e) (λ (same_view : u ≡ z). free t (ap (λ (y : View L E X). y.stage) same_view ∙ e)) (at_snoc s.views u z j g))
  slot_longer turn now s u free (outside j z h g e) = outside j z h (at_longer s.views (u ∷ []) j z g) e

  pub splits : (id : ℕ) (v : View L E X) → v.stage ≡ Resting → v.next < v.past → Splits (IsRuled m key) id v (giving v) (given v)
  splits id v idle some_left s r at =
      let w : View L E X = giving v in
      let u : View L E X = given v in
      let vs : List (View L E X) = set s.views id w in
      let mid : State (Option L) (View L E X) = record { words = s.words; homes = s.homes; views = vs } in
      record {
        next = r.next;
        turn = r.turn;
        now = r.now;
        words = r.words;
        fits = r.fits;
        order = r.order;
        tickets = λ k. let change = total_set (waits k) s.views id v w at in let were = r.tickets k in let more = total_append (waits k) vs (u ∷ []) in omega arith;
        numbers = λ k.
            let change = total_set (has k) s.views id v w at in
            let were = r.numbers k in
            let more = total_append (has k) vs (u ∷ []) in
            let less = within_start v.next v.past k some_left in
            let no = within_none 0 0 k (omega arith) in
            omega arith;
        each = λ j z g. ⊎_elim
            (λ was. ⊎_elim (λ (p : (j ≡ id) × (w ≡ z)). subst (λ (y : View L E X). Fits m key r.turn r.now y) p.1 (fits_giving r.turn r.now v some_left (r.each id v at)))
            (λ (p : (j ≢ id) × (get_elem? s.views j ≡ some z)). r.each j z p.1) (at_set s.views id j w z was))
            (λ (p : u ≡ z). subst (λ (y : View L E X). Fits m key r.turn r.now y) p (fits_given r.turn r.now v some_left (r.each id v at)))
            (at_snoc vs u z j g);
        stands = r.stands;
        set = λ x e. set_longer vs (u ∷ []) x (set_still m key s.views id v w x at (λ k h. h) (λ h. h) (r.set x e));
        slot = slot_longer r.turn r.now mid u (λ t e. rests Resting t refl e)
            (slot_still m key r.turn r.now s id v w s.words at (λ t e. rests v.stage t idle e) (λ t e. rests v.stage t idle e) r.slot);
      }

  fits_spent : (turn : ℕ) (now : Sight E X) → Fits m key turn now spent
  fits_spent turn now = record {
    named = λ k e. cc;
    seen = (begins_from [] now.entries now.entries refl, λ x e. cc);
    also = tt;
    parts = tt;
    ends = tt;
    spare = λ n h. let no = within_none 0 0 n (omega arith) in absurd (omega arith);
    holds = λ t e. absurd (rests Resting t refl e);
    seated = λ t h. absurd (omega arith);
  }

  fits_joined : (turn : ℕ) (now : Sight E X) (v w : View L E X) → v.stage ≡ Resting → Fits m key turn now v → Fits m key turn now w → Fits m key turn now (joined v w)
  fits_joined turn now v w idle f g =
      let both = both_fit v.seen w.seen now f.seen g.seen in
      record {
        named = f.named;
        seen = both.0;
        also = (both.1, (both.2, tt));
        parts = Each_append (λ p. p.added ≡ own m p.number (added_since m key now.entries)) v.parts w.parts f.parts g.parts;
        ends = Each_append (λ x. now.ending ≡ Some x) v.ends w.ends f.ends g.ends;
        spare = f.spare;
        holds = λ t e. absurd (rests v.stage t idle e);
        seated = λ t h. let none_of : waits_at t v.stage ≡ 0 = ap (waits_at t) idle in absurd (omega arith);
      }

  set_joined : (views : List (View L E X)) (id other : ℕ) (v w : View L E X) (x : X) → get_elem? views id ≡ some v → get_elem? views other ≡ some w → other ≢ id
      → IsSetBy m key views x → IsSetBy m key (set (set views id (joined v w)) other spent) x
  set_joined views id other v w x at bt ne (inl e) = inl e
  set_joined views id other v w x at bt ne (inr (j, u, n, g, some_list, is_in)) = dite (ℕ_discrete j id)
      (λ e. let same_view : u ≡ v = some-injective u v (sym g ∙ (ap (get_elem? views) e ∙ at)) in
      let more = total_append (λ (p : Part E). same n p.number) v.parts w.parts in
      let has_it : 0 < numbered n v.parts = subst (λ (z : View L E X). 0 < numbered n z.parts) same_view some_list in
      inr (id, joined v w, n, here, omega arith, is_in_left x v.ends w.ends (subst (λ (z : View L E X). IsIn x z.ends) same_view is_in)))
      (λ not_id. dite (ℕ_discrete j other)
      (λ e. let same_view : u ≡ w = some-injective u w (sym g ∙ (ap (get_elem? views) e ∙ bt)) in
      let more = total_append (λ (p : Part E). same n p.number) v.parts w.parts in
      let has_it : 0 < numbered n w.parts = subst (λ (z : View L E X). 0 < numbered n z.parts) same_view some_list in
      inr (id, joined v w, n, here, omega arith, is_in_right x v.ends w.ends (subst (λ (z : View L E X). IsIn x z.ends) same_view is_in)))
      (λ not_other. inr (j, u, n, set_else (set views id (joined v w)) other j spent not_other ∙ (set_else views id j (joined v w) not_id ∙ g), some_list, is_in)))
    where
      here : get_elem? (set (set views id (joined v w)) other spent) id ≡ some (joined v w)
      here = set_else (set views id (joined v w)) other id spent (λ e. ne (sym e)) ∙ set_found views id v (joined v w) at

  pub joins : (id : ℕ) (v : View L E X) (other : ℕ) (w : View L E X) → v.stage ≡ Resting → w.stage ≡ Resting → w.past ≤ w.next
      → Joins (IsRuled m key) id v other w (joined v w) spent
  joins id v other w idle idle' settled s r at ne at' =
      let u : View L E X = joined v w in
      let vs : List (View L E X) = set s.views id u in
      let mid : State (Option L) (View L E X) = record { words = s.words; homes = s.homes; views = vs } in
      let bt : get_elem? s.views other ≡ some w = sym (set_else s.views id other u ne) ∙ at' in
      record {
        next = r.next;
        turn = r.turn;
        now = r.now;
        words = r.words;
        fits = r.fits;
        order = r.order;
        tickets = λ k.
            let one = total_set (waits k) s.views id v u at in
            let two = total_set (waits k) vs other w spent at' in
            let none_of : waits_at k w.stage ≡ 0 = ap (waits_at k) idle' in
            let were = r.tickets k in
            omega arith;
        numbers = λ k.
            let one = total_set (has k) s.views id v u at in
            let two = total_set (has k) vs other w spent at' in
            let more = total_append (λ (p : Part E). same k p.number) v.parts w.parts in
            let no = within_none w.next w.past k settled in
            let no' = within_none 0 0 k (omega arith) in
            let were = r.numbers k in
            omega arith;
        each = λ j z g. ⊎_elim
            (λ (p : (j ≡ other) × (spent ≡ z)). subst (λ (y : View L E X). Fits m key r.turn r.now y) p.1 (fits_spent r.turn r.now))
            (λ (q : (j ≢ other) × (get_elem? vs j ≡ some z)). ⊎_elim
            (λ (p : (j ≡ id) × (u ≡ z)). subst (λ (y : View L E X). Fits m key r.turn r.now y) p.1 (fits_joined r.turn r.now v w idle (r.each id v at) (r.each other w bt)))
            (λ (p : (j ≢ id) × (get_elem? s.views j ≡ some z)). r.each j z p.1)
            (at_set s.views id j u z q.1))
            (at_set vs other j spent z g);
        stands = r.stands;
        set = λ x e. set_joined s.views id other v w x at bt ne (r.set x e);
        slot = slot_still m key r.turn r.now mid other w spent s.words at' (λ t e. rests w.stage t idle' e) (λ t e. rests Resting t refl e)
            (slot_still m key r.turn r.now s id v u s.words at (λ t e. rests v.stage t idle e) (λ t e. rests v.stage t idle e) r.slot);
      }

  pub learns : (slots id : ℕ) (me : Me (Option L) (View L E X)) → Allows (IsRuled m key) slots id me 0 (λ n. n) (learned (step slots 0 0 0 none) me)
  learns slots id me s r wide at fit = (
    me.0,
    keeps,
    tt,
    same_state m key s _ _ r (ap (λ (l : List ℕ). slice_set l 0 (slice_index l 0)) r.words ∙ sym r.words) (set_again s.views id me.0 at),
    (refl, (r.each id me.0 at).also),
  )
