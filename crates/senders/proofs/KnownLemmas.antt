-- What a seat knows of its lane after a hold, and after another seat was joined into it.
use Rattle.std.proofs.Common.{◌≡◌, ◌≢◌, ◌⊎◌, inl, inr, ℕ, ◌+◌, ◌==◌, cond, Bool, Option, Some, None, List, [], ◌∷◌, ◌++◌, refl, sym, ◌∙◌, ap, subst, arith, append-nil, append_assoc, ⊎_elim, eq-eqb, ne_eqb}
use Rattle.disk_model.specs.Counts.{Counts}
use Rattle.disk_model.specs.Disk.{Meaning}
use Rattle.ota_core.specs.Entry.{by_of}
use Rattle.ota_core.specs.History.{IsLegal}
use Rattle.ota_core.specs.declared.entries.Entry.{Entry}
use Rattle.ota_core.specs.declared.jobs.Job.{Job}
use Rattle.site_model.specs.Port.{PortState}
use Rattle.world_core.specs.declared.lines.Line.{Line}
use Rattle.lane_lock.specs.declared.views.Key.{Key}
use Rattle.lane_lock.specs.declared.views.Part.{Part}
use Rattle.lane_lock.specs.declared.views.Sight.{Sight}
use Rattle.lane_lock.specs.Numbers.{same, total, Each, IsIn, behind}
use Rattle.lane_lock.specs.Meaning.{shown, IsNoEarlier}
use Rattle.lane_lock.specs.Views.{added_to_first, leader, left, taken, newly_set, numbered, weigh_parts, joined, both_seen}
use Rattle.lane_lock.specs.Grown.{IsFound, MayLeave}
use Rattle.lane_lock.proofs.Counting.{total_append, Each_append, Each_map}
use Rattle.lane_lock.proofs.Sights.{behind_from, begins_from, begins_self, begins_chain, no_earlier_chain, no_earlier_self}
use Rattle.lane_engine.specs.Keeping.{lane_meaning}
use Rattle.lane_engine.specs.KeepingLaws.{later_chain}
use Rattle.lane_engine.specs.LaneValue.{LaneValue}
use Rattle.lane_engine.specs.declared.answers.LaneErr.{LaneErr}
use Rattle.senders.specs.Pieces.{jobs_at}
use Rattle.senders.specs.Served.{weigh_entry, with_lost, IsMadeFor, IsReservationFor, IsRefusedBy, IsNeedOf, IsServed, EndsByPoll, EndsBefore}
use Rattle.senders.specs.Desks.{weigh_at, LaneView, WasRefused, IsUndone, IsSetFor, IsKnown, Follows}
use Rattle.senders.specs.declared.pieces.Work.{Work}

none_some : {A : Type 0} (x : A) → None ≡ Some x → ⊥
none_some x e = cc

-- ---- members

module _ {A : Type 0} where
  pub in_left : (x : A) (xs ys : List A) → IsIn x xs → IsIn x (xs ++ ys)
  in_left x [] ys there = absurd there
  in_left x (y ∷ xs) ys (inl e) = inl e
  in_left x (y ∷ xs) ys (inr there) = inr (in_left x xs ys there)

  pub in_right : (x : A) (xs ys : List A) → IsIn x ys → IsIn x (xs ++ ys)
  in_right x [] ys there = there
  in_right x (y ∷ xs) ys there = inr (in_right x xs ys there)

  pub in_either : (x : A) (xs ys : List A) → IsIn x (xs ++ ys) → IsIn x xs ⊎ IsIn x ys
  in_either x [] ys there = inr there
  in_either x (y ∷ xs) ys (inl e) = inl (inl e)
  in_either x (y ∷ xs) ys (inr there) = ⊎_elim (λ l. inl (inr l)) (λ r. inr r) (in_either x xs ys there)

  not_nil : (xs : List A) (x : A) → xs ++ x ∷ [] ≡ [] → ⊥
  not_nil [] x e = cc
  not_nil (y ∷ ys) x e = cc

  both_nil : (xs ys : List A) → xs ++ ys ≡ [] → (xs ≡ []) × (ys ≡ [])
  both_nil [] ys e = (refl, e)
  both_nil (x ∷ xs) ys e = absurd (clash e)
    where
      clash : x ∷ (xs ++ ys) ≡ [] → ⊥
      clash h = cc

-- ---- jobs of a lane's pieces

pub jobs_more : (place : ℕ) (xs ys : List Work) → jobs_at place (xs ++ ys) ≡ jobs_at place xs ++ jobs_at place ys
jobs_more place [] ys = refl
jobs_more place (work ∷ xs) ys =
    let own = cond (work.lane == place) work.jobs [] in
    ap (λ l. own ++ l) (jobs_more place xs ys) ∙ sym (append_assoc own (jobs_at place xs) (jobs_at place ys))

-- the jobs of a piece are among those of its lane
pub jobs_here : (place : ℕ) (work : Work) (works : List Work) → IsIn work works → work.lane ≡ place → (job : Job) → IsIn job work.jobs → IsIn job (jobs_at place works)
jobs_here place work [] found at job there = absurd found
jobs_here place work (other ∷ works) (inl e) at job there =
    in_left job (cond (other.lane == place) other.jobs []) (jobs_at place works)
    (subst (λ (b : Bool). IsIn job (cond b other.jobs [])) (sym (eq-eqb other.lane place (ap (λ (w : Work). w.lane) e ∙ at))) (subst (λ (w : Work). IsIn job w.jobs) (sym e) there))
jobs_here place work (other ∷ works) (inr rest) at job there =
    in_right job (cond (other.lane == place) other.jobs []) (jobs_at place works) (jobs_here place work works rest at job there)

pub made_among : (name : List ℕ) (jobs more : List Job) → ((job : Job) → IsIn job jobs → IsIn job more) → (entry : Entry) → IsMadeFor name jobs entry → IsMadeFor name more entry
made_among name jobs more among entry (inl settles) = inl settles
made_among name jobs more among entry (inr reserves) = inr (record {
  job = reserves.job;
  is_there = among reserves.job reserves.is_there;
  by = reserves.by;
  moment = reserves.moment;
  counter = reserves.counter;
  is = reserves.is;
})

pub made_all_among : (name : List ℕ) (jobs more : List Job) → ((job : Job) → IsIn job jobs → IsIn job more) → (entries : List Entry) → Each (IsMadeFor name jobs) entries → Each (IsMadeFor name more) entries
made_all_among name jobs more among entries made = Each_map (IsMadeFor name jobs) (IsMadeFor name more) entries (made_among name jobs more among) made

-- ---- the lists of a seat

module _ {E : Type 0} where
  pub weigh_first : (h : E → ℕ) (es : List E) (parts : List (Part E)) (n : ℕ) → leader parts ≡ Some n
      → weigh_parts h (added_to_first es parts) ≡ weigh_parts h parts + total h es
  weigh_first h es [] n led = cc
  weigh_first h es (p ∷ ps) n led = let a = total_append h p.added es in omega (arith, a)

  pub numbered_first : (n : ℕ) (es : List E) (parts : List (Part E)) → numbered n (added_to_first es parts) ≡ numbered n parts
  numbered_first n es [] = refl
  numbered_first n es (p ∷ ps) = refl

  pub each_first : (P : E → Type 0) (es : List E) (parts : List (Part E)) → Each P es → Each (λ p. Each P p.added) parts → Each (λ p. Each P p.added) (added_to_first es parts)
  each_first P es [] new old = tt
  each_first P es (p ∷ ps) new old = (Each_append P p.added es old.0 new, old.1)

-- ---- ends and weights

pub set_among : (place : ℕ) (name : List ℕ) (undone more : List Work) → ((work : Work) → IsIn work undone → IsIn work more) → (end : LaneErr)
    → IsSetFor place name undone end → IsSetFor place name more end
set_among place name undone more among end set len need is = ⊎_elim (λ longest. inl longest) (λ w. inr (w.0, among w.0 w.1, w.2, w.3)) (set len need is)

-- a piece weighs what its jobs weigh at its lane, and nothing elsewhere
pub weigh_here : (place : ℕ) (h : Job → ℕ) (work : Work) → work.lane ≡ place → weigh_at place h work ≡ total h work.jobs
weigh_here place h work at = ap (λ (b : Bool). cond b (total h work.jobs) 0) (eq-eqb work.lane place at)

pub weigh_elsewhere : (place : ℕ) (h : Job → ℕ) (work : Work) → work.lane ≢ place → weigh_at place h work ≡ 0
weigh_elsewhere place h work apart = ap (λ (b : Bool). cond b (total h work.jobs) 0) (ne_eqb work.lane place apart)

pub weigh_last : (place : ℕ) (h : Job → ℕ) (works : List Work) (work : Work) → total (weigh_at place h) (works ++ work ∷ []) ≡ total (weigh_at place h) works + weigh_at place h work
weigh_last place h works work = let a = total_append (weigh_at place h) works (work ∷ []) in omega (arith, a)

-- ---- the knowledge of a seat

module _ {D : Type 0} (put : LaneValue D) where
  pub refused_later : (v w : LaneView D) (work : Work) → IsNoEarlier v.seen w.seen → WasRefused put v work → WasRefused put w work
  refused_later v w work later was = record {
    seen = was.seen;
    since = was.since;
    before = begins_chain was.seen v.seen.entries w.seen.entries was.before later.0;
    legal = was.legal;
    refusal = was.refusal;
    refused = was.refused;
  }

  -- what is undone stays undone as more is seen
  pub undone_later : (v w : LaneView D) (work : Work) → IsNoEarlier v.seen w.seen → IsUndone put v work → IsUndone put w work
  undone_later v w work later (inl (end, is)) = inl (end, later.1 end is)
  undone_later v w work later (inr was) = inr (refused_later v w work later was)

  -- a piece of another lane changes nothing of what is known
  pub known_beside : (place : ℕ) (taken undone after : List Work) (work : Work) (v : LaneView D) → work.lane ≢ place → Follows undone work after
      → IsKnown place put taken undone v → IsKnown place put (taken ++ work ∷ []) after v
  known_beside place taken undone after work v apart follows known = record {
    weighs = λ h.
        let a = weigh_last place h taken work in
        let b = weigh_elsewhere place h work apart in
        let c = undone_weighs h follows in
        let k = known.weighs h in
        omega (arith, a, b, c, k);
    made = Each_map (λ (p : Part Entry). Each (IsMadeFor put.name (jobs_at place taken)) p.added) (λ (p : Part Entry). Each (IsMadeFor put.name (jobs_at place (taken ++ work ∷ []))) p.added) v.parts
        (λ p made. made_all_among put.name (jobs_at place taken) (jobs_at place (taken ++ work ∷ []))
        (λ job there. subst (IsIn job) (sym (jobs_more place taken (work ∷ []))) (in_left job (jobs_at place taken) (jobs_at place (work ∷ [])) there)) p.added made)
        known.made;
    reasons = λ other there at. was other there at follows;
    ends = Each_map (IsSetFor place put.name undone) (IsSetFor place put.name after) v.ends (set_among place put.name undone after (λ w there. stays w there follows)) known.ends;
    idle = λ none. absurd (not_nil taken work none);
  }
    where
      undone_weighs : (h : Job → ℕ) → Follows undone work after → total (weigh_at place h) after ≡ total (weigh_at place h) undone
      undone_weighs h (inl same) = ap (total (weigh_at place h)) same
      undone_weighs h (inr more) =
          let a = ap (total (weigh_at place h)) more ∙ weigh_last place h undone work in
          let b = weigh_elsewhere place h work apart in
          omega (arith, a, b)

      stays : (w : Work) → IsIn w undone → Follows undone work after → IsIn w after
      stays w there (inl same) = subst (IsIn w) (sym same) there
      stays w there (inr more) = subst (IsIn w) (sym more) (in_left w undone (work ∷ []) there)

      was : (other : Work) → IsIn other after → other.lane ≡ place → Follows undone work after → IsUndone put v other
      was other there at (inl same) = known.reasons other (subst (IsIn other) same there) at
      was other there at (inr more) = ⊎_elim
          (λ before. known.reasons other before at)
          (λ last. ⊎_elim (λ e. absurd (apart (ap (λ (w : Work). w.lane) e ∙ at))) (λ no. absurd no) last)
          (in_either other undone (work ∷ []) (subst (IsIn other) more there))

-- ---- a hold of the seat's own lane

-- what is known after it of the pieces: which weren't served, and whether this one was refused
pub record IsHeldBy {D : Type 0} (place : ℕ) (put : LaneValue D) (taken undone : List Work) (work : Work) (before v : LaneView D) (refused : Option LaneErr) : Type 0 where
  pub after : List Work
  pub follows : Follows undone work after
  pub later : IsNoEarlier before.seen v.seen
  pub known : IsKnown place put (taken ++ work ∷ []) after v
  pub refusal : (error : LaneErr) → refused ≡ Some error → IsIn work after × WasRefused put v work

module _ {D B C : Type 0} (told : Meaning D B C) (counts : D → Counts) (port : B → PortState) (lines : C → ℕ → List Line) (key : Key (LaneValue D)) (ticket number : ℕ)
    (place : ℕ) (taken_so undone : List Work) (work : Work) (at : work.lane ≡ place) (v : LaneView D) (found : LaneValue D) (led : leader v.parts ≡ Some number)
    (legal : IsLegal found.journal.entries)
    (was : IsFound (lane_meaning told counts port lines) key v found) (known : IsKnown place key.put.value taken_so undone v) where
  abbrev put : LaneValue D
  put = key.put.value

  named : found.name ≡ put.name
  named = was.later.name

  abbrev sight : LaneValue D → Sight Entry LaneErr
  sight lane = shown (lane_meaning told counts port lines) lane

  abbrev after_hold : LaneValue D → LaneView D
  after_hold new = left (sight new) (taken ticket (sight found) v)

  pub same_parts : (n : ℕ) (new : LaneValue D) → numbered n (after_hold new).parts ≡ numbered n v.parts
  same_parts n new = numbered_first n (behind (with_lost found) (with_lost new)) v.parts

  known_after : (new : LaneValue D) (added : List Entry) (after : List Work) → with_lost new ≡ with_lost found ++ added → Each (IsMadeFor put.name work.jobs) added
      → ((h : Job → ℕ) → total (weigh_entry h) added + total (weigh_at place h) after ≡ total (weigh_at place h) undone + weigh_at place h work)
      → Follows undone work after → IsUndone put (after_hold new) work ⊎ (after ≡ undone) → IsNoEarlier (sight found) (sight new)
      → Each (IsSetFor place put.name after) (newly_set found.end new.end) → IsKnown place put (taken_so ++ work ∷ []) after (after_hold new)
  known_after new added after longer made weigh follows why later sets = record {
    weighs = λ h.
        let es = behind_from (with_lost found) (with_lost new) added longer in
        let a = ap (λ (l : List Entry). weigh_parts (weigh_entry h) (added_to_first l v.parts)) es ∙ weigh_first (weigh_entry h) added v.parts number led in
        let b = weigh h in
        let c = known.weighs h in
        let d = weigh_last place h taken_so work in
        omega (arith, a, b, c, d);
    made = subst (λ (l : List Entry). Each (λ (p : Part Entry). Each (IsMadeFor put.name (jobs_at place (taken_so ++ work ∷ []))) p.added) (added_to_first l v.parts))
        (sym (behind_from (with_lost found) (with_lost new) added longer))
        (each_first (IsMadeFor put.name (jobs_at place (taken_so ++ work ∷ []))) added v.parts
        (made_all_among put.name work.jobs (jobs_at place (taken_so ++ work ∷ [])) (jobs_here place work (taken_so ++ work ∷ []) (in_right work taken_so (work ∷ []) (inl refl)) at) added made)
        (Each_map (λ (p : Part Entry). Each (IsMadeFor put.name (jobs_at place taken_so)) p.added) (λ (p : Part Entry). Each (IsMadeFor put.name (jobs_at place (taken_so ++ work ∷ []))) p.added) v.parts
        (λ p own. made_all_among put.name (jobs_at place taken_so) (jobs_at place (taken_so ++ work ∷ []))
        (λ job there. subst (IsIn job) (sym (jobs_more place taken_so (work ∷ []))) (in_left job (jobs_at place taken_so) (jobs_at place (work ∷ [])) there)) p.added own)
        known.made));
    reasons = λ other there here. reason other there here follows why;
    ends = Each_append (IsSetFor place put.name after) v.ends (newly_set found.end new.end)
        (Each_map (IsSetFor place put.name undone) (IsSetFor place put.name after) v.ends (set_among place put.name undone after (λ w there. stays w there follows)) known.ends) sets;
    idle = λ none. absurd (not_nil taken_so work none);
  }
    where
      seen : IsNoEarlier v.seen (sight new)
      seen = no_earlier_chain v.seen (sight found) (sight new) was.seen later

      stays : (w : Work) → IsIn w undone → Follows undone work after → IsIn w after
      stays w there (inl same) = subst (IsIn w) (sym same) there
      stays w there (inr more) = subst (IsIn w) (sym more) (in_left w undone (work ∷ []) there)

      before : (other : Work) → IsIn other undone → other.lane ≡ place → IsUndone put (after_hold new) other
      before other there here = undone_later put v (after_hold new) other seen (known.reasons other there here)

      last : (other : Work) → IsIn other (undone ++ work ∷ []) → other.lane ≡ place → IsUndone put (after_hold new) work → IsUndone put (after_hold new) other
      last other there here own = ⊎_elim
          (λ old. before other old here)
          (λ one. ⊎_elim (λ e. subst (IsUndone put (after_hold new)) e own) (λ no. absurd no) one)
          (in_either other undone (work ∷ []) there)

      reason : (other : Work) → IsIn other after → other.lane ≡ place → Follows undone work after → IsUndone put (after_hold new) work ⊎ (after ≡ undone) → IsUndone put (after_hold new) other
      reason other there here (inl same) why = before other (subst (IsIn other) same there) here
      reason other there here (inr more) (inl own) = last other (subst (IsIn other) more there) here own
      reason other there here (inr more) (inr same) = before other (subst (IsIn other) same there) here

  -- a lane that has an end is left as it was
  pub held_ended : (end : LaneErr) → found.end ≡ Some end → IsHeldBy place put taken_so undone work v (after_hold found) None
  held_ended end is = record {
    after = undone ++ work ∷ [];
    follows = inr refl;
    later = was.seen;
    known = known_after found [] (undone ++ work ∷ []) (sym (append-nil (with_lost found))) tt
        (λ h. let a = weigh_last place h undone work in omega (arith, a)) (inr refl) (inl (inl (end, is))) (no_earlier_self (sight found))
        (subst (λ (o : Option LaneErr). Each (IsSetFor place put.name (undone ++ work ∷ [])) (newly_set o o)) (sym is) tt);
    refusal = λ error none. absurd (none_some error none);
  }

  module _ (pace by : ℕ) (new : LaneValue D) (refused : Option LaneErr) (no_end : found.end ≡ None) (no_lost : found.lost ≡ []) (served : IsServed told counts port lines pace by work.jobs found new refused) where
    later : IsNoEarlier (sight found) (sight new)
    later = (begins_from (with_lost found) (with_lost new) served.added served.entries, λ x e. absurd (none_some x (sym no_end ∙ e)))
      where
        none_some : (x : LaneErr) → None ≡ Some x → ⊥
        none_some x e = cc

    made : Each (IsMadeFor put.name work.jobs) served.added
    made = subst (λ (n : List ℕ). Each (IsMadeFor n work.jobs) served.added) named served.made

    -- the ends that were set
    set_new : (after : List Work) (end : Option LaneErr) → ((x : LaneErr) → end ≡ Some x → IsSetFor place put.name after x) → Each (IsSetFor place put.name after) (newly_set found.end end)
    set_new after end sets = subst (λ (o : Option LaneErr). Each (IsSetFor place put.name after) (newly_set o end)) (sym no_end) (by_end end sets)
      where
        by_end : (e : Option LaneErr) → ((x : LaneErr) → e ≡ Some x → IsSetFor place put.name after x) → Each (IsSetFor place put.name after) (newly_set None e)
        by_end None sets = tt
        by_end (Some x) sets = (sets x refl, tt)

    pub held_served : IsHeldBy place put taken_so undone work v (after_hold new) refused
    held_served = by_outcome served.outcome
      where
        nothing : (h : Job → ℕ) → served.added ≡ [] → total (weigh_entry h) served.added ≡ 0
        nothing h none = ap (total (weigh_entry h)) none

        no_refusal : refused ≡ None → (error : LaneErr) → refused ≡ Some error → IsIn work undone × WasRefused put (after_hold new) work
        no_refusal none error is = absurd (clash error (sym none ∙ is))
          where
            clash : (x : LaneErr) → None ≡ Some x → ⊥
            clash x e = cc

        no_refusal' : refused ≡ None → (error : LaneErr) → refused ≡ Some error → IsIn work (undone ++ work ∷ []) × WasRefused put (after_hold new) work
        no_refusal' none error is = absurd (clash error (sym none ∙ is))
          where
            clash : (x : LaneErr) → None ≡ Some x → ⊥
            clash x e = cc

        refused_now : (error : LaneErr) → IsRefusedBy (with_lost found) work.jobs error → WasRefused put (after_hold new) work
        refused_now error why = record { seen = with_lost found; since = was.entries; before = later.0; legal = legal_whole; refusal = error; refused = why }
          where
            legal_whole : IsLegal (with_lost found)
            legal_whole = subst IsLegal (sym (ap (λ (l : List Entry). found.journal.entries ++ l) no_lost ∙ append-nil found.journal.entries)) legal

        there : IsIn work (undone ++ work ∷ [])
        there = in_right work undone (work ∷ []) (inl refl)

        by_outcome : Rattle.senders.specs.Served.Outcome work.jobs found new served.added refused → IsHeldBy place put taken_so undone work v (after_hold new) refused
        by_outcome (inl (none, by_poll, weigh)) = record {
          after = undone;
          follows = inl refl;
          later = no_earlier_chain v.seen (sight found) (sight new) was.seen later;
          known = known_after new served.added undone served.entries made
              (λ h. let a = weigh h in let b = weigh_here place h work at in omega (arith, a, b)) (inl refl) (inr refl) later
              (set_new undone new.end (λ x is len need e. inl (by_poll len need (is ∙ ap Some e))));
          refusal = no_refusal none;
        }
        by_outcome (inr (inl (none, nil, before, (end, is_end)))) = record {
          after = undone ++ work ∷ [];
          follows = inr refl;
          later = no_earlier_chain v.seen (sight found) (sight new) was.seen later;
          known = known_after new served.added (undone ++ work ∷ []) served.entries made
              (λ h. let a = nothing h nil in let b = weigh_last place h undone work in omega (arith, a, b)) (inr refl) (inl (inl (end, is_end))) later
              (set_new (undone ++ work ∷ []) new.end (λ x is len need e. ⊎_elim (λ longest. inl longest)
              (λ need_of. inr (work, there, at, subst (λ (n : List ℕ). IsNeedOf n work.jobs need) named need_of)) (before len need (is ∙ ap Some e))));
          refusal = no_refusal' none;
        }
        by_outcome (inr (inr (nil, no_new_end, (error, is, refusal)))) = record {
          after = undone ++ work ∷ [];
          follows = inr refl;
          later = no_earlier_chain v.seen (sight found) (sight new) was.seen later;
          known = known_after new served.added (undone ++ work ∷ []) served.entries made
              (λ h. let a = nothing h nil in let b = weigh_last place h undone work in omega (arith, a, b)) (inr refl)
              (inl (inr (refused_now error refusal))) later
              (set_new (undone ++ work ∷ []) new.end (λ x is_some. absurd (clash x (sym no_new_end ∙ is_some))));
          refusal = λ other is'. (there, refused_now error refusal);
        }
          where
            clash : (x : LaneErr) → None ≡ Some x → ⊥
            clash x e = cc

  -- whether the lane had an end or not
  pub held : (by : ℕ) (new : LaneValue D) (refused : Option LaneErr) → ((end : LaneErr) → found.end ≡ Some end → (new ≡ found) × (refused ≡ None))
      → (found.end ≡ None → (found.lost ≡ []) × IsServed told counts port lines key.pace by work.jobs found new refused) → IsHeldBy place put taken_so undone work v (after_hold new) refused
  held by new refused ended served = by_end found.end refl
    where
      by_end : (end : Option LaneErr) → found.end ≡ end → IsHeldBy place put taken_so undone work v (after_hold new) refused
      by_end None is = held_served key.pace by new refused is (served is).0 (served is).1
      by_end (Some end) is =
          subst (λ (r : Option LaneErr). IsHeldBy place put taken_so undone work v (after_hold new) r) (sym (ended end is).1)
          (subst (λ (l : LaneValue D). IsHeldBy place put taken_so undone work v (after_hold l) None) (sym (ended end is).0) (held_ended end is))

-- ---- how a lane is put back after a hold

module _ {D B C : Type 0} (told : Meaning D B C) (counts : D → Counts) (port : B → PortState) (lines : C → ℕ → List Line) (key : Key (LaneValue D)) (ticket number : ℕ)
    (v : LaneView D) (found : LaneValue D) (was : IsFound (lane_meaning told counts port lines) key v found) where
  abbrev Leaves : LaneValue D → Type 0
  Leaves new = MayLeave (lane_meaning told counts port lines) key (taken ticket (shown (lane_meaning told counts port lines) found) v) number new

  leaves_same : Leaves found
  leaves_same = record {
    later = was.later;
    entries = begins_self (with_lost found);
    by_own = subst (λ (l : List Entry). Each (λ entry. by_of entry ≡ number) l) (sym (behind_from (with_lost found) (with_lost found) [] (sym (append-nil (with_lost found))))) tt;
    ending = λ x is. is;
    at_home = was.at_home;
  }

  leaves_served : (by : ℕ) (jobs : List Job) (new : LaneValue D) (refused : Option LaneErr) → found.end ≡ None → IsServed told counts port lines key.pace by jobs found new refused → by ≡ number → Leaves new
  leaves_served by jobs new refused no_end served own = record {
    later = later_chain told counts port lines key.put.value found new was.later served.later;
    entries = begins_from (with_lost found) (with_lost new) served.added served.entries;
    by_own = subst (λ (l : List Entry). Each (λ entry. by_of entry ≡ number) l) (sym (behind_from (with_lost found) (with_lost new) served.added served.entries))
        (subst (λ (n : ℕ). Each (λ entry. by_of entry ≡ n) served.added) own served.by_own);
    ending = λ x is. absurd (clash x (sym no_end ∙ is));
    at_home = served.at_home;
  }
    where
      clash : (x : LaneErr) → None ≡ Some x → ⊥
      clash x e = cc

  pub may_leave : (by : ℕ) (jobs : List Job) (new : LaneValue D) (refused : Option LaneErr) → ((end : LaneErr) → found.end ≡ Some end → (new ≡ found) × (refused ≡ None))
      → (found.end ≡ None → (found.lost ≡ []) × IsServed told counts port lines key.pace by jobs found new refused) → by ≡ number → Leaves new
  may_leave by jobs new refused ended served own = by_end found.end refl
    where
      by_end : (end : Option LaneErr) → found.end ≡ end → Leaves new
      by_end None is = leaves_served by jobs new refused is (served is).1 own
      by_end (Some end) is = subst Leaves (sym (ended end is).0) leaves_same

-- ---- seats that are joined, and new ones

pub numbered_joined : {D : Type 0} (n : ℕ) (v w : LaneView D) → numbered n (joined v w).parts ≡ numbered n v.parts + numbered n w.parts
numbered_joined n v w = total_append (λ (p : Part Entry). same n p.number) v.parts w.parts

module _ {D : Type 0} (put : LaneValue D) (place : ℕ) where
  -- what two seats know, one seat of both knows
  pub known_joined : (taken_so other_taken undone other_undone : List Work) (v w : LaneView D) → IsKnown place put taken_so undone v → IsKnown place put other_taken other_undone w
      → IsNoEarlier v.seen (joined v w).seen → IsNoEarlier w.seen (joined v w).seen → IsKnown place put (taken_so ++ other_taken) (undone ++ other_undone) (joined v w)
  known_joined taken_so other_taken undone other_undone v w mine its later its_later = record {
    weighs = λ h.
        let a = total_append (λ (p : Part Entry). total (weigh_entry h) p.added) v.parts w.parts in
        let b = total_append (weigh_at place h) undone other_undone in
        let c = total_append (weigh_at place h) taken_so other_taken in
        let k = mine.weighs h in
        let l = its.weighs h in
        omega (arith, a, b, c, k, l);
    made = Each_append (λ (p : Part Entry). Each (IsMadeFor put.name (jobs_at place (taken_so ++ other_taken))) p.added) v.parts w.parts
        (Each_map (λ (p : Part Entry). Each (IsMadeFor put.name (jobs_at place taken_so)) p.added) (λ (p : Part Entry). Each (IsMadeFor put.name (jobs_at place (taken_so ++ other_taken))) p.added) v.parts
        (λ p made. made_all_among put.name (jobs_at place taken_so) (jobs_at place (taken_so ++ other_taken))
        (λ job there. subst (IsIn job) (sym (jobs_more place taken_so other_taken)) (in_left job (jobs_at place taken_so) (jobs_at place other_taken) there)) p.added made) mine.made)
        (Each_map (λ (p : Part Entry). Each (IsMadeFor put.name (jobs_at place other_taken)) p.added) (λ (p : Part Entry). Each (IsMadeFor put.name (jobs_at place (taken_so ++ other_taken))) p.added) w.parts
        (λ p made. made_all_among put.name (jobs_at place other_taken) (jobs_at place (taken_so ++ other_taken))
        (λ job there. subst (IsIn job) (sym (jobs_more place taken_so other_taken)) (in_right job (jobs_at place taken_so) (jobs_at place other_taken) there)) p.added made) its.made);
    reasons = λ work there at. ⊎_elim
        (λ own. undone_later put v (joined v w) work later (mine.reasons work own at))
        (λ other. undone_later put w (joined v w) work its_later (its.reasons work other at))
        (in_either work undone other_undone there);
    ends = Each_append (IsSetFor place put.name (undone ++ other_undone)) v.ends w.ends
        (Each_map (IsSetFor place put.name undone) (IsSetFor place put.name (undone ++ other_undone)) v.ends (set_among place put.name undone (undone ++ other_undone) (λ x there. in_left x undone other_undone there)) mine.ends)
        (Each_map (IsSetFor place put.name other_undone) (IsSetFor place put.name (undone ++ other_undone)) w.ends (set_among place put.name other_undone (undone ++ other_undone) (λ x there. in_right x undone other_undone there)) its.ends);
    idle = λ none.
        let empty = both_nil taken_so other_taken none in
        let own = mine.idle empty.0 in
        let other = its.idle empty.1 in (
          Each_append (λ (p : Part Entry). p.added ≡ []) v.parts w.parts own.0 other.0,
          ap (λ (l : List LaneErr). l ++ w.ends) own.1 ∙ other.1,
        );
  }

  -- a new seat knows that nothing was taken
  pub known_fresh : (key : Option (Key (LaneValue D))) (now : Sight Entry LaneErr) (number : ℕ) → IsKnown place put [] [] (Rattle.lane_lock.specs.Views.fresh key now number)
  known_fresh key now number = record {
    weighs = λ h. refl;
    made = (tt, tt);
    reasons = λ work there at. absurd there;
    ends = tt;
    idle = λ none. ((refl, tt), refl);
  }
