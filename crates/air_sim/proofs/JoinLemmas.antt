-- Calls of the port one after the other.
use Rattle.std.specs.Prelude.{◌≡◌, ◌⊎◌, ◌≤◌, ℕ, true, List, [], ◌∷◌, ◌++◌, refl}
use Rattle.std.proofs.Common.{inl, inr, ⊎_elim, arith, sym, ◌∙◌, ap, subst, append_assoc}
use Rattle.std.proofs.lemmas.Bool.{cases_lt}
use Rattle.disk_model.specs.Disk.{Meaning, PastStands, image_now}
use Rattle.disk_model.specs.Runs.{past_joined}
use Rattle.ota_core.specs.declared.cards.CardFacts.{CardFacts}
use Rattle.site_model.specs.Cards.{GoesOn, Grows, IsLineOf, IsOfCards, IsTaken, Keeps, port_at, port_now}
use Rattle.site_model.specs.Port.{PortState}
use Rattle.site_model.specs.Runs.{PortRun}
use Rattle.world_core.specs.Members.{Begins, In}
use Rattle.world_core.specs.declared.answers.Made.{Made}
use Rattle.world_core.specs.declared.lines.Line.{Line}
use Rattle.air_sim.specs.Lines.{LinesByCard, lines_for}
use Rattle.air_sim.proofs.LogLemmas.{goes_further, grows_on, stays_finished}

begins_on : {X : Type 0} (a b c : List X) → Begins a b → Begins b c → Begins a c
begins_on a b c (more, is) (further, goes) = (more ++ further, goes ∙ ap (λ l. l ++ further) is ∙ append_assoc a more further)

module _ {S : Type 0} (told : Meaning S PortState LinesByCard) (old mid new : S) where
  before_or_after : (k : ℕ) → (k ≤ told.clock mid) ⊎ (told.clock mid ≤ k)
  before_or_after k = ⊎_elim (λ early. inl (omega (arith, early))) (λ late. inr late) (cases_lt k (told.clock mid))

  pub joined_port : (Q R : PortState → Type 0) → PortRun told old mid Q → PortRun told mid new R → ((p : PortState) → R p → Q p) → PortRun told old new Q
  joined_port Q R first second weaker = record {
    past = past_joined told old mid new first.past second.past;
    images_stand = λ k image low high at. ⊎_elim
        (λ early. first.images_stand k image low early (second.past.no_more k image early at))
        (λ late. first.images_stand (told.clock mid) image first.past.later (omega arith) (second.images_stand k image late high at)) (before_or_after k);
    images_stay = λ k image low high now. ⊎_elim
        (λ early. second.past.no_fewer k image early (first.images_stay k image low early now))
        (λ late. second.images_stay k image late high (first.images_stay (told.clock mid) image first.past.later (omega arith) now)) (before_or_after k);
    each = λ k low high. ⊎_elim
        (λ early. subst Q (sym (second.past.beside k early)) (first.each k low early))
        (λ late. weaker (told.beside_at new k) (second.each k late high)) (before_or_after k);
  }

  module _ (past : PastStands told mid new) (first_past : PastStands told old mid) (first : Keeps told (λ (port : PortState). port) lines_for old mid) (second : Keeps told (λ (port : PortState). port) lines_for mid new) where
    abbrev c : ℕ
    c = told.clock mid

    abbrev at : ℕ → PortState
    at k = told.beside_at new k

    abbrev Chosen : ℕ → LinesByCard → Type 0
    Chosen k now = told.choice_at new k now

    back : (k : ℕ) → k ≤ c → (now : LinesByCard) → Chosen k now → told.choice_at mid k now
    back k le now chosen = past.no_more_choices k now le chosen

    on : (k : ℕ) → k ≤ c → (now : LinesByCard) → told.choice_at mid k now → Chosen k now
    on k le now chosen = past.no_fewer_choices k now le chosen

    mid_facts : (told.beside_at mid c).facts ≡ (told.beside_at old (told.clock old)).facts
    mid_facts = first.facts c first_past.later (omega arith)

    -- what begins up to the middle, and from there on, begins throughout
    early_lists : {X : Type 0} (f : PortState → List X) → ((k l : ℕ) → told.clock old ≤ k → k ≤ l → l ≤ c → Begins (f (told.beside_at mid k)) (f (told.beside_at mid l)))
        → (k l : ℕ) → told.clock old ≤ k → k ≤ l → l ≤ c → Begins (f (at k)) (f (at l))
    early_lists f one k l low le high =
        subst (λ (p : PortState). Begins (f p) (f (at l))) (sym (past.beside k (omega (arith, le, high))))
        (subst (λ (p : PortState). Begins (f (told.beside_at mid k)) (f p)) (sym (past.beside l high)) (one k l low le high))

    lists : {X : Type 0} (f : PortState → List X) → ((k l : ℕ) → told.clock old ≤ k → k ≤ l → l ≤ c → Begins (f (told.beside_at mid k)) (f (told.beside_at mid l)))
        → ((k l : ℕ) → c ≤ k → k ≤ l → l ≤ told.clock new → Begins (f (at k)) (f (at l))) → (k l : ℕ) → told.clock old ≤ k → k ≤ l → l ≤ told.clock new → Begins (f (at k)) (f (at l))
    lists f one two k l low le high = ⊎_elim
        (λ l_early. early_lists f one k l low le l_early)
        (λ l_late. ⊎_elim
        (λ k_early. begins_on (f (at k)) (f (at c)) (f (at l)) (early_lists f one k c low k_early (omega arith)) (two c l (omega arith) l_late high))
        (λ k_late. two k l k_late le high) (before_or_after k))
        (before_or_after l)

    polls_rise : (k l : ℕ) → told.clock old ≤ k → k ≤ l → l ≤ told.clock new → (at k).polls ≤ (at l).polls
    polls_rise k l low le high = ⊎_elim
        (λ l_early. early k l low le l_early)
        (λ l_late. ⊎_elim (λ k_early. omega (arith, early k c low k_early (omega arith), second.polls c l (omega arith) l_late high)) (λ k_late. second.polls k l k_late le high) (before_or_after k))
        (before_or_after l)
      where
        early : (i j : ℕ) → told.clock old ≤ i → i ≤ j → j ≤ c → (at i).polls ≤ (at j).polls
        early i j low le high =
            subst (λ (p : PortState). p.polls ≤ (at j).polls) (sym (past.beside i (omega (arith, le, high))))
            (subst (λ (p : PortState). (told.beside_at mid i).polls ≤ p.polls) (sym (past.beside j high)) (first.polls i j low le high))

    abbrev Grown : LinesByCard → Type 0
    Grown now = (before : LinesByCard) × told.choice_at old (told.clock old) before
        × ((card : CardFacts) → In card (told.beside_at old (told.clock old)).facts → Grows card (lines_for before card.card.0) (lines_for now card.card.0))

    grow : (k : ℕ) (now : LinesByCard) → told.clock old ≤ k → k ≤ told.clock new → Chosen k now → Grown now
    grow k now low high chosen = ⊎_elim
        (λ early. first.grows k now low early (back k early now chosen))
        (λ late.
        let b = second.grows k now late high chosen in
        let a = first.grows c b.0 first_past.later (omega arith) b.1 in (
          a.0,
          a.1,
          λ card there.
              grows_on card (lines_for a.0 card.card.0) (lines_for b.0 card.card.0) (lines_for now card.card.0) (a.2 card there) (b.2 card (subst (In card) (sym mid_facts) there)),
        ))
        (before_or_after k)

    abbrev Gone : ℕ → LinesByCard → Type 0
    Gone k now = (before : LinesByCard) × Chosen k before × ((card : ℕ) → GoesOn (lines_for before card) (lines_for now card))

    early_gone : (k l : ℕ) (now : LinesByCard) → told.clock old ≤ k → k ≤ l → l ≤ c → Chosen l now → Gone k now
    early_gone k l now low le high chosen =
        let b = first.goes_on k l now low le high (back l high now chosen) in (b.0, on k (omega (arith, le, high)) b.0 b.1, b.2)

    go : (k l : ℕ) (now : LinesByCard) → told.clock old ≤ k → k ≤ l → l ≤ told.clock new → Chosen l now → Gone k now
    go k l now low le high chosen = ⊎_elim
        (λ l_early. early_gone k l now low le l_early chosen)
        (λ l_late. ⊎_elim
        (λ k_early.
        let b = second.goes_on c l now (omega arith) l_late high chosen in
        let a = early_gone k c b.0 low k_early (omega arith) b.1 in
        (a.0, a.1, λ card. goes_further (lines_for a.0 card) (lines_for b.0 card) (lines_for now card) (a.2 card) (b.2 card)))
        (λ k_late. second.goes_on k l now k_late le high chosen) (before_or_after k))
        (before_or_after l)

    abbrev Stands : ℕ → Made → Type 0
    Stands k made = IsTaken made.status → (now : LinesByCard) → Chosen k now → (line : Line) × In line (lines_for now made.keyset.card.0) × IsLineOf made line

    abbrev Answered : ℕ → Made → Type 0
    Answered k made = In made (told.beside_at old (told.clock old)).made ⊎ (IsOfCards (told.beside_at old (told.clock old)).facts made × Stands k made)

    -- what was answered in the middle stands still
    still : (k : ℕ) (made : Made) → c ≤ k → k ≤ told.clock new
        → In made (told.beside_at old (told.clock old)).made ⊎ (IsOfCards (told.beside_at old (told.clock old)).facts made
        × (IsTaken made.status → (now : LinesByCard) → told.choice_at mid c now → (line : Line) × In line (lines_for now made.keyset.card.0) × IsLineOf made line)) → Answered k made
    still k made late high (inl old_one) = inl old_one
    still k made late high (inr (of_cards, stands)) = inr (
      of_cards,
      λ taken now chosen.
          let b = second.goes_on c k now (omega arith) late high chosen in
          let found = stands taken b.0 (back c (omega arith) b.0 b.1) in
          (found.0, stays_finished (lines_for b.0 made.keyset.card.0) (lines_for now made.keyset.card.0) found.0 (b.2 made.keyset.card.0) found.1 found.2.finished, found.2),
    )

    answer : (k : ℕ) (made : Made) → told.clock old ≤ k → k ≤ told.clock new → In made (at k).made → Answered k made
    answer k made low high there = ⊎_elim
        (λ early. ⊎_elim inl
        (λ (it : IsOfCards (told.beside_at old (told.clock old)).facts made × (IsTaken made.status → (now : LinesByCard) → told.choice_at mid k now → (line : Line) × In line (lines_for now made.keyset.card.0) × IsLineOf made line)).
        inr (it.0, λ taken now chosen. it.1 taken now (back k early now chosen)))
        (first.answers k made low early (subst (λ (p : PortState). In made p.made) (past.beside k early) there)))
        (λ late. ⊎_elim
        (λ (in_mid : In made (told.beside_at mid c).made). still k made late high (first.answers c made first_past.later (omega arith) in_mid))
        (λ (it : IsOfCards (told.beside_at mid c).facts made × Stands k made). inr (subst (λ (f : List CardFacts). IsOfCards f made) mid_facts it.0, it.1))
        (second.answers k made late high there))
        (before_or_after k)

    pub joined_keeps : Keeps told (λ (port : PortState). port) lines_for old new
    joined_keeps = record {
      facts = λ k low high. ⊎_elim
          (λ early. ap (λ (p : PortState). p.facts) (past.beside k early) ∙ first.facts k low early)
          (λ late. second.facts k late high ∙ mid_facts) (before_or_after k);
      sent = lists (λ (p : PortState). p.sent) first.sent second.sent;
      given = lists (λ (p : PortState). p.given) first.given second.given;
      made = lists (λ (p : PortState). p.made) first.made second.made;
      polls = polls_rise;
      grows = grow;
      goes_on = go;
      states = λ states k now card low high chosen there. ⊎_elim
          (λ early. first.states states k now card low early (back k early now chosen) there)
          (λ late. second.states
          (λ before of at_mid in_mid. first.states states c before of first_past.later (omega arith) at_mid (subst (In of) mid_facts in_mid))
          k now card late high chosen (subst (In card) (sym mid_facts) there)) (before_or_after k);
      answers = answer;
    }
