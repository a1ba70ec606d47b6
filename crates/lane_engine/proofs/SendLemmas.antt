-- Calls of the port that hand pieces over, one after the other.
use Rattle.std.proofs.Common.{◌≡◌, ◌⊎◌, inl, inr, ℕ, ◌+◌, ◌≤◌, IsTrue, true, List, [], ◌∷◌, ◌++◌, drop, refl, sym, ◌∙◌, ap, subst, arith, append-nil, append_assoc, ⊎_elim}
use Rattle.std.proofs.lemmas.Bool.{cases_lt}
use Rattle.std.proofs.lemmas.List.{take-append-drop}
use Rattle.std.proofs.lemmas.List.FromFn.{map-range_with_len_more, take-map-range_with_len}
use Rattle.disk_model.specs.Counts.{Counts}
use Rattle.disk_model.specs.Disk.{Meaning, PastStands, Tells}
use Rattle.disk_model.specs.Runs.{past_at_once, past_joined}
use Rattle.ota_core.specs.declared.cards.CardFacts.{CardFacts}
use Rattle.ota_core.specs.declared.cards.CardId.{CardId}
use Rattle.ota_core.specs.declared.references.Reference.{Reference}
use Rattle.site_model.specs.Port.{PortState, IsSending}
use Rattle.site_model.specs.Cards.{GoesOn, Grows, IsFurther, IsLineOf, IsOfCards, IsTaken, Keeps, MayFollowAll, port_at, port_now}
use Rattle.site_model.specs.Runs.{PortRun}
use Rattle.site_model.specs.declared.departures.Departure.{Departure}
use Rattle.world_core.specs.Card.{IsCardState}
use Rattle.world_core.specs.Members.{Begins, In}
use Rattle.world_core.specs.declared.answers.Made.{Made}
use Rattle.world_core.specs.declared.lines.Line.{Line}
use Rattle.lane_engine.specs.Departing.{IsUnasked}
use Rattle.lane_engine.specs.Sending.{AreAllHanded, AreHanded, HandsOver, handed}

begins_same : {X : Type 0} (xs ys : List X) → ys ≡ xs → Begins xs ys
begins_same xs ys is = ([], is ∙ sym (append-nil xs))

begins_then : {X : Type 0} (xs ys zs : List X) → Begins xs ys → Begins ys zs → Begins xs zs
begins_then {X = X} xs ys zs first second = (first.0 ++ second.0, second.1 ∙ ap (λ (l : List X). l ++ second.0) first.1 ∙ append_assoc xs first.0 second.0)

follow_append : (facts : CardFacts) (before xs ys : List Line) → MayFollowAll facts before xs → MayFollowAll facts (before ++ xs) ys → MayFollowAll facts before (xs ++ ys)
follow_append facts before [] ys first second = subst (λ (l : List Line). MayFollowAll facts l ys) (append-nil before) second
follow_append facts before (line ∷ xs) ys first second =
    (first.0, follow_append facts (before ++ line ∷ []) xs ys first.1 (subst (λ (l : List Line). MayFollowAll facts l ys) (sym (append_assoc before (line ∷ []) xs)) second))

grows_then : (facts : CardFacts) (a b c : List Line) → Grows facts a b → Grows facts b c → Grows facts a c
grows_then facts a b c first second = (
  first.0 ++ second.0,
  second.1 ∙ ap (λ (l : List Line). l ++ second.0) first.1 ∙ append_assoc a first.0 second.0,
  follow_append facts a first.0 second.0 first.2 (subst (λ (l : List Line). MayFollowAll facts l second.0) first.1 second.2),
)

further_same : (line : Line) → IsFurther line line
further_same line = record { keyset = refl; counter = refl; tar = refl; body = refl; status = refl; executed = omega arith; finished = λ is. refl }

further_then : (a b c : Line) → IsFurther a b → IsFurther b c → IsFurther a c
further_then a b c first second = record {
  keyset = second.keyset ∙ first.keyset;
  counter = second.counter ∙ first.counter;
  tar = second.tar ∙ first.tar;
  body = second.body ∙ first.body;
  status = second.status ∙ first.status;
  executed = (let one = first.executed in let two = second.executed in omega (arith, one, two));
  finished = λ is. (let same : b ≡ a = first.finished is in second.finished (ap (λ (l : Line). l.finished) same ∙ is) ∙ same);
}

goes_same : (lines : List Line) → GoesOn lines lines
goes_same [] = tt
goes_same (line ∷ lines) = (further_same line, goes_same lines)

goes_then : (a b c : List Line) → GoesOn a b → GoesOn b c → GoesOn a c
goes_then [] b c first second = tt
goes_then (x ∷ a) [] c first second = absurd first
goes_then (x ∷ a) (y ∷ b) [] first second = absurd second
goes_then (x ∷ a) (y ∷ b) (z ∷ c) first second = (further_then x y z first.0 second.0, goes_then a b c first.1 second.1)

-- a finished line is there still
goes_finished : (a b : List Line) (line : Line) → GoesOn a b → In line a → line.finished ≡ true → In line b
goes_finished [] b line goes i finished = absurd i
goes_finished (x ∷ a) [] line goes i finished = absurd goes
goes_finished (x ∷ a) (y ∷ b) line goes i finished = elim i [
  | inl e ↦ inl (e ∙ sym (goes.0.finished (ap (λ (l : Line). l.finished) (sym e) ∙ finished)))
  | inr later ↦ inr (goes_finished a b line goes.1 later finished)
]

module _ {D B C : Type 0} (told : Meaning D B C) (port : B → PortState) (lines : C → ℕ → List Line) where
  -- without a call
  pub keeps_same : (site : D) → Keeps told port lines site site
  keeps_same site = record {
    facts = λ k low high. ap (λ (n : ℕ). (port_at told port lines site n).facts) (same k low high);
    sent = λ k l low mid high. begins_same (port_at told port lines site k).sent (port_at told port lines site l).sent (ap (λ (n : ℕ). (port_at told port lines site n).sent) (one l k (omega (arith, low, mid)) high low (omega (arith, mid, high))));
    given = λ k l low mid high. begins_same (port_at told port lines site k).given (port_at told port lines site l).given (ap (λ (n : ℕ). (port_at told port lines site n).given) (one l k (omega (arith, low, mid)) high low (omega (arith, mid, high))));
    made = λ k l low mid high. begins_same (port_at told port lines site k).made (port_at told port lines site l).made (ap (λ (n : ℕ). (port_at told port lines site n).made) (one l k (omega (arith, low, mid)) high low (omega (arith, mid, high))));
    polls = λ k l low mid high. (let e = ap (λ (n : ℕ). (port_at told port lines site n).polls) (one l k (omega (arith, low, mid)) high low (omega (arith, mid, high))) in omega (arith, e));
    grows = λ k now low high chosen. (now, subst (λ (n : ℕ). told.choice_at site n now) (same k low high) chosen, λ card is_card. ([], sym (append-nil (lines now card.card.0)), tt));
    goes_on = λ k l now low mid high chosen. (now, subst (λ (n : ℕ). told.choice_at site n now) (one l k (omega (arith, low, mid)) high low (omega (arith, mid, high))) chosen, λ card. goes_same (lines now card));
    states = λ given k now card low high chosen is_card. given now card (subst (λ (n : ℕ). told.choice_at site n now) (same k low high) chosen) is_card;
    answers = λ k made low high i. inl (subst (λ (n : ℕ). In made (port_at told port lines site n).made) (same k low high) i);
  }
    where
      same : (k : ℕ) → told.clock site ≤ k → k ≤ told.clock site → k ≡ told.clock site
      same k low high = omega (arith, low, high)

      one : (l k : ℕ) → told.clock site ≤ l → l ≤ told.clock site → told.clock site ≤ k → k ≤ told.clock site → l ≡ k
      one l k a b c d = omega (arith, a, b, c, d)

  module _ (old mid new : D) (past_first : PastStands told old mid) (past_second : PastStands told mid new) where
    early_at : (k : ℕ) → k ≤ told.clock mid → port_at told port lines new k ≡ port_at told port lines mid k
    early_at k low = ap port (past_second.beside k low)

    -- what only grows in both goes on growing
    begins_over : {X : Type 0} (f : PortState → List X)
        → ((k l : ℕ) → told.clock old ≤ k → k ≤ l → l ≤ told.clock mid → Begins (f (port_at told port lines mid k)) (f (port_at told port lines mid l)))
        → ((k l : ℕ) → told.clock mid ≤ k → k ≤ l → l ≤ told.clock new → Begins (f (port_at told port lines new k)) (f (port_at told port lines new l)))
        → (k l : ℕ) → told.clock old ≤ k → k ≤ l → l ≤ told.clock new → Begins (f (port_at told port lines new k)) (f (port_at told port lines new l))
    begins_over {X = X} f first second k l low between high = ⊎_elim
        (λ late. second k l (omega (arith, late)) between high)
        (λ early. ⊎_elim
        (λ across.
        begins_then (f (port_at told port lines new k)) (f (port_at told port lines new (told.clock mid))) (f (port_at told port lines new l))
        (at_mid k early (told.clock mid) (omega arith) (first k (told.clock mid) low early (omega arith)))
        (second (told.clock mid) l (omega arith) (omega (arith, across)) high))
        (λ before. at_mid k early l before (first k l low between before))
        (cases_lt (told.clock mid) l))
        (cases_lt (told.clock mid) k)
      where
        at_mid : (k : ℕ) → k ≤ told.clock mid → (l : ℕ) → l ≤ told.clock mid → Begins (f (port_at told port lines mid k)) (f (port_at told port lines mid l))
            → Begins (f (port_at told port lines new k)) (f (port_at told port lines new l))
        at_mid k low l until begins =
            subst (λ (p : PortState). Begins (f p) (f (port_at told port lines new l))) (sym (early_at k low))
            (subst (λ (p : PortState). Begins (f (port_at told port lines mid k)) (f p)) (sym (early_at l until)) begins)

    polls_over : ((k l : ℕ) → told.clock old ≤ k → k ≤ l → l ≤ told.clock mid → (port_at told port lines mid k).polls ≤ (port_at told port lines mid l).polls)
        → ((k l : ℕ) → told.clock mid ≤ k → k ≤ l → l ≤ told.clock new → (port_at told port lines new k).polls ≤ (port_at told port lines new l).polls)
        → (k l : ℕ) → told.clock old ≤ k → k ≤ l → l ≤ told.clock new → (port_at told port lines new k).polls ≤ (port_at told port lines new l).polls
    polls_over first second k l low between high = ⊎_elim
        (λ late. second k l (omega (arith, late)) between high)
        (λ early. ⊎_elim
        (λ across. (
        let one = at_mid k early (told.clock mid) (omega arith) (first k (told.clock mid) low early (omega arith)) in
        let two = second (told.clock mid) l (omega arith) (omega (arith, across)) high in
        omega (arith, one, two)))
        (λ before. at_mid k early l before (first k l low between before))
        (cases_lt (told.clock mid) l))
        (cases_lt (told.clock mid) k)
      where
        at_mid : (k : ℕ) → k ≤ told.clock mid → (l : ℕ) → l ≤ told.clock mid → (port_at told port lines mid k).polls ≤ (port_at told port lines mid l).polls
            → (port_at told port lines new k).polls ≤ (port_at told port lines new l).polls
        at_mid k low l until le =
            subst (λ (p : PortState). p.polls ≤ (port_at told port lines new l).polls) (sym (early_at k low))
            (subst (λ (p : PortState). (port_at told port lines mid k).polls ≤ p.polls) (sym (early_at l until)) le)

    module _ (first : Keeps told port lines old mid) (second : Keeps told port lines mid new) where
      facts_mid : (port_now told port lines mid).facts ≡ (port_now told port lines old).facts
      facts_mid = first.facts (told.clock mid) past_first.later (omega arith)

      to_mid : (card : CardFacts) → In card (port_now told port lines old).facts → In card (port_now told port lines mid).facts
      to_mid card i = subst (λ (l : List CardFacts). In card l) (sym facts_mid) i

      facts_joined : (k : ℕ) → told.clock old ≤ k → k ≤ told.clock new → (port_at told port lines new k).facts ≡ (port_now told port lines old).facts
      facts_joined k low high = ⊎_elim
          (λ late. second.facts k (omega (arith, late)) high ∙ facts_mid)
          (λ early. ap (λ (p : PortState). p.facts) (early_at k early) ∙ first.facts k low early)
          (cases_lt (told.clock mid) k)

      abbrev GrowsFrom : C → C → Type 0
      GrowsFrom before now = (card : CardFacts) → In card (port_now told port lines old).facts → Grows card (lines before card.card.0) (lines now card.card.0)

      grows_joined : (k : ℕ) (now : C) → told.clock old ≤ k → k ≤ told.clock new → told.choice_at new k now → (before : C) × told.choice_at old (told.clock old) before × GrowsFrom before now
      grows_joined k now low high chosen = ⊎_elim
          (λ late. (
          let two = second.grows k now (omega (arith, late)) high chosen in
          let one = first.grows (told.clock mid) two.0 past_first.later (omega arith) two.1 in
          (one.0, one.1, λ card is_card. grows_then card (lines one.0 card.card.0) (lines two.0 card.card.0) (lines now card.card.0) (one.2 card is_card) (two.2 card (to_mid card is_card)))))
          (λ early. first.grows k now low early (past_second.no_more_choices k now early chosen))
          (cases_lt (told.clock mid) k)

      goes_joined : (k l : ℕ) (now : C) → told.clock old ≤ k → k ≤ l → l ≤ told.clock new → told.choice_at new l now
          → (before : C) × told.choice_at new k before × ((card : ℕ) → GoesOn (lines before card) (lines now card))
      goes_joined k l now low between high chosen = ⊎_elim
          (λ late. second.goes_on k l now (omega (arith, late)) between high chosen)
          (λ early. ⊎_elim
          (λ across. (
          let two = second.goes_on (told.clock mid) l now (omega arith) (omega (arith, across)) high chosen in
          let one = first.goes_on k (told.clock mid) two.0 low early (omega arith) (past_second.no_more_choices (told.clock mid) two.0 (omega arith) two.1) in
          (one.0, past_second.no_fewer_choices k one.0 early one.1, λ card. goes_then (lines one.0 card) (lines two.0 card) (lines now card) (one.2 card) (two.2 card))))
          (λ before. (
          let one = first.goes_on k l now low between before (past_second.no_more_choices l now before chosen) in
          (one.0, past_second.no_fewer_choices k one.0 early one.1, one.2)))
          (cases_lt (told.clock mid) l))
          (cases_lt (told.clock mid) k)

      states_joined : ((before : C) (card : CardFacts) → told.choice_at old (told.clock old) before → In card (port_now told port lines old).facts → IsCardState (record { facts = card; log = lines before card.card.0 }))
          → (k : ℕ) (now : C) (card : CardFacts) → told.clock old ≤ k → k ≤ told.clock new → told.choice_at new k now → In card (port_now told port lines old).facts
          → IsCardState (record { facts = card; log = lines now card.card.0 })
      states_joined start k now card low high chosen is_card = ⊎_elim
          (λ late.
          second.states (λ before other then is_other. first.states start (told.clock mid) before other past_first.later (omega arith) then (subst (λ (l : List CardFacts). In other l) facts_mid is_other))
          k now card (omega (arith, late)) high chosen (to_mid card is_card))
          (λ early. first.states start k now card low early (past_second.no_more_choices k now early chosen) is_card)
          (cases_lt (told.clock mid) k)

      -- an answer at that moment is one from before, or its line is logged
      abbrev IsAnswerAt : ℕ → Made → Type 0
      IsAnswerAt k made = In made (port_now told port lines old).made
          ⊎ (IsOfCards (port_now told port lines old).facts made × (IsTaken made.status → (now : C) → told.choice_at new k now → (line : Line) × In line (lines now made.keyset.card.0) × IsLineOf made line))

      of_mid : (made : Made) → IsOfCards (port_now told port lines mid).facts made → IsOfCards (port_now told port lines old).facts made
      of_mid made of = subst (λ (l : List CardFacts). IsOfCards l made) facts_mid of

      answers_late : (k : ℕ) (made : Made) → told.clock mid ≤ k → k ≤ told.clock new → In made (port_now told port lines mid).made → IsAnswerAt k made
      answers_late k made low high i = elim (first.answers (told.clock mid) made past_first.later (omega arith) i) [
        | inl old_one ↦ inl old_one
        | inr new_one ↦ inr (
          new_one.0,
          λ taken now chosen. (
              let goes = second.goes_on (told.clock mid) k now (omega arith) low high chosen in
              let found = new_one.1 taken goes.0 (past_second.no_more_choices (told.clock mid) goes.0 (omega arith) goes.1) in
              (found.0, goes_finished (lines goes.0 made.keyset.card.0) (lines now made.keyset.card.0) found.0 (goes.2 made.keyset.card.0) found.1 found.2.finished, found.2)),
        )
      ]

      answers_joined : (k : ℕ) (made : Made) → told.clock old ≤ k → k ≤ told.clock new → In made (port_at told port lines new k).made → IsAnswerAt k made
      answers_joined k made low high i = ⊎_elim
          (λ late. elim (second.answers k made (omega (arith, late)) high i) [
            | inl mid_one ↦ answers_late k made (omega (arith, late)) high mid_one
            | inr new_one ↦ inr (of_mid made new_one.0, new_one.1)
          ])
          (λ early. elim (first.answers k made low early (subst (λ (p : PortState). In made p.made) (early_at k early) i)) [
            | inl old_one ↦ inl old_one
            | inr new_one ↦ inr (new_one.0, λ taken now chosen. new_one.1 taken now (past_second.no_more_choices k now early chosen))
          ])
          (cases_lt (told.clock mid) k)

      -- what the cards keep in two calls
      pub keeps_joined : Keeps told port lines old new
      keeps_joined = record {
        facts = facts_joined;
        sent = begins_over (λ (p : PortState). p.sent) first.sent second.sent;
        given = begins_over (λ (p : PortState). p.given) first.given second.given;
        made = begins_over (λ (p : PortState). p.made) first.made second.made;
        polls = polls_over first.polls second.polls;
        grows = grows_joined;
        goes_on = goes_joined;
        states = states_joined;
        answers = answers_joined;
      }

  -- ---- pieces that are handed over

  abbrev Handed : D → List Departure → B → Type 0
  Handed old departures beside = AreHanded departures (port_now told port lines old) (port beside)

  none_handed : (departures : List Departure) (before now : PortState) → now ≡ before → AreHanded departures before now
  none_handed departures before now is = record {
    gone = [];
    still = departures;
    are = refl;
    sent = ap (λ (p : PortState). p.sent) is ∙ sym (append-nil before.sent);
    unasked = record { given = ap (λ (p : PortState). p.given) is; polls = ap (λ (p : PortState). p.polls) is };
  }

  -- without a call none was
  pub hands_none : (site : D) (departures : List Departure) → HandsOver told port lines site site departures
  hands_none site departures = record {
    moments = record {
      past = past_at_once told site;
      images_stand = λ k image low high at. subst (λ (n : ℕ). told.image_at site n image) (same k low high) at;
      images_stay = λ k image low high at. subst (λ (n : ℕ). told.image_at site n image) (sym (same k low high)) at;
      each = λ k low high. none_handed departures (port_now told port lines site) (port_at told port lines site k) (ap (λ (n : ℕ). port_at told port lines site n) (same k low high));
    };
    keeps = keeps_same site;
    content = refl;
  }
    where
      same : (k : ℕ) → told.clock site ≤ k → k ≤ told.clock site → k ≡ told.clock site
      same k low high = omega (arith, low, high)

  -- of more pieces the first ones are the same
  pub hands_more : (old new : D) (departures more all : List Departure) → all ≡ departures ++ more → HandsOver told port lines old new departures → HandsOver told port lines old new all
  hands_more old new departures more all is hands = record {
    moments = record {
      past = hands.moments.past;
      images_stand = hands.moments.images_stand;
      images_stay = hands.moments.images_stay;
      each = λ k low high. (
          let then = hands.moments.each k low high in
          record {
            gone = then.gone;
            still = then.still ++ more;
            are = is ∙ ap (λ (l : List Departure). l ++ more) then.are ∙ append_assoc then.gone then.still more;
            sent = then.sent;
            unasked = then.unasked;
          });
    };
    keeps = hands.keeps;
    content = hands.content;
  }

  -- pieces behind pieces that were all handed over
  pub hands_then : (old mid new : D) (departures more all : List Departure) → all ≡ departures ++ more → HandsOver told port lines old mid departures → AreAllHanded told port lines old mid departures
      → HandsOver told port lines mid new more → HandsOver told port lines old new all
  hands_then old mid new departures more all is first handed second = record {
    moments = record {
      past = past_joined told old mid new first.moments.past second.moments.past;
      images_stand = λ k image low high at. ⊎_elim
          (λ late. first.moments.images_stand (told.clock mid) image first.moments.past.later (omega arith) (second.moments.images_stand k image (omega (arith, late)) high at))
          (λ early. first.moments.images_stand k image low early (second.moments.past.no_more k image early at))
          (cases_lt (told.clock mid) k);
      images_stay = λ k image low high at. ⊎_elim
          (λ late. second.moments.images_stay k image (omega (arith, late)) high (first.moments.images_stay (told.clock mid) image first.moments.past.later (omega arith) at))
          (λ early. second.moments.past.no_fewer k image early (first.moments.images_stay k image low early at))
          (cases_lt (told.clock mid) k);
      each = each;
    };
    keeps = keeps_joined old mid new first.moments.past second.moments.past first.keeps second.keeps;
    content = second.content ∙ first.content;
  }
    where
      unasked_mid : IsUnasked (port_now told port lines old) (port_now told port lines mid)
      unasked_mid = (first.moments.each (told.clock mid) first.moments.past.later (omega arith)).unasked

      each : (k : ℕ) → told.clock old ≤ k → k ≤ told.clock new → Handed old all (told.beside_at new k)
      each k low high = ⊎_elim
          (λ late. (
          let then = second.moments.each k (omega (arith, late)) high in
          record {
            gone = departures ++ then.gone;
            still = then.still;
            are = is ∙ ap (λ (l : List Departure). departures ++ l) then.are ∙ sym (append_assoc departures then.gone then.still);
            sent = then.sent ∙ ap (λ (l : List Departure). l ++ then.gone) handed ∙ append_assoc (port_now told port lines old).sent departures then.gone;
            unasked = record { given = then.unasked.given ∙ unasked_mid.given; polls = then.unasked.polls ∙ unasked_mid.polls };
          }))
          (λ early. (
          let then = first.moments.each k low early in
          subst (λ (b : B). Handed old all b) (sym (second.moments.past.beside k early))
          (record {
            gone = then.gone;
            still = then.still ++ more;
            are = is ∙ ap (λ (l : List Departure). l ++ more) then.are ∙ append_assoc then.gone then.still more;
            sent = then.sent;
            unasked = then.unasked;
          })))
          (cases_lt (told.clock mid) k)

  pub all_then : (old mid new : D) (departures more all : List Departure) → all ≡ departures ++ more → AreAllHanded told port lines old mid departures → AreAllHanded told port lines mid new more
      → AreAllHanded told port lines old new all
  all_then old mid new departures more all is first second =
      second ∙ ap (λ (l : List Departure). l ++ more) first ∙ append_assoc (port_now told port lines old).sent departures more
      ∙ ap (λ (l : List Departure). (port_now told port lines old).sent ++ l) (sym is)

  one_handed : (before now : PortState) (departure : Departure) → IsSending before now departure → AreHanded (departure ∷ []) before now
  one_handed before now departure sending = elim sending.sent [
    | inl none ↦ record {
      gone = [];
      still = departure ∷ [];
      are = refl;
      sent = none ∙ sym (append-nil before.sent);
      unasked = record { given = sending.given; polls = sending.polls };
    }
    | inr one ↦ record { gone = departure ∷ []; still = []; are = refl; sent = one; unasked = record { given = sending.given; polls = sending.polls } }
  ]

  -- a call that hands one piece over
  pub hands_one : (old new : D) (departure : Departure) → PortRun told old new (λ beside. IsSending (port_now told port lines old) (port beside) departure)
      → Keeps told port lines old new → told.seen new ≡ told.seen old → HandsOver told port lines old new (departure ∷ [])
  hands_one old new departure run keeps content = record {
    moments = record {
      past = run.past;
      images_stand = run.images_stand;
      images_stay = run.images_stay;
      each = λ k low high. one_handed (port_now told port lines old) (port_at told port lines new k) departure (run.each k low high);
    };
    keeps = keeps;
    content = content;
  }

-- ---- the pieces of one packet

abbrev piece_at : CardId → List ℕ → Reference → ℕ → Departure
piece_at card packet reference place = record { card = card; packet = packet; reference = reference; place = place }

pub handed_more : (card : CardId) (packet : List ℕ) (reference : Reference) (place : ℕ) → handed card packet reference (place + 1) ≡ handed card packet reference place ++ piece_at card packet reference (place + 1) ∷ []
handed_more card packet reference place = map-range_with_len_more (piece_at card packet reference) 1 place (place + 1) (omega arith)

pub handed_first : (card : CardId) (packet : List ℕ) (reference : Reference) (place pieces : ℕ) → place ≤ pieces
    → (more : List Departure) × (handed card packet reference pieces ≡ handed card packet reference place ++ more)
handed_first card packet reference place pieces within =
    let all = handed card packet reference pieces in (
      drop place all,
      sym (take-append-drop place all) ∙ ap (λ (l : List Departure). l ++ drop place all) (take-map-range_with_len (piece_at card packet reference) 1 pieces place within),
    )

-- what calls left that handed all of these pieces over
pub record HasHanded {D B C : Type 0} (told : Meaning D B C) (counts : D → Counts) (port : B → PortState) (lines : C → ℕ → List Line) (old now : D) (departures : List Departure) : Type 0 where
  pub tells : told.tells now ≡ told.tells old
  pub faults : (counts now).faults ≡ (counts old).faults
  pub wants : (counts now).wants ≡ (counts old).wants
  pub hands : Tells told old → HandsOver told port lines old now departures
  pub all : Tells told old → AreAllHanded told port lines old now departures

module _ {D B C : Type 0} (told : Meaning D B C) (counts : D → Counts) (port : B → PortState) (lines : C → ℕ → List Line) where
  pub handed_none : (site : D) → HasHanded told counts port lines site site []
  handed_none site = record {
    tells = refl;
    faults = refl;
    wants = refl;
    hands = λ tells. hands_none told port lines site [];
    all = λ tells. sym (append-nil (port_now told port lines site).sent);
  }

  pub handed_then : (old mid new : D) (departures more : List Departure) → HasHanded told counts port lines old mid departures → HasHanded told counts port lines mid new more
      → HasHanded told counts port lines old new (departures ++ more)
  handed_then old mid new departures more first second = record {
    tells = second.tells ∙ first.tells;
    faults = second.faults ∙ first.faults;
    wants = second.wants ∙ first.wants;
    hands = λ tells. hands_then told port lines old mid new departures more (departures ++ more) refl (first.hands tells) (first.all tells) (second.hands (subst IsTrue (sym first.tells) tells));
    all = λ tells. all_then told port lines old mid new departures more (departures ++ more) refl (first.all tells) (second.all (subst IsTrue (sym first.tells) tells));
  }

  -- ---- one piece of a packet more

  module _ (old mid new : D) (card : CardId) (packet : List ℕ) (reference : Reference) (place : ℕ) (before : HasHanded told counts port lines old mid (handed card packet reference place))
      (moments : Tells told mid → PortRun told mid new (λ beside. IsSending (port_now told port lines mid) (port beside) (piece_at card packet reference (place + 1))))
      (keeps : Tells told mid → Keeps told port lines mid new) (content : Tells told mid → told.seen new ≡ told.seen mid) where
    then_tells : Tells told old → Tells told mid
    then_tells tells = subst IsTrue (sym before.tells) tells

    pub piece_handed : told.tells new ≡ told.tells mid → (counts new).faults ≡ (counts mid).faults → (counts new).wants ≡ (counts mid).wants
        → (Tells told mid → (port_now told port lines new).sent ≡ (port_now told port lines mid).sent ++ piece_at card packet reference (place + 1) ∷ [])
        → HasHanded told counts port lines old new (handed card packet reference (place + 1))
    piece_handed same faults wants sent = record {
      tells = same ∙ before.tells;
      faults = faults ∙ before.faults;
      wants = wants ∙ before.wants;
      hands = λ tells.
          hands_then told port lines old mid new (handed card packet reference place) (piece_at card packet reference (place + 1) ∷ []) (handed card packet reference (place + 1)) (handed_more card packet reference place)
          (before.hands tells) (before.all tells)
          (hands_one told port lines mid new (piece_at card packet reference (place + 1)) (moments (then_tells tells)) (keeps (then_tells tells)) (content (then_tells tells)));
      all = λ tells.
          all_then told port lines old mid new (handed card packet reference place) (piece_at card packet reference (place + 1) ∷ []) (handed card packet reference (place + 1)) (handed_more card packet reference place)
          (before.all tells) (sent (then_tells tells));
    }

    -- after a fault the first pieces were handed over
    pub piece_stopped : (pieces : ℕ) → place + 1 ≤ pieces → Tells told old → HandsOver told port lines old new (handed card packet reference pieces)
    piece_stopped pieces within tells =
        let more = handed_first card packet reference (place + 1) pieces within in
        hands_more told port lines old new (handed card packet reference (place + 1)) more.0 (handed card packet reference pieces) more.1
        (hands_then told port lines old mid new (handed card packet reference place) (piece_at card packet reference (place + 1) ∷ []) (handed card packet reference (place + 1)) (handed_more card packet reference place)
        (before.hands tells) (before.all tells)
        (hands_one told port lines mid new (piece_at card packet reference (place + 1)) (moments (then_tells tells)) (keeps (then_tells tells)) (content (then_tells tells))))
