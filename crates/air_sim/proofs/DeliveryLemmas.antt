-- The three moments of a delivery: before it, while the card is at work, and behind it.
use Rattle.std.specs.Prelude.{◌≡◌, ◌⊎◌, ◌≤◌, ℕ, zero, suc, ◌+◌, ◌-◌, Bool, true, false, cond, IsTrue, IfSome, Option, Some, None, unwrap_or, List, [], ◌∷◌, ◌++◌, length, map, take, refl}
use Rattle.std.proofs.Common.{inl, inr, ⊎_elim, arith, sym, ◌∙◌, ap, subst, append_assoc, length-append}
use Rattle.std.proofs.lemmas.Bool.{cases_lt}
use Rattle.std.proofs.lemmas.List.{append-nil, take_at}
use Rattle.disk_model.specs.Disk.{Meaning, PastStands, Tells, image_now}
use Rattle.ota_core.specs.declared.cards.CardFacts.{CardFacts}
use Rattle.ota_core.specs.declared.cards.CardId.{CardId}
use Rattle.receiving_entity.specs.Card.{CardValue}
use Rattle.site_model.specs.Cards.{GoesOn, Grows, IsLineOf, IsOfCards, IsTaken, Keeps}
use Rattle.site_model.specs.declared.departures.Departure.{Departure}
use Rattle.site_model.specs.Port.{PortState}
use Rattle.site_model.specs.Runs.{PortRun}
use Rattle.world_core.specs.Card.{IsCardState}
use Rattle.world_core.specs.MemberLaws.{In-cases}
use Rattle.world_core.specs.Members.{Begins, In}
use Rattle.world_core.specs.declared.answers.Made.{Made}
use Rattle.world_core.specs.declared.lines.Line.{Line}
use Rattle.air_sim.specs.declared.notes.Delivery.{Delivery}
use Rattle.air_sim.specs.declared.notes.Note.{Note}
use Rattle.air_sim.specs.declared.notes.Note.TheVariants.{Quiet, AtWork}
use Rattle.air_sim.specs.declared.parts.Parts.{Parts}
use Rattle.air_sim.specs.declared.sim_site.SimSite.{SimSite}
use Rattle.air_sim.specs.Answers.{made_by, made_by_there}
use Rattle.air_sim.specs.CardRuns.{AreLogged, IsLogged, LogGrows}
use Rattle.air_sim.specs.Cards.{card_of, facts_in, facts_of, number_of, with_card}
use Rattle.air_sim.specs.Lines.{LinesByCard, lines_for}
use Rattle.air_sim.specs.Logged.{logged}
use Rattle.air_sim.specs.Moments.{moment_at}
use Rattle.air_sim.specs.Told.{Moment, Leaves, LeavesAt, WhereTold, given_in, made_at, made_in, made_of_cards, moment_of, polls_in, port_by, sim_told}
use Rattle.air_sim.specs.ToldLaws.{at_now}
use Rattle.air_sim.proofs.FindLemmas.{facts_found, facts_stay, found_new, found_there}
use Rattle.air_sim.proofs.LogLemmas.{goes_further, logged_is_card}
use Rattle.air_sim.proofs.PastLemmas.{given_in-append, polls_in-append, image_is_now, leaves_now, longer, made_in_rest, made_in_work, now_is_image, now_leaves, past_stands, port_is}
use Rattle.air_sim.proofs.RestLemmas.{begins_same, goes_same, grows_same}
use Rattle.air_sim.proofs.WorkLemmas.{began_goes, began_grows, began_is, put, work_began, work_ended}

second_at : {X : Type 0} (past : List X) (a b now : X) (k : ℕ) → k ≡ length past + 1 → moment_at (past ++ a ∷ b ∷ []) now k ≡ b
second_at [] a b now zero is = absurd (omega (arith, is))
second_at [] a b now (suc zero) is = refl
second_at [] a b now (suc (suc k)) is = absurd (omega (arith, is))
second_at (moment ∷ past) a b now zero is = absurd (omega (arith, is))
second_at (moment ∷ past) a b now (suc k) is = second_at past a b now k (omega (arith, is))

module _ {D B C : Type 0} (told : Meaning D B C) (old new : SimSite D B C) (delivery : Delivery) (worked : Parts D B C)
    (is : new.past.items ≡ old.past.items ++ (old.parts, Quiet) ∷ (worked, AtWork delivery) ∷ [])
    (new_cards : new.parts.cards.items ≡ worked.cards.items) (new_journal : new.parts.journal ≡ old.parts.journal) (worked_journal : worked.journal ≡ old.parts.journal)
    (new_sent : new.parts.sent.items ≡ old.parts.sent.items) (worked_sent : worked.sent.items ≡ old.parts.sent.items)
    (card after : CardValue D) (found : card_of (number_of after) old.parts.cards.items ≡ Some card) (worked_cards : worked.cards.items ≡ with_card after old.parts.cards.items)
    (numbered : delivery.card.0 ≡ number_of after) (same_tells : told.tells after.store.disk ≡ told.tells card.store.disk)
    (grows : Tells told card.store.disk → LogGrows told card after) (facts : after.store.facts ≡ card.store.facts)
    (answers : Tells told card.store.disk → delivery.answered ≡ true → AreLogged told card after delivery.message.items) where
  abbrev site : Meaning (SimSite D B C) PortState LinesByCard
  site = sim_told told

  abbrev cards : List (CardValue D)
  cards = old.parts.cards.items

  abbrev cards' : List (CardValue D)
  cards' = with_card after cards

  abbrev n : ℕ
  n = length old.past.items

  abbrev m : ℕ
  m = n + 1

  abbrev e : ℕ
  e = site.clock new

  stood : PastStands site old new
  stood = past_stands told old new Quiet ((worked, AtWork delivery) ∷ []) tt is

  end_is : e ≡ n + 1 + 1
  end_is = longer told old new Quiet ((worked, AtWork delivery) ∷ []) tt is

  at_three : (P : ℕ → Type 0) → P n → P m → P e → (k : ℕ) → n ≤ k → k ≤ e → P k
  at_three P first mid last k low high =
      ⊎_elim
      (λ early. subst P (omega (arith, early, low)) first)
      (λ rest. ⊎_elim (λ middle. subst P (omega (arith, middle, rest)) mid) (λ late. subst P (omega (arith, late, high, end_is)) last) (cases_lt k (n + 2)))
      (cases_lt k (n + 1))

  pairs : (P : ℕ → ℕ → Type 0) → P n n → P n m → P n e → P m m → P m e → P e e → (k l : ℕ) → n ≤ k → k ≤ l → l ≤ e → P k l
  pairs P nn nm ne mm me ee k l low le high =
      at_three (λ (j : ℕ). j ≤ l → P j l)
      (λ at. at_three (λ (j : ℕ). P n j) nn nm ne l (omega (arith, low, le)) high)
      (λ at. at_three (λ (j : ℕ). m ≤ j → P m j) (λ no. absurd (omega (arith, no))) (λ _. mm) (λ _. me) l (omega (arith, low, le)) high at)
      (λ at. subst (λ (j : ℕ). P e j) (omega (arith, at, high)) ee)
      k low (omega (arith, le, high)) le

  -- ---- the moments

  mid_is : moment_of told new m ≡ (worked, AtWork delivery)
  mid_is = ap (λ (l : List (Moment D B C)). moment_at l (new.parts, Quiet) m) is ∙ second_at old.past.items (old.parts, Quiet) (worked, AtWork delivery) (new.parts, Quiet) m refl

  before_mid : moment_of told new (m - 1) ≡ moment_of told new n
  before_mid = ap (moment_of told new) (omega arith)

  first_is : (moment_of told new n).0 ≡ old.parts
  first_is =
      ap (λ (l : List (Moment D B C)). (moment_at l (new.parts, Quiet) n).0) is ∙ first_parts old.past.items ((worked, AtWork delivery) ∷ []) (new.parts, Quiet)
    where
      first_parts : (past more : List (Moment D B C)) (now : Moment D B C) → (moment_at (past ++ (old.parts, Quiet) ∷ more) now (length past)).0 ≡ old.parts
      first_parts [] more now = refl
      first_parts (moment ∷ past) more now = first_parts past more now

  -- ---- the port

  abbrev early : PortState
  early = port_by told old.past.items old.parts

  abbrev new_made : List Made
  new_made = made_at told old.parts (worked, AtWork delivery)

  abbrev late : PortState
  late = record {
    sent = old.parts.sent.items;
    given = given_in old.past.items;
    facts = facts_in cards;
    made = made_in told old.past.items ++ new_made;
    polls = polls_in old.past.items;
  }

  facts_same : facts_in cards' ≡ facts_in cards
  facts_same = facts_stay after card cards facts found

  abbrev state : List Departure → List (CardId × List ℕ) → List CardFacts → List Made → ℕ → PortState
  state sent given own made polls = record { sent = sent; given = given; facts = own; made = made; polls = polls }

  five : (s s' : List Departure) (g g' : List (CardId × List ℕ)) (f f' : List CardFacts) (a a' : List Made) (p p' : ℕ) → s ≡ s' → g ≡ g' → f ≡ f' → a ≡ a' → p ≡ p' → state s g f a p ≡ state s' g' f' a' p'
  five s s' g g' f f' a a' p p' es eg ef ea ep =
      ap (λ x. state x g f a p) es ∙ ap (λ x. state s' x f a p) eg ∙ ap (λ x. state s' g' x a p) ef ∙ ap (λ x. state s' g' f' x p) ea ∙ ap (λ x. state s' g' f' a' x) ep

  at_n : site.beside_at new n ≡ early
  at_n = stood.beside n (omega arith) ∙ port_is told old

  at_m : site.beside_at new m ≡ early
  at_m =
      let one : List (Moment D B C) = old.past.items ++ (old.parts, Quiet) ∷ [] in
      let taken : take m new.past.items ≡ one =
      ap (take m) (is ∙ sym (append_assoc old.past.items ((old.parts, Quiet) ∷ []) ((worked, AtWork delivery) ∷ [])))
      ∙ take_at one ((worked, AtWork delivery) ∷ []) m (omega (arith, length-append old.past.items ((old.parts, Quiet) ∷ []))) in
      ap (λ (l : List (Moment D B C)). port_by told l (moment_of told new m).0) taken
      ∙ ap (λ (x : Moment D B C). port_by told one x.0) mid_is
      ∙ five worked.sent.items old.parts.sent.items (given_in one) (given_in old.past.items) (facts_in worked.cards.items) (facts_in cards) (made_in told one) (made_in told old.past.items) (polls_in one) (polls_in old.past.items)
      worked_sent
      (given_in-append told old.past.items ((old.parts, Quiet) ∷ []) ∙ append-nil (given_in old.past.items))
      (ap facts_in worked_cards ∙ facts_same)
      (made_in_rest told old.past.items old.parts Quiet tt)
      (omega (arith, polls_in-append told old.past.items ((old.parts, Quiet) ∷ [])))

  at_e : site.beside_at new e ≡ late
  at_e =
      let two : List (Moment D B C) = (old.parts, Quiet) ∷ (worked, AtWork delivery) ∷ [] in
      port_is told new
      ∙ five new.parts.sent.items old.parts.sent.items (given_in new.past.items) (given_in old.past.items) (facts_in new.parts.cards.items) (facts_in cards) (made_in told new.past.items) (made_in told old.past.items ++ new_made) (polls_in new.past.items) (polls_in old.past.items)
      new_sent
      (ap given_in is ∙ given_in-append told old.past.items two ∙ append-nil (given_in old.past.items))
      (ap facts_in (new_cards ∙ worked_cards) ∙ facts_same)
      (ap (made_in told) is ∙ made_in_work told old.past.items old.parts worked delivery)
      (omega (arith, ap polls_in is, polls_in-append told old.past.items two))

  now_is : site.beside_at old n ≡ early
  now_is = port_is told old

  by_port : (Q : PortState → Type 0) → Q early → Q late → (k : ℕ) → n ≤ k → k ≤ e → Q (site.beside_at new k)
  by_port Q first last = at_three (λ (j : ℕ). Q (site.beside_at new j)) (subst Q (sym at_n) first) (subst Q (sym at_m) first) (subst Q (sym at_e) last)

  by_ports : (Q : PortState → PortState → Type 0) → Q early early → Q early late → Q late late → (k l : ℕ) → n ≤ k → k ≤ l → l ≤ e → Q (site.beside_at new k) (site.beside_at new l)
  by_ports Q first both last = pairs (λ (k l : ℕ). Q (site.beside_at new k) (site.beside_at new l))
      (here n at_n n at_n first) (here n at_n m at_m first) (here n at_n e at_e both) (here m at_m m at_m first) (here m at_m e at_e both) (here e at_e e at_e last)
    where
      here : {p q : PortState} (k : ℕ) → site.beside_at new k ≡ p → (l : ℕ) → site.beside_at new l ≡ q → Q p q → Q (site.beside_at new k) (site.beside_at new l)
      here {p = p} {q = q} k at_k l at_l holds = subst (λ (x : PortState). Q x (site.beside_at new l)) (sym at_k) (subst (λ (x : PortState). Q p x) (sym at_l) holds)

  -- ---- the images

  image_at_n : (image : List ℕ) → site.image_at new n image → image_now site old image
  image_at_n image at = stood.no_more n image (omega arith) at

  image_at_m : (image : List ℕ) → site.image_at new m image → image_now site old image
  image_at_m image at = now_is_image told old image (subst (λ (d : D). image_now told d image) worked_journal (subst (λ (x : Moment D B C). image_now told x.0.journal image) mid_is at))

  image_at_e : (image : List ℕ) → site.image_at new e image → image_now site old image
  image_at_e image at = now_is_image told old image (subst (λ (d : D). image_now told d image) new_journal (image_is_now told new image at))

  n_image : (image : List ℕ) → image_now site old image → site.image_at new n image
  n_image image now = stood.no_fewer n image (omega arith) now

  m_image : (image : List ℕ) → image_now site old image → site.image_at new m image
  m_image image now = subst (λ (x : Moment D B C). image_now told x.0.journal image) (sym mid_is) (subst (λ (d : D). image_now told d image) (sym worked_journal) (image_is_now told old image now))

  e_image : (image : List ℕ) → image_now site old image → site.image_at new e image
  e_image image now = now_is_image told new image (subst (λ (d : D). image_now told d image) (sym new_journal) (image_is_now told old image now))

  pub work_port : (Q : PortState → Type 0) → Q early → Q late → PortRun site old new Q
  work_port Q first last = record {
    past = stood;
    images_stand = λ k image low high at. at_three (λ (j : ℕ). site.image_at new j image → image_now site old image) (image_at_n image) (image_at_m image) (image_at_e image) k low high at;
    images_stay = λ k image low high now. at_three (λ (j : ℕ). image_now site old image → site.image_at new j image) (n_image image) (m_image image) (e_image image) k low high now;
    each = by_port Q first last;
  }

  -- ---- what may be chosen

  leaves_m : (choice : LinesByCard) → site.choice_at new m choice → Leaves told cards cards' choice
  leaves_m choice at =
      subst (λ (l : List (CardValue D)). Leaves told cards l choice) worked_cards
      (subst (λ (p : Parts D B C). Leaves told p.cards.items worked.cards.items choice) first_is
      (subst (λ (x : Moment D B C). Leaves told x.0.cards.items worked.cards.items choice) before_mid
      (subst (λ (x : Moment D B C). LeavesAt told (moment_of told new (m - 1)).0 x choice) mid_is at)))

  m_leaves : (choice : LinesByCard) → Leaves told cards cards' choice → site.choice_at new m choice
  m_leaves choice leaves =
      subst (λ (x : Moment D B C). LeavesAt told (moment_of told new (m - 1)).0 x choice) (sym mid_is)
      (subst (λ (x : Moment D B C). Leaves told x.0.cards.items worked.cards.items choice) (sym before_mid)
      (subst (λ (p : Parts D B C). Leaves told p.cards.items worked.cards.items choice) (sym first_is)
      (subst (λ (l : List (CardValue D)). Leaves told cards l choice) (sym worked_cards) leaves)))

  leaves_e : (choice : LinesByCard) → site.choice_at new e choice → Leaves told cards' cards' choice
  leaves_e choice at = subst (λ (l : List (CardValue D)). Leaves told l l choice) (new_cards ∙ worked_cards) (now_leaves told new choice at)

  n_choice : (choice : LinesByCard) → Leaves told cards cards choice → site.choice_at new n choice
  n_choice choice leaves = stood.no_fewer_choices n choice (omega arith) (leaves_now told old choice leaves)

  choice_n : (choice : LinesByCard) → site.choice_at new n choice → site.choice_at old n choice
  choice_n choice at = stood.no_more_choices n choice (omega arith) at

  abbrev ended : (choice : LinesByCard) → Leaves told cards' cards' choice → Leaves told cards cards' choice
  ended choice leaves = work_ended told card after cards found same_tells grows facts choice leaves

  abbrev began : (choice : LinesByCard) → Leaves told cards cards' choice → LinesByCard
  began choice leaves = put told card after cards found same_tells grows facts choice leaves

  began_leaves : (choice : LinesByCard) (leaves : Leaves told cards cards' choice) → Leaves told cards cards (began choice leaves)
  began_leaves choice leaves = work_began told card after cards found same_tells grows facts choice leaves

  -- what was chosen before, behind which stands what is chosen at a moment
  pub record Begun (now : LinesByCard) : Type 0 where
    pub before : LinesByCard
    pub may : site.choice_at old n before
    pub goes : (other : ℕ) → GoesOn (lines_for before other) (lines_for now other)
    pub grown : (of : CardFacts) → In of (facts_in cards) → Grows of (lines_for before of.card.0) (lines_for now of.card.0)
    pub same : (other : ℕ) → (lines_for now other ≡ lines_for before other) ⊎ ((other ≡ number_of after) × ((image : List ℕ) × (lines_for now other ≡ logged card.store.facts image)))

  own_facts : (of : CardFacts) → In of (facts_in cards) → of.card.0 ≡ number_of after → of ≡ facts_of card
  own_facts of there at = facts_found of card cards there (subst (λ (k : ℕ). card_of k cards ≡ Some card) (sym at) found)

  begun_same : (now : LinesByCard) → site.choice_at old n now → Begun now
  begun_same now at = record { before = now; may = at; goes = λ other. goes_same (lines_for now other); grown = λ of there. grows_same of (lines_for now of.card.0); same = λ other. inl refl }

  begun_m : (now : LinesByCard) → Leaves told cards cards' now → Begun now
  begun_m now leaves = record {
    before = began now leaves;
    may = leaves_now told old (began now leaves) (began_leaves now leaves);
    goes = began_goes told card after cards found same_tells grows facts now leaves;
    grown = λ of there. began_grows told card after cards found same_tells grows facts now leaves of (own_facts of there);
    same = began_is told card after cards found same_tells grows facts now leaves;
  }

  begun : (k : ℕ) (now : LinesByCard) → n ≤ k → k ≤ e → site.choice_at new k now → Begun now
  begun k now low high = at_three (λ (j : ℕ). site.choice_at new j now → Begun now)
      (λ at. begun_same now (choice_n now at)) (λ at. begun_m now (leaves_m now at)) (λ at. begun_m now (ended now (leaves_e now at))) k low high

  -- what was chosen at an earlier moment
  abbrev Earlier : ℕ → LinesByCard → Type 0
  Earlier k now = (before : LinesByCard) × site.choice_at new k before × ((other : ℕ) → GoesOn (lines_for before other) (lines_for now other))

  earlier_n : (now : LinesByCard) → Begun now → Earlier n now
  earlier_n now b = (b.before, stood.no_fewer_choices n b.before (omega arith) b.may, b.goes)

  earlier_same : (k : ℕ) (now : LinesByCard) → site.choice_at new k now → Earlier k now
  earlier_same k now at = (now, at, λ other. goes_same (lines_for now other))

  earlier : (k l : ℕ) (now : LinesByCard) → n ≤ k → k ≤ l → l ≤ e → site.choice_at new l now → Earlier k now
  earlier k l now = pairs (λ (i j : ℕ). site.choice_at new j now → Earlier i now)
      (earlier_same n now) (λ at. earlier_n now (begun_m now (leaves_m now at))) (λ at. earlier_n now (begun_m now (ended now (leaves_e now at))))
      (earlier_same m now) (λ at. (now, m_leaves now (ended now (leaves_e now at)), λ other. goes_same (lines_for now other)))
      (earlier_same e now) k l

  -- ---- states and answers

  abbrev IsState : CardFacts → List Line → Type 0
  IsState of lines = IsCardState (record { facts = of; log = lines })

  state_of : (of : CardFacts) (now : LinesByCard) (b : Begun now) → In of (facts_in cards) → IsState of (lines_for b.before of.card.0) → IsState of (lines_for now of.card.0)
  state_of of now b there before =
      ⊎_elim
      (λ (same : lines_for now of.card.0 ≡ lines_for b.before of.card.0). subst (IsState of) (sym same) before)
      (λ (own : (of.card.0 ≡ number_of after) × ((image : List ℕ) × (lines_for now of.card.0 ≡ logged card.store.facts image))).
      subst (IsState of) (sym own.1.1) (subst (λ (f : CardFacts). IsState of (logged f own.1.0)) (own_facts of there own.0) (logged_is_card of own.1.0)))
      (b.same of.card.0)

  -- an answer that joined at the end
  answer_is : (made : Made) → In made new_made
      → IsOfCards (facts_in cards) made × (IsTaken made.status → (now : LinesByCard) → Leaves told cards' cards' now → (line : Line) × In line (lines_for now made.keyset.card.0) × IsLineOf made line)
  answer_is made there = by_answered delivery.answered refl there
    where
      by_logged : Tells told after.store.disk → IsLogged told card after made
          → IsOfCards (facts_in cards) made × (IsTaken made.status → (now : LinesByCard) → Leaves told cards' cards' now → (line : Line) × In line (lines_for now made.keyset.card.0) × IsLineOf made line)
      by_logged tells it = (
        record { card = card.store.facts; is_there = found_there (number_of after) card cards found; of_card = it.of_card; of_keyset = it.of_keyset },
        λ taken now leaves.
            let number_is : made.keyset.card.0 ≡ number_of after = ap (λ (c : CardId). c.0) it.of_keyset ∙ ap (λ (f : CardFacts). f.card.0) (sym facts) in
            let may : WhereTold told after after (lines_for now (number_of after)) =
            subst (λ (o : Option (CardValue D)). IfSome o (λ c. WhereTold told (unwrap_or o c) c (lines_for now (number_of after)))) (found_new card after cards found) (leaves (number_of after)) in
            let left = may tells in
            let now_image : image_now told after.store.disk left.image = subst (λ (j : ℕ). told.image_at after.store.disk j left.image) (omega (arith, left.not_before, left.not_after)) left.at in
            let stands = it.stands taken left.image now_image in
            let lines_are : lines_for now made.keyset.card.0 ≡ logged card.store.facts left.image = ap (lines_for now) number_is ∙ left.opens ∙ ap (λ (f : CardFacts). logged f left.image) facts in
            (stands.0, subst (In stands.0) (sym lines_are) stands.1, stands.2),
      )

      by_told : (b : Bool) → told.tells after.store.disk ≡ b → delivery.answered ≡ true → In made (made_by told card after delivery.message.items)
          → IsOfCards (facts_in cards) made × (IsTaken made.status → (now : LinesByCard) → Leaves told cards' cards' now → (line : Line) × In line (lines_for now made.keyset.card.0) × IsLineOf made line)
      by_told true tells_is answered at =
          by_logged (subst IsTrue (sym tells_is) refl) (answers (subst IsTrue (sym (sym same_tells ∙ tells_is)) refl) answered made at)
      by_told false silent answered at = absurd (subst (λ (b : Bool). In made (cond b (made_by_there told card after delivery.message.items) [])) silent at)

      by_answered : (b : Bool) → delivery.answered ≡ b → In made (cond b (made_of_cards told (card_of delivery.card.0 cards) (card_of delivery.card.0 worked.cards.items) delivery.message.items) [])
          → IsOfCards (facts_in cards) made × (IsTaken made.status → (now : LinesByCard) → Leaves told cards' cards' now → (line : Line) × In line (lines_for now made.keyset.card.0) × IsLineOf made line)
      by_answered false silent at = absurd at
      by_answered true answered at =
          by_told (told.tells after.store.disk) refl answered
          (subst (λ (o : Option (CardValue D)). In made (made_of_cards told (Some card) o delivery.message.items)) (ap (card_of (number_of after)) worked_cards ∙ found_new card after cards found)
          (subst (λ (o : Option (CardValue D)). In made (made_of_cards told o (card_of (number_of after) worked.cards.items) delivery.message.items)) found
          (subst (λ (k : ℕ). In made (made_of_cards told (card_of k cards) (card_of k worked.cards.items) delivery.message.items)) numbered at)))

  -- an answer of a moment was there before, or its line is there
  abbrev Answered : ℕ → Made → Type 0
  Answered k made =
      In made (site.beside_at old n).made
      ⊎ (IsOfCards (site.beside_at old n).facts made × (IsTaken made.status → (now : LinesByCard) → site.choice_at new k now → (line : Line) × In line (lines_for now made.keyset.card.0) × IsLineOf made line))

  pub work_keeps : Keeps site (λ (port : PortState). port) lines_for old new
  work_keeps = record {
    facts = by_port (λ (p : PortState). p.facts ≡ (site.beside_at old n).facts) (ap (λ (p : PortState). p.facts) (sym now_is)) (ap (λ (p : PortState). p.facts) (sym now_is));
    sent = by_ports (λ (p q : PortState). Begins p.sent q.sent) (begins_same old.parts.sent.items) (begins_same old.parts.sent.items) (begins_same old.parts.sent.items);
    given = by_ports (λ (p q : PortState). Begins p.given q.given) (begins_same (given_in old.past.items)) (begins_same (given_in old.past.items)) (begins_same (given_in old.past.items));
    made = by_ports (λ (p q : PortState). Begins p.made q.made) (begins_same (made_in told old.past.items)) (new_made, refl) (begins_same (made_in told old.past.items ++ new_made));
    polls = by_ports (λ (p q : PortState). p.polls ≤ q.polls) (omega arith) (omega arith) (omega arith);
    grows = λ k now low high at. let b = begun k now low high at in (b.before, b.may, λ of there. b.grown of (subst (λ (p : PortState). In of p.facts) now_is there));
    goes_on = λ k l now low le high at. earlier k l now low le high at;
    states = λ states k now of low high at there.
        let b = begun k now low high at in
        state_of of now b (subst (λ (p : PortState). In of p.facts) now_is there) (states b.before of b.may there);
    answers = λ k made low high in_made. joined k made low high in_made;
  }
    where
      was : (k : ℕ) (made : Made) → In made early.made → Answered k made
      was k made there = inl (subst (λ (p : PortState). In made p.made) (sym now_is) there)

      at_end : (made : Made) → In made late.made → Answered e made
      at_end made there =
          ⊎_elim (was e made)
          (λ (new_one : In made new_made).
          let it = answer_is made new_one in
          inr (subst (λ (p : PortState). IsOfCards p.facts made) (sym now_is) it.0, λ taken now at. it.1 taken now (leaves_e now at)))
          (In-cases made (made_in told old.past.items) new_made there)

      joined : (k : ℕ) (made : Made) → n ≤ k → k ≤ e → In made (site.beside_at new k).made → Answered k made
      joined k made low high = at_three (λ (j : ℕ). In made (site.beside_at new j).made → Answered j made)
          (λ at. was n made (subst (λ (p : PortState). In made p.made) at_n at))
          (λ at. was m made (subst (λ (p : PortState). In made p.made) at_m at))
          (λ at. at_end made (subst (λ (p : PortState). In made p.made) at_e at)) k low high
