-- What the cards of a site keep in a moment at which none is at work.
use Rattle.std.specs.Prelude.{◌≡◌, ◌⊎◌, ◌≤◌, ℕ, ◌+◌, true, List, [], ◌∷◌, ◌++◌, length, map, refl}
use Rattle.std.proofs.Common.{inl, inr, ⊎_elim, arith, sym, ◌∙◌, ap, subst}
use Rattle.std.proofs.lemmas.Bool.{cases_lt}
use Rattle.std.proofs.lemmas.List.{append-nil}
use Rattle.disk_model.specs.Disk.{Meaning}
use Rattle.ota_core.specs.declared.cards.CardFacts.{CardFacts}
use Rattle.ota_core.specs.declared.cards.CardId.{CardId}
use Rattle.site_model.specs.Cards.{GoesOn, Grows, IsFurther, IsLineOf, IsOfCards, IsTaken, Keeps, port_now}
use Rattle.site_model.specs.declared.departures.Departure.{Departure}
use Rattle.site_model.specs.Port.{PortState}
use Rattle.world_core.specs.Card.{IsCardState}
use Rattle.world_core.specs.Members.{Begins, In}
use Rattle.world_core.specs.declared.answers.Made.{Made}
use Rattle.world_core.specs.declared.lines.Line.{Line}
use Rattle.air_sim.specs.declared.notes.Note.{Note}
use Rattle.air_sim.specs.declared.sim_site.SimSite.{SimSite}
use Rattle.air_sim.specs.Cards.{facts_in}
use Rattle.air_sim.specs.Lines.{LinesByCard, lines_for}
use Rattle.air_sim.specs.Told.{given_by, given_in, polls_by, polls_in, made_in, port_by, sim_told}
use Rattle.air_sim.proofs.PastLemmas.{IsRest, past_stands, port_is, longer}
use Rattle.air_sim.proofs.StepLemmas.{at_both, beside_early, port_then, choice_early, choice_late, early_choice, late_choice}

-- ---- lines as they are

pub goes_same : (lines : List Line) → GoesOn lines lines
goes_same [] = tt
goes_same (line ∷ lines) =
    (record { keyset = refl; counter = refl; tar = refl; body = refl; status = refl; executed = omega arith; finished = λ ended. refl }, goes_same lines)

pub grows_same : (facts : CardFacts) (lines : List Line) → Grows facts lines lines
grows_same facts lines = ([], sym (append-nil lines), tt)

pub begins_same : {X : Type 0} (xs : List X) → Begins xs xs
begins_same xs = ([], sym (append-nil xs))

begins_is : {X : Type 0} (xs ys : List X) → ys ≡ xs → Begins xs ys
begins_is xs ys is = ([], is ∙ sym (append-nil xs))

module _ {D B C : Type 0} (told : Meaning D B C) (old new : SimSite D B C) (note : Note) (rests : IsRest note) (is : new.past.items ≡ old.past.items ++ (old.parts, note) ∷ []) (cards : new.parts.cards.items ≡ old.parts.cards.items)
    (more : List Departure) (sent : new.parts.sent.items ≡ old.parts.sent.items ++ more) where
  abbrev site : Meaning (SimSite D B C) PortState LinesByCard
  site = sim_told told

  abbrev n : ℕ
  n = length old.past.items

  abbrev early : PortState
  early = port_by told old.past.items old.parts

  abbrev late : PortState
  late = record {
    sent = new.parts.sent.items;
    given = given_in old.past.items ++ given_by (old.parts, note);
    facts = facts_in old.parts.cards.items;
    made = made_in told old.past.items;
    polls = polls_in old.past.items + polls_by note;
  }

  at_n : site.beside_at new n ≡ early
  at_n = beside_early told old new note rests is

  at_end : site.beside_at new (site.clock new) ≡ late
  at_end = port_then told old new note rests is cards

  now_is : site.beside_at old n ≡ early
  now_is = port_is told old

  by_port : (Q : PortState → Type 0) → Q early → Q late → (k : ℕ) → n ≤ k → k ≤ site.clock new → Q (site.beside_at new k)
  by_port Q first last = at_both told old new note rests is (λ (j : ℕ). Q (site.beside_at new j)) (subst Q (sym at_n) first) (subst Q (sym at_end) last)

  clock_is : site.clock new ≡ n + 1
  clock_is = omega (arith, longer told old new note [] rests is)

  -- of two moments, the one not before the other
  pairs : (P : ℕ → ℕ → Type 0) → P n n → P n (site.clock new) → P (site.clock new) (site.clock new) → (k l : ℕ) → n ≤ k → k ≤ l → l ≤ site.clock new → P k l
  pairs P first both last k l low le high =
      at_both told old new note rests is (λ (j : ℕ). j ≤ l → P j l)
      (λ at. at_both told old new note rests is (λ (j : ℕ). P n j) first both l (omega (arith, low, le)) high)
      (λ at. subst (λ (j : ℕ). P (site.clock new) j) (omega (arith, at, high)) last)
      k low (omega (arith, le, high)) le

  by_ports : (Q : PortState → PortState → Type 0) → Q early early → Q early late → Q late late → (k l : ℕ) → n ≤ k → k ≤ l → l ≤ site.clock new → Q (site.beside_at new k) (site.beside_at new l)
  by_ports Q first both last = pairs (λ (k l : ℕ). Q (site.beside_at new k) (site.beside_at new l))
      (subst (λ (p : PortState). Q p p) (sym at_n) first)
      (subst (λ (p : PortState). Q p (site.beside_at new (site.clock new))) (sym at_n) (subst (λ (p : PortState). Q early p) (sym at_end) both))
      (subst (λ (p : PortState). Q p p) (sym at_end) last)

  then_choice : (k : ℕ) (choice : LinesByCard) → n ≤ k → k ≤ site.clock new → site.choice_at new k choice → site.choice_at old n choice
  then_choice k choice low high = at_both told old new note rests is (λ (j : ℕ). site.choice_at new j choice → site.choice_at old n choice)
      (choice_early told old new note rests is choice) (choice_late told old new note rests is cards choice) k low high

  choice_then : (k : ℕ) (choice : LinesByCard) → n ≤ k → k ≤ site.clock new → site.choice_at old n choice → site.choice_at new k choice
  choice_then k choice low high = at_both told old new note rests is (λ (j : ℕ). site.choice_at old n choice → site.choice_at new j choice)
      (early_choice told old new note rests is choice) (late_choice told old new note rests is cards choice) k low high

  pub rest_keeps : Keeps site (λ (port : PortState). port) lines_for old new
  rest_keeps = record {
    facts = by_port (λ (p : PortState). p.facts ≡ (site.beside_at old n).facts) (ap (λ (p : PortState). p.facts) (sym now_is)) (ap (λ (p : PortState). p.facts) (sym now_is));
    sent = by_ports (λ (p q : PortState). Begins p.sent q.sent) (begins_same old.parts.sent.items) (more, sent) (begins_same new.parts.sent.items);
    given = by_ports (λ (p q : PortState). Begins p.given q.given) (begins_same (given_in old.past.items)) (given_by (old.parts, note), refl) (begins_same (given_in old.past.items ++ given_by (old.parts, note)));
    made = by_ports (λ (p q : PortState). Begins p.made q.made) (begins_same (made_in told old.past.items)) (begins_same (made_in told old.past.items)) (begins_same (made_in told old.past.items));
    polls = by_ports (λ (p q : PortState). p.polls ≤ q.polls) (omega arith) (omega arith) (omega arith);
    grows = λ k now low high at. (now, then_choice k now low high at, λ card there. grows_same card (lines_for now card.card.0));
    goes_on = λ k l now low le high at.
        (now, choice_then k now low (omega (arith, le, high)) (then_choice l now (omega (arith, low, le)) high at), λ card. goes_same (lines_for now card));
    states = λ states k now card low high at there. states now card (then_choice k now low high at) there;
    answers = λ k made low high in_made. inl (subst (λ (l : List Made). In made l) (ap (λ (p : PortState). p.made) (sym now_is))
        (by_port (λ (p : PortState). In made p.made → In made (made_in told old.past.items)) (λ x. x) (λ x. x) k low high in_made));
  }
