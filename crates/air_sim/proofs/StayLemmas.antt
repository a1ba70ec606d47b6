-- What a call of the port that does nothing leaves: all that is told stands as it was.
use Rattle.std.specs.Prelude.{◌≡◌, ◌⊎◌, ◌≤◌, ℕ, List, [], ◌++◌, length, refl}
use Rattle.std.proofs.Common.{inl, arith, sym, ◌∙◌, ap, subst}
use Rattle.std.proofs.lemmas.List.{append-nil}
use Rattle.disk_model.specs.Disk.{Meaning, PastStands, DiskRun, image_now}
use Rattle.disk_model.specs.Runs.{at_once}
use Rattle.ota_core.specs.declared.cards.CardFacts.{CardFacts}
use Rattle.site_model.specs.Cards.{Keeps}
use Rattle.site_model.specs.Port.{PortState}
use Rattle.site_model.specs.Runs.{PortRun}
use Rattle.world_core.specs.Members.{Begins, In}
use Rattle.world_core.specs.declared.answers.Made.{Made}
use Rattle.air_sim.specs.declared.sim_site.SimSite.{SimSite}
use Rattle.air_sim.specs.Lines.{LinesByCard, lines_for}
use Rattle.air_sim.specs.Told.{sim_told}
use Rattle.air_sim.proofs.PastLemmas.{image_is_now, now_is_image}
use Rattle.air_sim.proofs.RestLemmas.{goes_same, grows_same}
use Rattle.air_sim.proofs.CallLemmas.{unticked}

module _ {D B C : Type 0} (told : Meaning D B C) (old new : SimSite D B C) (is : new.past.items ≡ old.past.items) (journal : new.parts.journal ≡ old.parts.journal)
    (cards : new.parts.cards.items ≡ old.parts.cards.items) (sent : new.parts.sent.items ≡ old.parts.sent.items) where
  abbrev site : Meaning (SimSite D B C) PortState LinesByCard
  site = sim_told told

  abbrev n : ℕ
  n = length old.past.items

  abbrev P : List ℕ → Type 0
  P = image_now told old.parts.journal

  pub stay_run : DiskRun site old new P
  stay_run =
      unticked told old new cards sent P is (ap told.clock journal)
      (subst (λ (d : D). DiskRun told old.parts.journal d P) (sym journal) (at_once told old.parts.journal P (λ image now. now)))

  clock_is : site.clock new ≡ n
  clock_is = ap length is

  only : (k : ℕ) → n ≤ k → k ≤ site.clock new → k ≡ n
  only k low high = omega (arith, clock_is, low, high)

  port_same : (k : ℕ) → n ≤ k → k ≤ site.clock new → site.beside_at new k ≡ site.beside_at old n
  port_same k low high = stay_run.stands k low high

  pub stay_port : (Q : PortState → Type 0) → Q (site.beside_at old n) → PortRun site old new Q
  stay_port Q holds = record {
    past = stay_run.past;
    images_stand = λ k image low high at. now_is_image told old image (stay_run.each k image low high at);
    images_stay = λ k image low high now. subst (λ (j : ℕ). site.image_at new j image) (sym (only k low high)) (stay_run.past.no_fewer n image (omega arith) now);
    each = λ k low high. subst Q (sym (port_same k low high)) holds;
  }

  begins_same : {X : Type 0} (f : PortState → List X) (k l : ℕ) → n ≤ k → k ≤ l → l ≤ site.clock new → Begins (f (site.beside_at new k)) (f (site.beside_at new l))
  begins_same f k l low le high = ([], ap f (port_same l (omega (arith, low, le)) high ∙ sym (port_same k low (omega (arith, le, high)))) ∙ sym (append-nil (f (site.beside_at new k))))

  pub stay_keeps : Keeps site (λ (port : PortState). port) lines_for old new
  stay_keeps = record {
    facts = λ k low high. ap (λ (p : PortState). p.facts) (port_same k low high);
    sent = begins_same (λ (p : PortState). p.sent);
    given = begins_same (λ (p : PortState). p.given);
    made = begins_same (λ (p : PortState). p.made);
    polls = λ k l low le high. omega (arith, ap (λ (p : PortState). p.polls) (port_same l (omega (arith, low, le)) high ∙ sym (port_same k low (omega (arith, le, high)))));
    grows = λ k now low high at. (now, stay_run.choices_stand k now low high at, λ card there. grows_same card (lines_for now card.card.0));
    goes_on = λ k l now low le high at.
        (now, stay_run.choices_stay k now low (omega (arith, le, high)) (stay_run.choices_stand l now (omega (arith, low, le)) high at), λ card. goes_same (lines_for now card));
    states = λ states k now card low high at there. states now card (stay_run.choices_stand k now low high at) there;
    answers = λ k made low high in_made. inl (subst (λ (p : PortState). In made p.made) (port_same k low high) in_made);
  }
