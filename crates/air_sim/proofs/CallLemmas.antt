-- What a call of the disk makes of a site.
use Rattle.std.specs.Prelude.{◌≡◌, ◌⊎◌, ◌≤◌, ℕ, zero, suc, ◌+◌, ◌-◌, List, [], ◌∷◌, ◌++◌, length, take, map, Result, Ok, Err, OnOk, refl}
use Rattle.std.proofs.Common.{inl, inr, ⊎_elim, arith, sym, ◌∙◌, ap, subst, length-append}
use Rattle.std.proofs.lemmas.List.{append-nil}
use Rattle.disk_model.specs.declared.faults.DiskFault.{DiskFault}
use Rattle.disk_model.specs.declared.faults.DiskFault.TheVariants.{Failed, Memory}
use Rattle.disk_model.specs.Disk.{Meaning, PastStands, DiskRun, Ticks, Follows, Only, image_now}
use Rattle.disk_model.specs.Runs.{left_now, weaker}
use Rattle.ota_core.specs.declared.cards.CardFacts.{CardFacts}
use Rattle.ota_core.specs.declared.cards.CardId.{CardId}
use Rattle.receiving_entity.specs.Card.{CardValue}
use Rattle.site_model.specs.declared.departures.Departure.{Departure}
use Rattle.site_model.specs.Port.{PortState}
use Rattle.air_sim.specs.declared.notes.Note.TheVariants.{Quiet}
use Rattle.air_sim.specs.declared.parts.Parts.{Parts}
use Rattle.air_sim.specs.declared.sim_site.SimSite.{SimSite}
use Rattle.air_sim.specs.Cards.{facts_in}
use Rattle.air_sim.specs.Lines.{LinesByCard}
use Rattle.air_sim.specs.Moments.{moment_at}
use Rattle.air_sim.specs.Told.{Moment, Leaves, LeavesAt, given_by, given_in, polls_by, polls_in, made_in, moment_of, port_by, sim_told}
use Rattle.air_sim.specs.ToldLaws.{at_now}
use Rattle.air_sim.specs.Calls.{past_after}
use Rattle.air_sim.proofs.PastLemmas.{port_is, leaves_now, now_leaves, image_is_now, now_is_image}
use Rattle.air_sim.proofs.StepLemmas.{disk_run, port_then}

same_moment : {X : Type 0} (past : List X) (one other : X) (k : ℕ) → k ≤ length past → (moment_at past one k ≡ moment_at past other k) ⊎ (k ≡ length past)
same_moment [] one other zero le = inr refl
same_moment [] one other (suc k) le = absurd (omega (arith, le))
same_moment (moment ∷ past) one other zero le = inl refl
same_moment (moment ∷ past) one other (suc k) le = ⊎_elim inl (λ (e : k ≡ length past). inr (omega (arith, e))) (same_moment past one other k (omega (arith, le)))

module _ {D B C : Type 0} (told : Meaning D B C) (old new : SimSite D B C) where
  abbrev site : Meaning (SimSite D B C) PortState LinesByCard
  site = sim_told told

  abbrev n : ℕ
  n = length old.past.items

  -- the cards and what was sent are as they were
  module _ (cards : new.parts.cards.items ≡ old.parts.cards.items) (sent : new.parts.sent.items ≡ old.parts.sent.items) where
    same_port : (past : List (Moment D B C)) → port_by told past new.parts ≡ port_by told past old.parts
    same_port past =
        ap (λ (l : List Departure). record { sent = l; given = given_in past; facts = facts_in new.parts.cards.items; made = made_in told past; polls = polls_in past }) sent
        ∙ ap (λ (l : List CardFacts). record { sent = old.parts.sent.items; given = given_in past; facts = l; made = made_in told past; polls = polls_in past }) (ap facts_in cards)

    -- one moment more, whose port is as it was
    pub quiet_port : new.past.items ≡ old.past.items ++ (old.parts, Quiet) ∷ [] → site.beside_at new (site.clock new) ≡ site.beside_at old n
    quiet_port is =
        port_then told old new Quiet tt is cards
        ∙ ap (λ (l : List (CardId × List ℕ)). record { sent = new.parts.sent.items; given = l; facts = facts_in old.parts.cards.items; made = made_in told old.past.items; polls = polls_in old.past.items + 0 }) (append-nil (given_in old.past.items))
        ∙ ap (λ (m : ℕ). record { sent = new.parts.sent.items; given = given_in old.past.items; facts = facts_in old.parts.cards.items; made = made_in told old.past.items; polls = m }) (omega arith)
        ∙ ap (λ (l : List Departure). record { sent = l; given = given_in old.past.items; facts = facts_in old.parts.cards.items; made = made_in told old.past.items; polls = polls_in old.past.items }) sent
        ∙ sym (port_is told old)

    ticked : (P : List ℕ → Type 0) → new.past.items ≡ old.past.items ++ (old.parts, Quiet) ∷ [] → DiskRun told old.parts.journal new.parts.journal P → DiskRun site old new P
    ticked P is run = disk_run told old new Quiet tt is cards P run (quiet_port is)

    -- no moment more
    module _ (P : List ℕ → Type 0) (is : new.past.items ≡ old.past.items) (ticks : told.clock new.parts.journal ≡ told.clock old.parts.journal) (run : DiskRun told old.parts.journal new.parts.journal P) where
      clocks : site.clock new ≡ n
      clocks = ap length is

      images_back : (image : List ℕ) → image_now told new.parts.journal image → image_now told old.parts.journal image
      images_back image now = run.past.no_more (told.clock old.parts.journal) image (omega arith) (subst (λ (k : ℕ). told.image_at new.parts.journal k image) ticks now)

      images_on : (image : List ℕ) → image_now told old.parts.journal image → image_now told new.parts.journal image
      images_on image now = subst (λ (k : ℕ). told.image_at new.parts.journal k image) (sym ticks) (run.past.no_fewer (told.clock old.parts.journal) image (omega arith) now)

      old_moment : (k : ℕ) → moment_of told new k ≡ moment_at old.past.items (new.parts, Quiet) k
      old_moment k = ap (λ (l : List (Moment D B C)). moment_at l (new.parts, Quiet) k) is

      -- a moment before now, or now
      by_moment : (Q : Moment D B C → Moment D B C → Type 0) (k : ℕ) → k ≤ n → ((moment : Moment D B C) → Q moment moment) → Q (new.parts, Quiet) (old.parts, Quiet) → Q (moment_of told new k) (moment_of told old k)
      by_moment Q k le same now =
          subst (λ (m : Moment D B C). Q m (moment_of told old k)) (sym (old_moment k))
          (⊎_elim
          (λ (e : moment_at old.past.items (new.parts, Quiet) k ≡ moment_at old.past.items (old.parts, Quiet) k). subst (λ (m : Moment D B C). Q m (moment_of told old k)) (sym e) (same (moment_of told old k)))
          (λ (e : k ≡ n). subst (λ (j : ℕ). Q (moment_at old.past.items (new.parts, Quiet) j) (moment_at old.past.items (old.parts, Quiet) j)) (sym e)
          (subst (λ (m : Moment D B C). Q m (moment_at old.past.items (old.parts, Quiet) n)) (sym (at_now old.past.items (new.parts, Quiet)))
          (subst (λ (m : Moment D B C). Q (new.parts, Quiet) m) (sym (at_now old.past.items (old.parts, Quiet))) now)))
          (same_moment old.past.items (new.parts, Quiet) (old.parts, Quiet) k le))

      cards_now : (choice : LinesByCard) → Leaves told new.parts.cards.items new.parts.cards.items choice → Leaves told old.parts.cards.items old.parts.cards.items choice
      cards_now choice leaves = subst (λ (l : List (CardValue D)). Leaves told l l choice) cards leaves

      cards_then : (choice : LinesByCard) → Leaves told old.parts.cards.items old.parts.cards.items choice → Leaves told new.parts.cards.items new.parts.cards.items choice
      cards_then choice leaves = subst (λ (l : List (CardValue D)). Leaves told l l choice) (sym cards) leaves

      -- what the cards leave depends on what they were before only where a card was at work
      by_cards : (choice : LinesByCard) (k : ℕ) → k ≤ n
          → (LeavesAt told (moment_of told new (k - 1)).0 (moment_of told new k) choice → LeavesAt told (moment_of told old (k - 1)).0 (moment_of told old k) choice)
          × (LeavesAt told (moment_of told old (k - 1)).0 (moment_of told old k) choice → LeavesAt told (moment_of told new (k - 1)).0 (moment_of told new k) choice)
      by_cards choice k le =
          ⊎_elim
          (λ (e : moment_at old.past.items (new.parts, Quiet) k ≡ moment_at old.past.items (old.parts, Quiet) k).
          ⊎_elim
          (λ (f : moment_at old.past.items (new.parts, Quiet) (k - 1) ≡ moment_at old.past.items (old.parts, Quiet) (k - 1)). both_ways (old_moment (k - 1) ∙ f) (old_moment k ∙ e))
          (λ (f : k - 1 ≡ n). now_too (omega (arith, f, le)))
          (same_moment old.past.items (new.parts, Quiet) (old.parts, Quiet) (k - 1) (omega (arith, le))))
          (λ (e : k ≡ n). now_too e)
          (same_moment old.past.items (new.parts, Quiet) (old.parts, Quiet) k le)
        where
          both_ways : moment_of told new (k - 1) ≡ moment_of told old (k - 1) → moment_of told new k ≡ moment_of told old k
              → (LeavesAt told (moment_of told new (k - 1)).0 (moment_of told new k) choice → LeavesAt told (moment_of told old (k - 1)).0 (moment_of told old k) choice)
              × (LeavesAt told (moment_of told old (k - 1)).0 (moment_of told old k) choice → LeavesAt told (moment_of told new (k - 1)).0 (moment_of told new k) choice)
          both_ways before at = (
            λ leaves. subst (λ (m : Moment D B C). LeavesAt told m.0 (moment_of told old k) choice) before (subst (λ (m : Moment D B C). LeavesAt told (moment_of told new (k - 1)).0 m choice) at leaves),
            λ leaves. subst (λ (m : Moment D B C). LeavesAt told (moment_of told new (k - 1)).0 m choice) (sym at) (subst (λ (m : Moment D B C). LeavesAt told m.0 (moment_of told old k) choice) (sym before) leaves),
          )

          now_too : k ≡ n
              → (LeavesAt told (moment_of told new (k - 1)).0 (moment_of told new k) choice → LeavesAt told (moment_of told old (k - 1)).0 (moment_of told old k) choice)
              × (LeavesAt told (moment_of told old (k - 1)).0 (moment_of told old k) choice → LeavesAt told (moment_of told new (k - 1)).0 (moment_of told new k) choice)
          now_too e =
              let new_is : moment_of told new k ≡ (new.parts, Quiet) = old_moment k ∙ ap (moment_at old.past.items (new.parts, Quiet)) e ∙ at_now old.past.items (new.parts, Quiet) in
              let old_is : moment_of told old k ≡ (old.parts, Quiet) = ap (moment_at old.past.items (old.parts, Quiet)) e ∙ at_now old.past.items (old.parts, Quiet) in (
                λ leaves. subst (λ (m : Moment D B C). LeavesAt told (moment_of told old (k - 1)).0 m choice) (sym old_is)
                    (cards_now choice (subst (λ (m : Moment D B C). LeavesAt told (moment_of told new (k - 1)).0 m choice) new_is leaves)),
                λ leaves. subst (λ (m : Moment D B C). LeavesAt told (moment_of told new (k - 1)).0 m choice) (sym new_is)
                    (cards_then choice (subst (λ (m : Moment D B C). LeavesAt told (moment_of told old (k - 1)).0 m choice) old_is leaves)),
              )

      stood : PastStands site old new
      stood = record {
        later = omega (arith, clocks);
        no_more = λ k image le at. by_moment (λ (a b : Moment D B C). image_now told a.0.journal image → image_now told b.0.journal image) k le (λ moment now. now) (images_back image) at;
        no_fewer = λ k image le at. by_moment (λ (a b : Moment D B C). image_now told b.0.journal image → image_now told a.0.journal image) k le (λ moment now. now) (images_on image) at;
        beside = λ k le.
            ap (λ (l : List (Moment D B C)). port_by told (take k l) (moment_of told new k).0) is
            ∙ by_moment (λ (a b : Moment D B C). port_by told (take k old.past.items) a.0 ≡ port_by told (take k old.past.items) b.0) k le (λ moment. refl) (same_port (take k old.past.items));
        no_more_choices = λ k choice le at. (by_cards choice k le).0 at;
        no_fewer_choices = λ k choice le at. (by_cards choice k le).1 at;
      }

      only_now : (k : ℕ) → n ≤ k → k ≤ site.clock new → k ≡ n
      only_now k low high = omega (arith, clocks, low, high)

      pub unticked : DiskRun site old new P
      unticked = record {
        past = stood;
        each = λ k image low high at.
            left_now told old.parts.journal new.parts.journal P run image
            (image_is_now told new image (subst (λ (j : ℕ). site.image_at new j image) (only_now k low high ∙ sym clocks) at));
        stands = λ k low high. ap (site.beside_at new) (only_now k low high) ∙ stood.beside n (omega arith);
        choices_stand = λ k choice low high at. stood.no_more_choices n choice (omega arith) (subst (λ (j : ℕ). site.choice_at new j choice) (only_now k low high) at);
        choices_stay = λ k choice low high at. subst (λ (j : ℕ). site.choice_at new j choice) (sym (only_now k low high)) (stood.no_fewer_choices n choice (omega arith) at);
      }

    -- each call of the disk
    pub call_run : {T : Type 0} (res : Result T DiskFault) (P Q : List ℕ → Type 0) → Ticks (told.clock old.parts.journal) (told.clock new.parts.journal) res
        → new.past.items ≡ past_after res old.past.items old.parts → DiskRun told old.parts.journal new.parts.journal P → ((image : List ℕ) → P image → Q image) → DiskRun site old new Q
    call_run (Ok value) P Q ticks is run then_q = ticked Q is (weaker told old.parts.journal new.parts.journal P Q run then_q)
    call_run (Err Failed) P Q ticks is run then_q = ticked Q is (weaker told old.parts.journal new.parts.journal P Q run then_q)
    call_run (Err Memory) P Q ticks is run then_q = unticked Q is ticks (weaker told old.parts.journal new.parts.journal P Q run then_q)

-- the clock of the site goes as that of its disk
pub call_ticks : {D B C T : Type 0} (res : Result T DiskFault) (old new : List (Moment D B C)) (parts : Parts D B C) → new ≡ past_after res old parts → Ticks (length old) (length new) res
call_ticks (Ok value) old new parts is = omega (arith, ap length is, length-append old ((parts, Quiet) ∷ []))
call_ticks (Err Failed) old new parts is = omega (arith, ap length is, length-append old ((parts, Quiet) ∷ []))
call_ticks (Err Memory) old new parts is = ap length is

-- what follows from an image of the journal follows from one of the site
pub follows_site : {D B C : Type 0} (told : Meaning D B C) (old : SimSite D B C) (step : List ℕ → List ℕ → Type 0) (image : List ℕ)
    → Follows step (image_now told old.parts.journal) image → Follows step (image_now (sim_told told) old) image
follows_site told old step image f = (f.0, now_is_image told old f.0 f.1, f.2)

-- after a sync a stop leaves what a read gives
pub durable_site : {D B C T : Type 0} (told : Meaning D B C) (octets : List ℕ) (new : SimSite D B C) (res : Result T DiskFault)
    → OnOk res (Only octets (image_now told new.parts.journal)) → OnOk res (Only octets (image_now (sim_told told) new))
durable_site told octets new (Ok value) only = λ image now. only image (image_is_now told new image now)
durable_site told octets new (Err fault) only = tt
