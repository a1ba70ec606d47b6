-- What one moment more makes of a site whose cards are not at work.
use Rattle.std.specs.Prelude.{◌≡◌, ◌⊎◌, ◌≤◌, ℕ, ◌+◌, ◌-◌, List, [], ◌∷◌, ◌++◌, length, take, map, Result, Ok, Err, refl}
use Rattle.std.proofs.Common.{inl, inr, ⊎_elim, arith, sym, ◌∙◌, ap, subst, length-append}
use Rattle.std.proofs.lemmas.Bool.{cases_lt}
use Rattle.std.proofs.lemmas.List.{append-nil}
use Rattle.disk_model.specs.declared.faults.DiskFault.{DiskFault}
use Rattle.disk_model.specs.declared.faults.DiskFault.TheVariants.{Failed, Memory}
use Rattle.disk_model.specs.Disk.{Meaning, PastStands, DiskRun, Ticks, Follows, image_now}
use Rattle.disk_model.specs.Runs.{left_now}
use Rattle.ota_core.specs.declared.cards.CardFacts.{CardFacts}
use Rattle.ota_core.specs.declared.cards.CardId.{CardId}
use Rattle.receiving_entity.specs.Card.{CardValue}
use Rattle.site_model.specs.declared.departures.Departure.{Departure}
use Rattle.site_model.specs.Port.{PortState}
use Rattle.site_model.specs.Runs.{PortRun}
use Rattle.world_core.specs.declared.answers.Made.{Made}
use Rattle.air_sim.specs.declared.notes.Note.{Note}
use Rattle.air_sim.specs.declared.notes.Note.TheVariants.{Quiet}
use Rattle.air_sim.specs.declared.parts.Parts.{Parts}
use Rattle.air_sim.specs.declared.sim_site.SimSite.{SimSite}
use Rattle.air_sim.specs.Cards.{facts_in}
use Rattle.air_sim.specs.Lines.{LinesByCard}
use Rattle.air_sim.specs.Told.{Moment, Leaves, given_by, given_in, polls_by, polls_in, made_in, moment_of, port_by, sim_told}
use Rattle.air_sim.proofs.PastLemmas.{IsRest, given_in-append, polls_in-append, made_in_rest, port_is, leaves_now, now_leaves, image_is_now, now_is_image, longer, past_stands}

module _ {D B C : Type 0} (told : Meaning D B C) where
  abbrev site : Meaning (SimSite D B C) PortState LinesByCard
  site = sim_told told

  module _ (old new : SimSite D B C) (note : Note) (rests : IsRest note) (is : new.past.items ≡ old.past.items ++ (old.parts, note) ∷ []) where
    abbrev n : ℕ
    n = length old.past.items

    later_by_one : site.clock new ≡ n + 1
    later_by_one = omega (arith, longer told old new note [] rests is)

    pub stood : PastStands site old new
    stood = past_stands told old new note [] rests is

    early_or_late : (k : ℕ) → n ≤ k → k ≤ site.clock new → (k ≡ n) ⊎ (k ≡ site.clock new)
    early_or_late k low high = ⊎_elim (λ early. inl (omega (arith, early, low, later_by_one))) (λ late. inr (omega (arith, late, high, later_by_one))) (cases_lt k (site.clock new))

    -- at the moment that was now, and at the one that is
    pub at_both : (P : ℕ → Type 0) → P n → P (site.clock new) → (k : ℕ) → n ≤ k → k ≤ site.clock new → P k
    at_both P early late k low high = ⊎_elim (λ e. subst P (sym e) early) (λ l. subst P (sym l) late) (early_or_late k low high)

    pub beside_early : site.beside_at new n ≡ port_by told old.past.items old.parts
    beside_early = stood.beside n (omega arith) ∙ port_is told old

    pub beside_late : site.beside_at new (site.clock new) ≡ port_by told (old.past.items ++ (old.parts, note) ∷ []) new.parts
    beside_late = port_is told new ∙ ap (λ (l : List (Moment D B C)). port_by told l new.parts) is

    pub image_early : (image : List ℕ) → site.image_at new n image → image_now told old.parts.journal image
    image_early image at = image_is_now told old image (stood.no_more n image (omega arith) at)

    pub early_image : (image : List ℕ) → image_now told old.parts.journal image → site.image_at new n image
    early_image image now = stood.no_fewer n image (omega arith) (now_is_image told old image now)

    pub choice_early : (choice : LinesByCard) → site.choice_at new n choice → site.choice_at old n choice
    choice_early choice at = stood.no_more_choices n choice (omega arith) at

    pub early_choice : (choice : LinesByCard) → site.choice_at old n choice → site.choice_at new n choice
    early_choice choice at = stood.no_fewer_choices n choice (omega arith) at

    module _ (cards : new.parts.cards.items ≡ old.parts.cards.items) where
      pub choice_late : (choice : LinesByCard) → site.choice_at new (site.clock new) choice → site.choice_at old n choice
      choice_late choice at = leaves_now told old choice (subst (λ (l : List (CardValue D)). Leaves told l l choice) cards (now_leaves told new choice at))

      pub late_choice : (choice : LinesByCard) → site.choice_at old n choice → site.choice_at new (site.clock new) choice
      late_choice choice at = leaves_now told new choice (subst (λ (l : List (CardValue D)). Leaves told l l choice) (sym cards) (now_leaves told old choice at))

      facts_same : facts_in new.parts.cards.items ≡ facts_in old.parts.cards.items
      facts_same = ap facts_in cards

      -- what the port is then, by what was sent, what the moment gave, and how often it was asked in it
      pub port_then : site.beside_at new (site.clock new) ≡ record {
        sent = new.parts.sent.items;
        given = given_in old.past.items ++ given_by (old.parts, note);
        facts = facts_in old.parts.cards.items;
        made = made_in told old.past.items;
        polls = polls_in old.past.items + polls_by note;
      }
      port_then =
          let given : given_in (old.past.items ++ (old.parts, note) ∷ []) ≡ given_in old.past.items ++ given_by (old.parts, note) =
          given_in-append told old.past.items ((old.parts, note) ∷ []) ∙ ap (λ (l : List (CardId × List ℕ)). given_in old.past.items ++ l) (append-nil (given_by (old.parts, note))) in
          let made : made_in told (old.past.items ++ (old.parts, note) ∷ []) ≡ made_in told old.past.items = made_in_rest told old.past.items old.parts note rests in
          let polls : polls_in (old.past.items ++ (old.parts, note) ∷ []) ≡ polls_in old.past.items + polls_by note = omega (arith, polls_in-append told old.past.items ((old.parts, note) ∷ [])) in
          beside_late
          ∙ ap (λ (l : List (CardId × List ℕ)). record { sent = new.parts.sent.items; given = l; facts = facts_in new.parts.cards.items; made = made_in told (old.past.items ++ (old.parts, note) ∷ []); polls = polls_in (old.past.items ++ (old.parts, note) ∷ []) }) given
          ∙ ap (λ (l : List CardFacts). record { sent = new.parts.sent.items; given = given_in old.past.items ++ given_by (old.parts, note); facts = l; made = made_in told (old.past.items ++ (old.parts, note) ∷ []); polls = polls_in (old.past.items ++ (old.parts, note) ∷ []) }) facts_same
          ∙ ap (λ (l : List Made). record { sent = new.parts.sent.items; given = given_in old.past.items ++ given_by (old.parts, note); facts = facts_in old.parts.cards.items; made = l; polls = polls_in (old.past.items ++ (old.parts, note) ∷ []) }) made
          ∙ ap (λ (m : ℕ). record { sent = new.parts.sent.items; given = given_in old.past.items ++ given_by (old.parts, note); facts = facts_in old.parts.cards.items; made = made_in told old.past.items; polls = m }) polls

      -- the journal's disk worked
      pub disk_run : (P : List ℕ → Type 0) → DiskRun told old.parts.journal new.parts.journal P → site.beside_at new (site.clock new) ≡ site.beside_at old n → DiskRun site old new P
      disk_run P run stands = record {
        past = stood;
        each = λ k image low high at. at_both (λ (j : ℕ). site.image_at new j image → P image)
            (λ early. run.each (told.clock old.parts.journal) image (omega arith) run.past.later (run.past.no_fewer (told.clock old.parts.journal) image (omega arith) (image_early image early)))
            (λ late. left_now told old.parts.journal new.parts.journal P run image (image_is_now told new image late)) k low high at;
        stands = at_both (λ (j : ℕ). site.beside_at new j ≡ site.beside_at old n) (stood.beside n (omega arith)) stands;
        choices_stand = λ k choice low high at. at_both (λ (j : ℕ). site.choice_at new j choice → site.choice_at old n choice) (choice_early choice) (choice_late choice) k low high at;
        choices_stay = λ k choice low high at. at_both (λ (j : ℕ). site.choice_at old n choice → site.choice_at new j choice) (early_choice choice) (late_choice choice) k low high at;
      }

      -- the port worked
      module _ (journal : new.parts.journal ≡ old.parts.journal) where
        image_late : (image : List ℕ) → site.image_at new (site.clock new) image → image_now site old image
        image_late image at = now_is_image told old image (subst (λ (d : D). image_now told d image) journal (image_is_now told new image at))

        late_image : (image : List ℕ) → image_now site old image → site.image_at new (site.clock new) image
        late_image image now = now_is_image told new image (subst (λ (d : D). image_now told d image) (sym journal) (image_is_now told old image now))

        pub port_run : (Q : PortState → Type 0) → Q (site.beside_at old n) → Q (site.beside_at new (site.clock new)) → PortRun site old new Q
        port_run Q before after = record {
          past = stood;
          images_stand = λ k image low high at. at_both (λ (j : ℕ). site.image_at new j image → image_now site old image) (λ early. stood.no_more n image (omega arith) early) (image_late image) k low high at;
          images_stay = λ k image low high now. at_both (λ (j : ℕ). image_now site old image → site.image_at new j image) (λ at. stood.no_fewer n image (omega arith) at) (late_image image) k low high now;
          each = at_both (λ (j : ℕ). Q (site.beside_at new j)) (subst Q (sym (stood.beside n (omega arith))) before) after;
        }
