-- What a send, and the end of a poll, make of a site.
use Rattle.std.specs.Prelude.{◌≡◌, ◌⊎◌, ◌≤◌, ℕ, ◌+◌, Option, Some, None, List, [], ◌∷◌, ◌++◌, length, slice_get, refl}
use Rattle.std.specs.Option.{option_map_or}
use Rattle.std.proofs.Common.{inl, inr, arith, sym, ◌∙◌, ap, subst}
use Rattle.std.proofs.lemmas.List.{append-nil}
use Rattle.arrayvec.specs.ArrayVec.{ArrayVec}
use Rattle.disk_model.specs.Disk.{Meaning}
use Rattle.ota_core.specs.declared.cards.CardFacts.{CardFacts}
use Rattle.ota_core.specs.declared.cards.CardId.{CardId}
use Rattle.site_model.specs.Cards.{Keeps}
use Rattle.site_model.specs.declared.departures.Departure.{Departure}
use Rattle.site_model.specs.Port.{PortState, IsSending, IsPolling}
use Rattle.site_model.specs.Runs.{PortRun}
use Rattle.world_core.specs.declared.answers.Made.{Made}
use Rattle.air_sim.specs.declared.notes.Note.{Note}
use Rattle.air_sim.specs.declared.notes.Note.TheVariants.{Quiet, Gave, Polled}
use Rattle.air_sim.specs.declared.parts.Parts.{Parts}
use Rattle.air_sim.specs.declared.sim_site.SimSite.{SimSite}
use Rattle.air_sim.specs.Cards.{facts_in}
use Rattle.air_sim.specs.Lines.{LinesByCard, lines_for}
use Rattle.air_sim.specs.Told.{Moment, given_by, given_in, made_in, message_at, polls_by, polls_in, port_by, sim_told}
use Rattle.air_sim.proofs.PastLemmas.{IsRest, port_is}
use Rattle.air_sim.proofs.StepLemmas.{port_run, port_then}
use Rattle.air_sim.proofs.RestLemmas.{rest_keeps}

module _ {D B C : Type 0} (told : Meaning D B C) (old new : SimSite D B C) where
  abbrev site : Meaning (SimSite D B C) PortState LinesByCard
  site = sim_told told

  abbrev n : ℕ
  n = length old.past.items

  now_is : site.beside_at old n ≡ port_by told old.past.items old.parts
  now_is = port_is told old

  -- a piece was sent
  module _ (piece : Departure) (is : new.past.items ≡ old.past.items ++ (old.parts, Quiet) ∷ []) (cards : new.parts.cards.items ≡ old.parts.cards.items) (journal : new.parts.journal ≡ old.parts.journal)
      (sent : new.parts.sent.items ≡ old.parts.sent.items ++ piece ∷ []) where
    after : site.beside_at new (site.clock new) ≡ record {
      sent = new.parts.sent.items;
      given = given_in old.past.items ++ [];
      facts = facts_in old.parts.cards.items;
      made = made_in told old.past.items;
      polls = polls_in old.past.items + 0;
    }
    after = port_then told old new Quiet tt is cards

    pub send_sent : (site.beside_at new (site.clock new)).sent ≡ (site.beside_at old n).sent ++ piece ∷ []
    send_sent = ap (λ (p : PortState). p.sent) after ∙ sent ∙ ap (λ (p : PortState). p.sent ++ piece ∷ []) (sym now_is)

    pub send_port : PortRun site old new (λ beside. IsSending (site.beside_at old n) beside piece)
    send_port =
        port_run told old new Quiet tt is cards journal (λ beside. IsSending (site.beside_at old n) beside piece)
        (record { sent = inl refl; given = refl; polls = refl })
        (record {
          sent = inr send_sent;
          given = ap (λ (p : PortState). p.given) after ∙ append-nil (given_in old.past.items) ∙ ap (λ (p : PortState). p.given) (sym now_is);
          polls = ap (λ (p : PortState). p.polls) after ∙ omega arith ∙ ap (λ (p : PortState). p.polls) (sym now_is);
        })

    pub send_keeps : Keeps site (λ (port : PortState). port) lines_for old new
    send_keeps = rest_keeps told old new Quiet tt is cards (piece ∷ []) sent

  -- a poll ended
  module _ (note : Note) (rests : IsRest note) (is : new.past.items ≡ old.past.items ++ (old.parts, note) ∷ []) (cards : new.parts.cards.items ≡ old.parts.cards.items) (journal : new.parts.journal ≡ old.parts.journal)
      (sent : new.parts.sent.items ≡ old.parts.sent.items) where
    end_is : site.beside_at new (site.clock new) ≡ record {
      sent = new.parts.sent.items;
      given = given_in old.past.items ++ given_by (old.parts, note);
      facts = facts_in old.parts.cards.items;
      made = made_in told old.past.items;
      polls = polls_in old.past.items + polls_by note;
    }
    end_is = port_then told old new note rests is cards

    pub end_sent : (site.beside_at new (site.clock new)).sent ≡ (site.beside_at old n).sent
    end_sent = ap (λ (p : PortState). p.sent) end_is ∙ sent ∙ ap (λ (p : PortState). p.sent) (sym now_is)

    pub end_given : (site.beside_at new (site.clock new)).given ≡ (site.beside_at old n).given ++ given_by (old.parts, note)
    end_given = ap (λ (p : PortState). p.given) end_is ∙ ap (λ (p : PortState). p.given ++ given_by (old.parts, note)) (sym now_is)

    pub end_polls : (site.beside_at new (site.clock new)).polls ≡ (site.beside_at old n).polls + polls_by note
    end_polls = ap (λ (p : PortState). p.polls) end_is ∙ ap (λ (p : PortState). p.polls + polls_by note) (sym now_is)

    pub end_port : (Q : PortState → Type 0) → Q (site.beside_at old n) → Q (site.beside_at new (site.clock new)) → PortRun site old new Q
    end_port Q before then_is = port_run told old new note rests is cards journal Q before then_is

    pub end_keeps : Keeps site (λ (port : PortState). port) lines_for old new
    end_keeps = rest_keeps told old new note rests is cards [] (sent ∙ sym (append-nil old.parts.sent.items))
