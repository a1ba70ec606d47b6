-- How a send ends.
use Rattle.std.specs.Prelude.{◌≡◌, ◌≤◌, ℕ, ◌+◌, List, [], ◌∷◌, ◌++◌, length, Result, Ok, Err, IsErrAnd, Vec, refl}
use Rattle.std.proofs.Common.{inl, arith, sym, ◌∙◌, ap, subst}
use Rattle.disk_model.specs.Counts.{Counts, HasRisen}
use Rattle.disk_model.specs.Disk.{Meaning}
use Rattle.receiving_entity.specs.Card.{CardValue}
use Rattle.site_model.specs.Cards.{Keeps}
use Rattle.site_model.specs.Causes.{HasSiteCause}
use Rattle.site_model.specs.declared.departures.Departure.{Departure}
use Rattle.site_model.specs.declared.site_faults.SiteFault.{SiteFault}
use Rattle.site_model.specs.declared.site_faults.SiteFault.TheVariants.{Failed, Memory}
use Rattle.site_model.specs.Port.{PortState, IsSending}
use Rattle.site_model.specs.Runs.{PortRun}
use Rattle.air_sim.specs.declared.notes.Note.{Note}
use Rattle.air_sim.specs.declared.notes.Note.TheVariants.{Quiet}
use Rattle.air_sim.specs.declared.parts.Parts.{Parts}
use Rattle.air_sim.specs.declared.sim_site.SimSite.{SimSite}
use Rattle.air_sim.specs.Lines.{LinesByCard, lines_for}
use Rattle.air_sim.specs.declared.traces.Trace.{Trace}
use Rattle.air_sim.specs.PortCalls.{BeginsCall, SendsPiece, counted}
use Rattle.air_sim.specs.Told.{Moment, sim_counts, sim_told}
use Rattle.air_sim.proofs.PortLemmas.{send_keeps, send_port, send_sent}
use Rattle.air_sim.proofs.StayLemmas.{stay_keeps, stay_port}

-- ---- causes

module _ {D B C : Type 0} (counts : D → Counts) (old new : SimSite D B C) (journal : new.parts.journal ≡ old.parts.journal) where
  same_faults : (counts new.parts.journal).faults ≡ (counts old.parts.journal).faults
  same_faults = ap (λ (d : D). (counts d).faults) journal

  same_wants : (counts new.parts.journal).wants ≡ (counts old.parts.journal).wants
  same_wants = ap (λ (d : D). (counts d).wants) journal

  pub failed_cause : {T : Type 0} → HasRisen old.faults new.faults → new.wants ≡ old.wants → HasSiteCause {T = T} (sim_counts counts old) (sim_counts counts new) (Err Failed)
  failed_cause rise wants = record {
    faults = omega (arith, same_faults, rise.never_falls);
    wants = omega (arith, same_wants, wants);
    failed = λ e. record { never_falls = omega (arith, same_faults, rise.never_falls); rises = omega (arith, same_faults, rise.rises) };
    memory = λ e. absurd cc;
    ok_faults = tt;
    ok_wants = tt;
  }

  pub want_cause : {T : Type 0} → HasRisen old.wants new.wants → new.faults ≡ old.faults → HasSiteCause {T = T} (sim_counts counts old) (sim_counts counts new) (Err Memory)
  want_cause rise faults = record {
    faults = omega (arith, same_faults, faults);
    wants = omega (arith, same_wants, rise.never_falls);
    failed = λ e. absurd cc;
    memory = λ e. record { never_falls = omega (arith, same_wants, rise.never_falls); rises = omega (arith, same_wants, rise.rises) };
    ok_faults = tt;
    ok_wants = tt;
  }

module _ {D B C : Type 0} (counts : D → Counts) (old new : SimSite D B C) (journal : new.parts.journal ≡ old.parts.journal) where
  pub ok_cause : {T : Type 0} (value : T) → new.faults ≡ old.faults → new.wants ≡ old.wants → HasSiteCause (sim_counts counts old) (sim_counts counts new) (Ok value)
  ok_cause value faults wants = record {
    faults = omega (arith, same_faults counts old new journal, faults);
    wants = omega (arith, same_wants counts old new journal, wants);
    failed = λ e. absurd cc;
    memory = λ e. absurd cc;
    ok_faults = omega (arith, same_faults counts old new journal, faults);
    ok_wants = omega (arith, same_wants counts old new journal, wants);
  }

-- a call that fails at its begin is one that is listed
pub begun_failed : {D B C : Type 0} (old new : SimSite D B C) (fault : SiteFault) → BeginsCall old new (Err fault) → (fault ≡ Failed) × (new ≡ record old { calls = counted old.calls; faults = counted old.faults }) × HasRisen old.faults new.faults
begun_failed old new Failed begun = (refl, begun.1, begun.2)
begun_failed old new Memory begun = absurd begun

module _ {D B C : Type 0} (old new : SimSite D B C) where
  -- the past and the parts are as they were, but for the room for what is sent
  pub record Stays : Type 0 where
    pub past : new.past.items ≡ old.past.items
    pub journal : new.parts.journal ≡ old.parts.journal
    pub cards : new.parts.cards.items ≡ old.parts.cards.items
    pub sent : new.parts.sent.items ≡ old.parts.sent.items

module _ {D B C : Type 0} (told : Meaning D B C) (old new : SimSite D B C) where
  abbrev site : Meaning (SimSite D B C) PortState LinesByCard
  site = sim_told told

  pub stays_port : Stays old new → (piece : Departure) → PortRun site old new (λ beside. IsSending (site.beside_at old (site.clock old)) beside piece)
  stays_port stays piece =
      stay_port told old new stays.past stays.journal stays.cards stays.sent (λ beside. IsSending (site.beside_at old (site.clock old)) beside piece)
      (record { sent = inl refl; given = refl; polls = refl })

  pub stays_keeps : Stays old new → Keeps site (λ (port : PortState). port) lines_for old new
  stays_keeps stays = stay_keeps told old new stays.past stays.journal stays.cards stays.sent

-- ---- the steps of a send

module _ {D B C : Type 0} (old begun : SimSite D B C) (calls : ℕ) (begun_is : begun ≡ record old { calls = calls }) where
  module _ (kept : SimSite D B C) (kept_is : kept ≡ record begun { parts = record begun.parts { sent = kept.parts.sent } }) where
    pub kept_past : kept.past.items ≡ old.past.items
    kept_past = ap (λ (s : SimSite D B C). s.past.items) kept_is ∙ ap (λ (s : SimSite D B C). s.past.items) begun_is

    pub kept_journal : kept.parts.journal ≡ old.parts.journal
    kept_journal = ap (λ (s : SimSite D B C). s.parts.journal) kept_is ∙ ap (λ (s : SimSite D B C). s.parts.journal) begun_is

    pub kept_cards : kept.parts.cards.items ≡ old.parts.cards.items
    kept_cards = ap (λ (s : SimSite D B C). s.parts.cards.items) kept_is ∙ ap (λ (s : SimSite D B C). s.parts.cards.items) begun_is

    pub kept_faults : kept.faults ≡ old.faults
    kept_faults = ap (λ (s : SimSite D B C). s.faults) kept_is ∙ ap (λ (s : SimSite D B C). s.faults) begun_is

    pub kept_wants : kept.wants ≡ old.wants
    kept_wants = ap (λ (s : SimSite D B C). s.wants) kept_is ∙ ap (λ (s : SimSite D B C). s.wants) begun_is

    -- memory was wanting
    module _ (new : SimSite D B C) (new_is : new ≡ record kept { wants = counted kept.wants }) (sent : kept.parts.sent.items ≡ begun.parts.sent.items) where
      pub wanted_stays : Stays old new
      wanted_stays = record {
        past = ap (λ (s : SimSite D B C). s.past.items) new_is ∙ kept_past;
        journal = ap (λ (s : SimSite D B C). s.parts.journal) new_is ∙ kept_journal;
        cards = ap (λ (s : SimSite D B C). s.parts.cards.items) new_is ∙ kept_cards;
        sent = ap (λ (s : SimSite D B C). s.parts.sent.items) new_is ∙ sent ∙ ap (λ (s : SimSite D B C). s.parts.sent.items) begun_is;
      }

-- a fault that is handed on
pub handed_on : {T E : Type 0} (res : Result T E) (fault : E) → IsErrAnd res (λ error. error ≡ fault) → res ≡ Err fault
handed_on (Ok value) fault is = absurd is
handed_on (Err error) fault is = ap Err is

-- ---- what a send leaves

pub failed_sends : {D B C : Type 0} (old new : SimSite D B C) (piece : Departure) (fault : SiteFault) → BeginsCall old new (Err fault) → SendsPiece old new piece (Err fault)
failed_sends old new piece Failed begun = (begun.0, begun.1)
failed_sends old new piece Memory begun = absurd begun

module _ {D B C : Type 0} (old begun kept : SimSite D B C) (calls : ℕ) (begun_is : begun ≡ record old { calls = calls }) (kept_is : kept ≡ record begun { parts = record begun.parts { sent = kept.parts.sent } }) where
  pub sent_same : (past : Trace (Parts D B C) Note) → record kept { past = past } ≡ record old { parts = record old.parts { sent = kept.parts.sent }; past = past; calls = calls }
  sent_same past =
      ap (λ (s : SimSite D B C). record s { past = past }) kept_is
      ∙ ap (λ (s : SimSite D B C). record s { parts = record s.parts { sent = kept.parts.sent }; past = past }) begun_is

  pub wanted_same : (new : SimSite D B C) → new ≡ record kept { wants = counted kept.wants } → new ≡ record old { parts = record old.parts { sent = new.parts.sent }; calls = calls; wants = counted old.wants }
  wanted_same new new_is =
      subst (λ (s : SimSite D B C). s ≡ record old { parts = record old.parts { sent = s.parts.sent }; calls = calls; wants = counted old.wants }) (sym new_is)
      (ap (λ (s : SimSite D B C). record s { wants = counted s.wants }) kept_is
      ∙ ap (λ (s : SimSite D B C). record s { parts = record s.parts { sent = kept.parts.sent }; wants = counted s.wants }) begun_is)
