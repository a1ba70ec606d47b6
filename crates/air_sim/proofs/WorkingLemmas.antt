-- Steps of handing over one after the other, and the end of a poll.
use Rattle.std.specs.Prelude.{◌≡◌, ◌⊎◌, ◌≤◌, ℕ, ◌+◌, true, Option, Some, None, List, [], ◌∷◌, ◌++◌, length, slice_get, Result, Ok, Err, OnOk, refl}
use Rattle.std.proofs.Common.{inl, inr, ⊎_elim, arith, sym, ◌∙◌, ap, subst}
use Rattle.std.proofs.lemmas.List.{append-nil}
use Rattle.disk_model.specs.Disk.{Meaning, Tells}
use Rattle.ota_core.specs.declared.cards.CardId.{CardId}
use Rattle.receiving_entity.specs.Card.{CardValue}
use Rattle.site_model.specs.Cards.{Keeps}
use Rattle.site_model.specs.Port.{PortState, IsPolling}
use Rattle.site_model.specs.Runs.{PortRun}
use Rattle.site_model.specs.declared.site_faults.SiteFault.{SiteFault}
use Rattle.air_sim.specs.declared.notes.Delivery.{Delivery}
use Rattle.air_sim.specs.declared.notes.Note.{Note}
use Rattle.air_sim.specs.declared.notes.Note.TheVariants.{Quiet, AtWork, Gave, Polled}
use Rattle.air_sim.specs.declared.sim_site.SimSite.{SimSite}
use Rattle.air_sim.specs.CardRuns.{AreLogged, LogGrows}
use Rattle.air_sim.specs.Cards.{card_of, number_of, with_card}
use Rattle.air_sim.specs.Lines.{LinesByCard, lines_for}
use Rattle.air_sim.specs.Messages.{Message}
use Rattle.air_sim.specs.Told.{given_by, message_at, polls_by, port_of, sim_told}
use Rattle.air_sim.specs.Working.{IsBetween, PollRuns, Works, gives_by}
use Rattle.air_sim.proofs.DeliveryLemmas.{work_keeps, work_port}
use Rattle.air_sim.proofs.JoinLemmas.{joined_keeps, joined_port}
use Rattle.air_sim.proofs.PastLemmas.{IsRest, port_is}
use Rattle.air_sim.proofs.PortLemmas.{end_given, end_keeps, end_polls, end_port, end_sent}
use Rattle.air_sim.proofs.StayLemmas.{stay_keeps, stay_port}

-- ---- what stands beside the disk

between_same : (p : PortState) → IsBetween p p
between_same p = record { sent = refl; given = refl; polls = refl }

between_on : (a b p : PortState) → IsBetween a b → IsBetween b p → IsBetween a p
between_on a b p one other = record { sent = other.sent ∙ one.sent; given = other.given ∙ one.given; polls = other.polls ∙ one.polls }

polling_of : (a p : PortState) → IsBetween a p → IsPolling a p
polling_of a p one = record { sent = one.sent; given = inl one.given; polls = inl one.polls }

polling_on : (a b p : PortState) → IsBetween a b → IsPolling b p → IsPolling a p
polling_on a b p one other = record {
  sent = other.sent ∙ one.sent;
  given = ⊎_elim
      (λ (e : p.given ≡ b.given). inl (e ∙ one.given))
      (λ (w : (message : CardId × List ℕ) × (p.given ≡ b.given ++ message ∷ [])). inr (w.0, w.1 ∙ ap (λ (l : List (CardId × List ℕ)). l ++ w.0 ∷ []) one.given))
      other.given;
  polls = ⊎_elim
      (λ (e : p.polls ≡ b.polls). inl (e ∙ one.polls))
      (λ (e : p.polls ≡ b.polls + 1). inr (e ∙ ap (λ (n : ℕ). n + 1) one.polls))
      other.polls;
}

module _ {D B C : Type 0} (told : Meaning D B C) where
  abbrev site : Meaning (SimSite D B C) PortState LinesByCard
  site = sim_told told

  weaker_port : (old new : SimSite D B C) (Q R : PortState → Type 0) → ((p : PortState) → Q p → R p) → PortRun site old new Q → PortRun site old new R
  weaker_port old new Q R then_r run = record {
    past = run.past;
    images_stand = run.images_stand;
    images_stay = run.images_stay;
    each = λ k low high. then_r (site.beside_at new k) (run.each k low high);
  }

  -- ---- steps

  -- nothing happened
  pub works_still : (old new : SimSite D B C) → new.past.items ≡ old.past.items → new.parts.journal ≡ old.parts.journal → new.parts.cards.items ≡ old.parts.cards.items → new.parts.sent.items ≡ old.parts.sent.items → Works told old new
  works_still old new is journal cards sent = record {
    port = stay_port told old new is journal cards sent (IsBetween (port_of told old)) (between_same (port_of told old));
    keeps = stay_keeps told old new is journal cards sent;
    journal = journal;
  }

  -- at the end of a step
  ended : (old new : SimSite D B C) → Works told old new → IsBetween (port_of told old) (port_of told new)
  ended old new works = works.port.each (site.clock new) works.port.past.later (omega arith)

  -- one after the other
  pub works_then : (old mid new : SimSite D B C) → Works told old mid → Works told mid new → Works told old new
  works_then old mid new first second = record {
    port =
        joined_port site old mid new (IsBetween (port_of told old)) (IsBetween (port_of told mid)) first.port second.port
        (λ p between. between_on (port_of told old) (port_of told mid) p (ended old mid first) between);
    keeps = joined_keeps site old mid new second.port.past first.port.past first.keeps second.keeps;
    journal = second.journal ∙ first.journal;
  }

  -- a card was at work
  module _ (old new : SimSite D B C) (delivery : Delivery) (is : new.past.items ≡ old.past.items ++ (old.parts, Quiet) ∷ (new.parts, AtWork delivery) ∷ [])
      (journal : new.parts.journal ≡ old.parts.journal) (sent : new.parts.sent.items ≡ old.parts.sent.items) (card after : CardValue D) (found : card_of (number_of after) old.parts.cards.items ≡ Some card)
      (stands : new.parts.cards.items ≡ with_card after old.parts.cards.items) (numbered : delivery.card.0 ≡ number_of after) (same_tells : told.tells after.store.disk ≡ told.tells card.store.disk)
      (grows : Tells told card.store.disk → LogGrows told card after) (facts : after.store.facts ≡ card.store.facts)
      (answers : Tells told card.store.disk → delivery.answered ≡ true → AreLogged told card after delivery.message.items) where
    pub works_delivery : Works told old new
    works_delivery = record {
      port =
          work_port told old new delivery new.parts is refl journal journal sent sent card after found stands numbered same_tells grows facts answers (IsBetween (port_of told old))
          (record { sent = ap (λ (p : PortState). p.sent) (sym (port_is told old)); given = ap (λ (p : PortState). p.given) (sym (port_is told old)); polls = ap (λ (p : PortState). p.polls) (sym (port_is told old)) })
          (record { sent = ap (λ (p : PortState). p.sent) (sym (port_is told old)); given = ap (λ (p : PortState). p.given) (sym (port_is told old)); polls = ap (λ (p : PortState). p.polls) (sym (port_is told old)) });
      keeps = work_keeps told old new delivery new.parts is refl journal journal sent sent card after found stands numbered same_tells grows facts answers;
      journal = journal;
    }

  -- ---- the end of a poll

  -- a fault ended it
  pub runs_failed : (old new : SimSite D B C) (fault : SiteFault) → Works told old new → PollRuns told old new (Err fault)
  runs_failed old new fault works = record {
    port = weaker_port old new (IsBetween (port_of told old)) (IsPolling (port_of told old)) (polling_of (port_of told old)) works.port;
    keeps = works.keeps;
    journal = works.journal;
    given = tt;
    polls = tt;
  }

  -- behind a step
  pub runs_behind : (old mid new : SimSite D B C) (result : Result (Option Message) SiteFault) → Works told old mid → PollRuns told mid new result → PollRuns told old new result
  runs_behind old mid new result works runs = record {
    port =
        joined_port site old mid new (IsPolling (port_of told old)) (IsPolling (port_of told mid))
        (weaker_port old mid (IsBetween (port_of told old)) (IsPolling (port_of told old)) (polling_of (port_of told old)) works.port)
        runs.port (λ p polling. polling_on (port_of told old) (port_of told mid) p (ended old mid works) polling);
    keeps = joined_keeps site old mid new runs.port.past works.port.past works.keeps runs.keeps;
    journal = runs.journal ∙ works.journal;
    given = given_behind result runs.given;
    polls = polls_behind result runs.polls;
  }
    where
      given_behind : (res : Result (Option Message) SiteFault) → gives_by (port_of told mid) (port_of told new) res → gives_by (port_of told old) (port_of told new) res
      given_behind (Ok (Some message)) is = is ∙ ap (λ (l : List (CardId × List ℕ)). l ++ (message.0, message.1.items) ∷ []) (ended old mid works).given
      given_behind (Ok None) is = is ∙ (ended old mid works).given
      given_behind (Err fault) is = tt

      polls_behind : (res : Result (Option Message) SiteFault) → OnOk res ((port_of told new).polls ≡ (port_of told mid).polls + 1) → OnOk res ((port_of told new).polls ≡ (port_of told old).polls + 1)
      polls_behind (Ok message) is = is ∙ ap (λ (n : ℕ). n + 1) (ended old mid works).polls
      polls_behind (Err fault) is = tt

  -- one moment more, at whose end a message was given, or none
  module _ (old new : SimSite D B C) (note : Note) (rests : IsRest note) (is : new.past.items ≡ old.past.items ++ (old.parts, note) ∷ []) (cards : new.parts.cards.items ≡ old.parts.cards.items)
      (journal : new.parts.journal ≡ old.parts.journal) (sent : new.parts.sent.items ≡ old.parts.sent.items) (polled : polls_by note ≡ 1) where
    sent_same : (port_of told new).sent ≡ (port_of told old).sent
    sent_same = end_sent told old new note rests is cards journal sent

    polled_once : (port_of told new).polls ≡ (port_of told old).polls + 1
    polled_once = end_polls told old new note rests is cards journal sent ∙ ap (λ (n : ℕ). (port_of told old).polls + n) polled

    gave : (port_of told new).given ≡ (port_of told old).given ++ given_by (old.parts, note)
    gave = end_given told old new note rests is cards journal sent

    pub runs_given : (message : Message) → given_by (old.parts, note) ≡ (message.0, message.1.items) ∷ [] → PollRuns told old new (Ok (Some message))
    runs_given message gives =
        let more : (port_of told new).given ≡ (port_of told old).given ++ (message.0, message.1.items) ∷ [] = gave ∙ ap (λ (l : List (CardId × List ℕ)). (port_of told old).given ++ l) gives in
        record {
          port =
              end_port told old new note rests is cards journal sent (IsPolling (port_of told old)) (polling_of (port_of told old) (port_of told old) (between_same (port_of told old)))
              (record { sent = sent_same; given = inr ((message.0, message.1.items), more); polls = inr polled_once });
          keeps = end_keeps told old new note rests is cards journal sent;
          journal = journal;
          given = more;
          polls = polled_once;
        }

    pub runs_none : given_by (old.parts, note) ≡ [] → PollRuns told old new (Ok None)
    runs_none gives =
        let same : (port_of told new).given ≡ (port_of told old).given =
        gave ∙ ap (λ (l : List (CardId × List ℕ)). (port_of told old).given ++ l) gives ∙ append-nil (port_of told old).given in
        record {
          port =
              end_port told old new note rests is cards journal sent (IsPolling (port_of told old)) (polling_of (port_of told old) (port_of told old) (between_same (port_of told old)))
              (record { sent = sent_same; given = inl same; polls = inr polled_once });
          keeps = end_keeps told old new note rests is cards journal sent;
          journal = journal;
          given = same;
          polls = polled_once;
        }
