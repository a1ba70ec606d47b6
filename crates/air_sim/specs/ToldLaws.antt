-- Laws of what a simulated site tells: what a read gives may be left now, and something may be chosen at each moment.
use Rattle.std.specs.Prelude.{◌≡◌, ◌≤◌, ℕ, ◌-◌, ◌==◌, min, true, false, cond, Option, Some, None, unwrap_or, IfSome, List, [], ◌∷◌, length, map, find, refl}
use Rattle.std.proofs.Common.{arith, sym, ◌∙◌, ap, subst}
use Rattle.disk_model.specs.Disk.{Meaning, Tells, image_now}
use Rattle.receiving_entity.specs.Card.{CardValue}
use Rattle.site_model.specs.Cards.{HasChoice}
use Rattle.site_model.specs.Port.{PortState}
use Rattle.world_core.specs.declared.lines.Line.{Line}
use Rattle.air_sim.specs.declared.notes.Note.{Note}
use Rattle.air_sim.specs.declared.notes.Note.TheVariants.{Quiet, AtWork, Gave, Polled}
use Rattle.air_sim.specs.declared.parts.Parts.{Parts}
use Rattle.air_sim.specs.declared.sim_site.SimSite.{SimSite}
use Rattle.air_sim.specs.Cards.{card_of, facts_of, number_of}
use Rattle.air_sim.specs.Lines.{LinesByCard, lines_for}
use Rattle.air_sim.specs.Logged.{logged}
use Rattle.air_sim.specs.Moments.{moment_at}
use Rattle.air_sim.specs.Told.{Moment, Leaves, LeavesAt, MayLeave, WhereTold, moment_of, sim_told}

-- the moment that is now
pub at_now : {X : Type 0} (past : List X) (now : X) → moment_at past now (length past) ≡ now
at_now [] now = refl
at_now (moment ∷ later) now = at_now later now

module _ {D B C : Type 0} (told : Meaning D B C) (seen_is_image : (disk : D) → Tells told disk → image_now told disk (told.seen disk)) where
  -- what a read gives of the journal is an image of it
  pub site_seen_is_image : (site : SimSite D B C) → Tells (sim_told told) site → image_now (sim_told told) site ((sim_told told).seen site)
  site_seen_is_image site tells =
      subst (λ (moment : Moment D B C). image_now told moment.0.journal (told.seen site.parts.journal)) (sym (at_now site.past.items (site.parts, Quiet)))
      (seen_is_image site.parts.journal tells)

  -- what a read gives of each card's disk
  abbrev choose : List (CardValue D) → LinesByCard
  choose [] = []
  choose (card ∷ cards) = (number_of card, logged (facts_of card) (told.seen card.store.disk)) ∷ choose cards

  read : (from card : CardValue D) (lines : List Line) → lines ≡ logged (facts_of card) (told.seen card.store.disk) → WhereTold told from card lines
  read from card lines is tells = record {
    moment = told.clock card.store.disk;
    image = told.seen card.store.disk;
    not_before = omega arith;
    not_after = omega arith;
    at = seen_is_image card.store.disk tells;
    opens = is;
  }

  chosen : (number : ℕ) (before : CardValue D → CardValue D) (cards : List (CardValue D)) → IfSome (card_of number cards) (λ card. WhereTold told (before card) card (lines_for (choose cards) number))
  chosen number before [] = tt
  chosen number before (card ∷ cards) =
      elim (number_of card == number) as (λ b. IfSome (cond b (Some card) (card_of number cards))
      (λ c. WhereTold told (before c) c (cond b (logged (facts_of card) (told.seen card.store.disk)) (lines_for (choose cards) number)))) [
        | true ↦ read (before card) card (logged (facts_of card) (told.seen card.store.disk)) refl
        | false ↦ chosen number before cards
      ]

  leaves_some : (before : Parts D B C) (moment : Moment D B C) → LeavesAt told before moment (choose moment.0.cards.items)
  leaves_some before (parts, AtWork delivery) = λ number. chosen number (λ card. unwrap_or (card_of number before.cards.items) card) parts.cards.items
  leaves_some before (parts, Quiet) = λ number. chosen number (λ card. unwrap_or (card_of number parts.cards.items) card) parts.cards.items
  leaves_some before (parts, Gave position) = λ number. chosen number (λ card. unwrap_or (card_of number parts.cards.items) card) parts.cards.items
  leaves_some before (parts, Polled) = λ number. chosen number (λ card. unwrap_or (card_of number parts.cards.items) card) parts.cards.items

  -- so something may be chosen at each moment
  pub has_choice : (site : SimSite D B C) → Tells (sim_told told) site → (moment : ℕ) → moment ≤ (sim_told told).clock site → HasChoice (sim_told told) (λ (port : PortState). port) lines_for site moment
  has_choice site tells moment past = (choose (moment_of told site moment).0.cards.items, leaves_some (moment_of told site (moment - 1)).0 (moment_of told site moment))
