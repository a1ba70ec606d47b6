-- What a simulated site tells.
use Rattle.std.specs.Prelude.{◌≡◌, ◌≤◌, ℕ, ◌+◌, ◌-◌, min, if◌then◌else◌, Option, Some, None, unwrap_or, IfSome, List, [], ◌∷◌, ◌++◌, length, map, take, slice_get}
use Rattle.std.specs.Option.{option_map_or}
use Rattle.disk_model.specs.Counts.{Counts}
use Rattle.disk_model.specs.Disk.{Meaning, Tells, image_now}
use Rattle.ota_core.specs.declared.cards.CardId.{CardId}
use Rattle.receiving_entity.specs.Card.{CardValue}
use Rattle.site_model.specs.Port.{PortState}
use Rattle.world_core.specs.declared.answers.Made.{Made}
use Rattle.world_core.specs.declared.lines.Line.{Line}
use Rattle.air_sim.specs.declared.notes.Delivery.{Delivery}
use Rattle.air_sim.specs.declared.notes.Note.{Note}
use Rattle.air_sim.specs.declared.notes.Note.TheVariants.{Quiet, AtWork, Gave, Polled}
use Rattle.air_sim.specs.declared.parts.Parts.{Parts}
use Rattle.air_sim.specs.declared.sim_site.SimSite.{SimSite}
use Rattle.air_sim.specs.Answers.{made_by}
use Rattle.air_sim.specs.Cards.{card_of, facts_in, number_of}
use Rattle.air_sim.specs.Lines.{LinesByCard, lines_for}
use Rattle.air_sim.specs.Logged.{logged}
use Rattle.air_sim.specs.Moments.{moment_at}

abbrev pub Moment : Type 0 → Type 0 → Type 0 → Type 0
Moment D B C = Parts D B C × Note

-- ---- what was given, and how often the port was asked

abbrev pub message_at : {D B C : Type 0} → Parts D B C → ℕ → List (CardId × List ℕ)
message_at parts position = option_map_or (λ message. (message.0, message.1.items) ∷ []) (slice_get parts.messages.items position) []

abbrev pub given_by : {D B C : Type 0} → Moment D B C → List (CardId × List ℕ)
given_by (parts, Gave position) = message_at parts position
given_by (parts, _) = []

abbrev pub given_in : {D B C : Type 0} → List (Moment D B C) → List (CardId × List ℕ)
given_in [] = []
given_in (moment ∷ later) = given_by moment ++ given_in later

abbrev pub polls_by : Note → ℕ
polls_by (Gave position) = 1
polls_by Polled = 1
polls_by _ = 0

abbrev pub polls_in : {D B C : Type 0} → List (Moment D B C) → ℕ
polls_in [] = 0
polls_in (moment ∷ later) = polls_by moment.1 + polls_in later

module _ {D B C : Type 0} (told : Meaning D B C) where
  -- ---- the answers that the cards made

  abbrev pub made_of_cards : Option (CardValue D) → Option (CardValue D) → List ℕ → List Made
  made_of_cards (Some before) (Some after) message = made_by told before after message
  made_of_cards before after message = []

  -- at the end of a moment at which a card was at work, from what the cards were before it
  abbrev pub made_at : Parts D B C → Moment D B C → List Made
  made_at before (parts, AtWork delivery) =
      if delivery.answered then made_of_cards (card_of delivery.card.0 before.cards.items) (card_of delivery.card.0 parts.cards.items) delivery.message.items else []
  made_at before (parts, _) = []

  abbrev pub made_from : Parts D B C → List (Moment D B C) → List Made
  made_from before [] = []
  made_from before (moment ∷ later) = made_at before moment ++ made_from moment.0 later

  abbrev pub made_in : List (Moment D B C) → List Made
  made_in [] = []
  made_in (moment ∷ later) = made_from moment.0 later

  -- what the port is at a moment, by those before it
  abbrev pub port_by : List (Moment D B C) → Parts D B C → PortState
  port_by past parts = record {
    sent = parts.sent.items;
    given = given_in past;
    facts = facts_in parts.cards.items;
    made = made_in past;
    polls = polls_in past;
  }

  -- ---- the lines that a power cut may leave

  -- an image of the card's disk that a stop might leave at a moment from `from` to `to` opens to a card with this log
  pub record MayLeave (from to : CardValue D) (lines : List Line) : Type 0 where
    pub moment : ℕ
    pub image : List ℕ
    pub not_before : min (told.clock from.store.disk) (told.clock to.store.disk) ≤ moment
    pub not_after : moment ≤ told.clock to.store.disk
    pub at : told.image_at to.store.disk moment image
    pub opens : lines ≡ logged to.store.facts image

  abbrev pub WhereTold : CardValue D → CardValue D → List Line → Type 0
  WhereTold from to lines = Tells told to.store.disk → MayLeave from to lines

  -- for each number of a card, where the cards were at work from these values to those
  abbrev pub Leaves : List (CardValue D) → List (CardValue D) → LinesByCard → Type 0
  Leaves from to choice = (number : ℕ) → IfSome (card_of number to) (λ card. WhereTold (unwrap_or (card_of number from) card) card (lines_for choice number))

  -- at a moment at which no card was at work, its disk leaves what it leaves now
  abbrev pub LeavesAt : Parts D B C → Moment D B C → LinesByCard → Type 0
  LeavesAt before (parts, AtWork delivery) choice = Leaves before.cards.items parts.cards.items choice
  LeavesAt before (parts, _) choice = Leaves parts.cards.items parts.cards.items choice

  -- ---- the site

  -- what the site had at a moment, and what happened at its end; nothing has happened at the end of the moment that is now
  abbrev pub moment_of : SimSite D B C → ℕ → Moment D B C
  moment_of site k = moment_at site.past.items (site.parts, Quiet) k

  abbrev pub sim_told : Meaning (SimSite D B C) PortState LinesByCard
  sim_told = record {
    tells = λ site. told.tells site.parts.journal;
    seen = λ site. told.seen site.parts.journal;
    clock = λ site. length site.past.items;
    image_at = λ site k image. image_now told (moment_of site k).0.journal image;
    beside_at = λ site k. port_by (take k site.past.items) (moment_of site k).0;
    choice_at = λ site k choice. LeavesAt (moment_of site (k - 1)).0 (moment_of site k) choice;
  }

  -- the port of the site now
  abbrev pub port_of : SimSite D B C → PortState
  port_of site = sim_told.beside_at site (sim_told.clock site)

-- faults and wants of the port join those of the disk
abbrev pub sim_counts : {D B C : Type 0} → (D → Counts) → SimSite D B C → Counts
sim_counts counts site = record {
  faults = (counts site.parts.journal).faults + site.faults;
  wants = (counts site.parts.journal).wants + site.wants;
  beside = site.empty_polls;
}
