-- The cards of a site, and where each stands.
use Rattle.std.specs.Prelude.{◌≡◌, ◌≢◌, ℕ, Option, Some, None, List, [], get_or, set, Result, IfOk, Vec, refl}
use Rattle.std.specs.BTreeMap.{BTreeMap, get}
use Rattle.std.specs.Coded.{Coded, code_by, coded_list}
use Rattle.std.specs.Ordering.{nat_cmp}
use Rattle.arrayvec.specs.ArrayVec.{ArrayVec}
use Rattle.disk_model.specs.Counts.{Counts}
use Rattle.disk_model.specs.Disk.{Meaning, Tells}
use Rattle.ota_core.specs.declared.wants.Memory.{Memory}
use Rattle.receiving_entity.specs.Card.{CardValue}
use Rattle.air_sim.specs.declared.schedules.Cut.{Cut}
use Rattle.air_sim.specs.CardRuns.{AreLogged, LogGrows, reply_in}
use Rattle.air_sim.specs.Cards.{place_in}
use Rattle.air_sim.specs.Meeting.{Meets}

-- the cards in order
pub record CardsValue (D : Type 0) : Type 0 where
  pub items : List (CardValue D)

-- they are stored as their list
abbrev pub cards_code : {D : Type 0} → Coded (CardValue D) → Coded (CardsValue D)
cards_code {D = D} card = code_by (List (CardValue D)) (coded_list card) (λ c. c.items) (λ l. record { items = l }) (λ _. refl)

module _ {D : Type 0} where
  -- the map has the place of each card
  abbrev pub HasPlaces : BTreeMap ℕ ℕ → List (CardValue D) → Type 0
  HasPlaces places cards = (number : ℕ) → get nat_cmp places number ≡ place_in number cards

  -- where there is a map
  abbrev pub ArePlaced : Option (BTreeMap ℕ ℕ) → List (CardValue D) → Type 0
  ArePlaced None cards = Unit {0}
  ArePlaced (Some places) cards = HasPlaces places cards

-- the card at this place meets the message, and stands there afterwards
pub record MeetsAt {D B C A : Type 0} (told : Meaning D B C) (counts : D → Counts) (old new : List (CardValue D)) (place : ℕ) (message : List ℕ) (cut : Option Cut) (result : Result (Vec (ArrayVec ℕ) A) Memory) : Type 0 where
  pub card : CardValue D
  pub after : CardValue D
  pub is : card ≡ get_or old place card
  pub stands : new ≡ set old place after
  pub meets : Meets told counts card after message cut (reply_in result)
  pub facts : after.store.facts ≡ card.store.facts
  pub tells : told.tells after.store.disk ≡ told.tells card.store.disk
  pub grows : Tells told card.store.disk → LogGrows told card after
  pub logged : Tells told card.store.disk → IfOk result (λ messages. messages.items ≢ [] → AreLogged told card after message)
