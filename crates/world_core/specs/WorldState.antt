-- A world: one lane with its cards.
use Rattle.std.specs.Prelude.{ℕ, Bool, true, Option, None, unwrap_or, List, [], ◌++◌, map}
use Rattle.ota_core.specs.declared.cards.CardFacts.{CardFacts}
use Rattle.ota_core.specs.declared.entries.Entry.{Entry}
use Rattle.world_core.specs.Card.{CardState}
use Rattle.world_core.specs.declared.segments.Sent.{Sent}
use Rattle.world_core.specs.declared.answers.Made.{Made}

pub record WorldState : Type 0 where
  -- the durable history
  pub history : List Entry
  -- the batch that is being written
  pub batch : Option (List Entry)
  -- whether the gateway is up
  pub up : Bool
  -- the pieces that left
  pub sent : List Sent
  pub cards : List CardState
  -- the secured answers that the cards made
  pub made : List Made
  -- the positions in made of those that reached the gateway
  pub given : List ℕ

-- the durable history, and behind it the batch that is being written
abbrev pub written : WorldState → List Entry
written w = w.history ++ unwrap_or w.batch []

-- a world whose cards are new: up, with an empty history
abbrev pub issued : List CardFacts → WorldState
issued cards = record {
  history = [];
  batch = None;
  up = true;
  sent = [];
  cards = map (λ facts. record { facts = facts; log = [] }) cards;
  made = [];
  given = [];
}
