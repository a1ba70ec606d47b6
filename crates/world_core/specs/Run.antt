-- Events one after the other.
use Rattle.std.specs.Prelude.{◌≡◌, ℕ, Bool, true, ◌⊎◌, Option, Some, None, List, [], ◌∷◌, ◌++◌, map, take, slice_get, Result, Ok, Err}
use Rattle.ota_core.specs.declared.cards.CardId.{CardId}
use Rattle.world_core.specs.Packet.{Packet}
use Rattle.world_core.specs.Members.{Begins}
use Rattle.world_core.specs.Card.{CardState, log_of}
use Rattle.world_core.specs.WorldState.{WorldState}
use Rattle.world_core.specs.Condition.{IsAllowed, refusal_of, may_want_memory, step_refusal, step_wants_memory}
use Rattle.world_core.specs.Effect.{world_step, line_by, answer_by}
use Rattle.world_core.specs.declared.lines.Line.{Line}
use Rattle.world_core.specs.declared.answers.Made.{Made}
use Rattle.world_core.specs.declared.card_steps.CardStep.{CardStep}
use Rattle.world_core.specs.declared.events.Event.{Event}
use Rattle.world_core.specs.declared.refusals.NotAllowed.{NotAllowed}
use Rattle.world_core.specs.declared.refusals.NotAllowed.TheVariants.{Memory}

-- the refusal names the first condition that is broken, or that memory is wanting where the event may want some
abbrev pub IsRefusalOf : WorldState → Event → NotAllowed → Type 0
IsRefusalOf w event refusal = (refusal_of w event ≡ Some refusal) ⊎ ((may_want_memory event ≡ true) × (refusal ≡ Memory))

-- what an event answers, where its first broken condition is this one and it may want memory as said, and what it leaves
abbrev pub Answers : Option NotAllowed → Bool → (after before now : WorldState) → Result (Unit {0}) NotAllowed → Type 0
Answers refusal wants after before now (Ok done) = (refusal ≡ None) × (now ≡ after)
Answers refusal wants after before now (Err named) = ((refusal ≡ Some named) ⊎ ((wants ≡ true) × (named ≡ Memory))) × (now ≡ before)

-- the line and the answer that a step adds, where the card may make it with the packet
abbrev pub IsOutcome : CardId → CardStep → Option CardState → Option Packet → Result (Option Line × Option Made) NotAllowed → Type 0
IsOutcome card step state packet (Ok outcome) =
    (step_refusal step state packet ≡ None) × (outcome.0 ≡ line_by step packet) × (outcome.1 ≡ answer_by card step packet)
IsOutcome card step state packet (Err named) =
    (step_refusal step state packet ≡ Some named) ⊎ ((step_wants_memory step ≡ true) × (named ≡ Memory))

-- all events happen, in order, and lead from the one world to the other
abbrev pub Runs : WorldState → List Event → WorldState → Type 0
Runs before [] after = after ≡ before
Runs before (event ∷ events) after = IsAllowed before event × Runs (world_step before event) events after

-- the events before the position happen, and the one there is refused
abbrev pub StopsAt : WorldState → List Event → WorldState → ℕ × NotAllowed → Type 0
StopsAt before events after stop =
    Runs before (take stop.0 events) after × ((event : Event) × (slice_get events stop.0 ≡ Some event) × IsRefusalOf after event stop.1)

-- what an event or a run of them leaves of a world: the history, what was sent, made and given, and each log only grow, and
-- the cards keep their facts
pub record IsLater (before after : WorldState) : Type 0 where
  pub history : Begins before.history after.history
  pub sent : Begins before.sent after.sent
  pub made : Begins before.made after.made
  pub given : Begins before.given after.given
  pub facts : map (λ state. state.facts) after.cards ≡ map (λ state. state.facts) before.cards
  pub logs : (card : CardId) → Begins (log_of before.cards card) (log_of after.cards card)

-- whatever events led to the world before, with these behind them they lead to the world after
abbrev pub Continues : WorldState → List Event → WorldState → Type 0
Continues before events after =
    (first : WorldState) (earlier : List Event) → Runs first earlier before → Runs first (earlier ++ events) after
