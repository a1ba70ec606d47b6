-- What an event changes.
use Rattle.std.specs.Prelude.{ℕ, Bool, true, false, if◌then◌else◌, Option, Some, None, List, [], ◌∷◌, ◌++◌}
use Rattle.std.specs.Option.{option_map, option_and_then, option_to_list}
use Rattle.ota_core.specs.declared.cards.CardId.{CardId}
use Rattle.ota_core.specs.declared.entries.Entry.{Entry}
use Rattle.world_core.specs.Packet.{Packet, packet_at}
use Rattle.world_core.specs.Card.{logged}
use Rattle.world_core.specs.Receiving.{line_of, answer_of}
use Rattle.world_core.specs.WorldState.{WorldState, written}
use Rattle.world_core.specs.Condition.{whole_packet}
use Rattle.world_core.specs.declared.segments.Sent.{Sent}
use Rattle.world_core.specs.declared.lines.Line.{Line}
use Rattle.world_core.specs.declared.answers.Made.{Made}
use Rattle.world_core.specs.declared.card_steps.CardStep.{CardStep}
use Rattle.world_core.specs.declared.events.Event.{Event}
use Rattle.world_core.specs.declared.events.Event.TheVariants.{Begin, Seal, Leave, Deliver, Give, Stop, Start, PowerCut}

-- the batch is being written
abbrev pub begun : WorldState → List Entry → WorldState
begun w batch = record w { batch = Some batch }

-- the batch is part of the history
abbrev pub sealed : WorldState → WorldState
sealed w = record w { history = written w; batch = None }

-- the piece of a packet that leaves
abbrev pub piece_of : ℕ → ℕ → Packet → Sent
piece_of reservation place packet = record { card = packet.keyset.card; reservation = reservation; place = place }

-- sent is longer by the piece
abbrev pub left : WorldState → ℕ → ℕ → WorldState
left w reservation place =
    record w { sent = w.sent ++ option_to_list (option_map (piece_of reservation place) (packet_at w.history reservation)) }

-- the card's log is longer by the line, and made by the answer
abbrev pub stepped : WorldState → CardId → Option Line → Option Made → WorldState
stepped w card line answer =
    record w { cards = logged w.cards card (option_to_list line); made = w.made ++ option_to_list answer }

-- the line that the step adds, where the packet is whole
abbrev pub line_by : CardStep → Option Packet → Option Line
line_by step packet = option_and_then (λ whole. line_of whole step) packet

-- the answer that the step adds, where the packet is whole
abbrev pub answer_by : CardId → CardStep → Option Packet → Option Made
answer_by card step packet = option_and_then (λ whole. answer_of card whole step) packet

-- the card makes the step with the packet that the pieces make whole
abbrev pub delivered : WorldState → CardId → List ℕ → CardStep → WorldState
delivered w card pieces step =
    let packet = whole_packet w.history w.sent card pieces in
    stepped w card (line_by step packet) (answer_by card step packet)

-- given is longer by the answer
abbrev pub gave : WorldState → ℕ → WorldState
gave w position = record w { given = w.given ++ position ∷ [] }

-- the batch is kept whole or not at all, and the gateway is down
abbrev pub stopped : WorldState → Bool → WorldState
stopped w kept = record w { history = if kept then written w else w.history; batch = None; up = false }

abbrev pub started : WorldState → WorldState
started w = record w { up = true }

-- the world after an event that is allowed
abbrev pub world_step : WorldState → Event → WorldState
world_step w (Begin batch) = begun w batch
world_step w Seal = sealed w
world_step w (Leave reservation place) = left w reservation place
world_step w (Deliver card pieces step) = delivered w card pieces step
world_step w (Give position) = gave w position
world_step w (Stop kept) = stopped w kept
world_step w Start = started w
world_step w (PowerCut card) = w
