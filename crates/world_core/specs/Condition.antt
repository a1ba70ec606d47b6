-- When an event can happen: the first of its conditions that is broken.
use Rattle.std.specs.Prelude.{◌≡◌, ℕ, zero, suc, nat_le, nat_lt, Bool, true, false, ◌==◌, ◌&&◌, if◌then◌else◌, not, Option, Some, None, is_some, is_none, List, [], ◌∷◌, length, reverse, slice_get}
use Rattle.std.specs.Option.{option_or, option_map, option_and_then}
use Rattle.std.specs.List.{list_any, list_all, range_with_len}
use Rattle.std.specs.Str.{bytes_eq}
use Rattle.ota_core.specs.Keyset.{Keyset, is_same_keyset}
use Rattle.ota_core.specs.History.{first_some, broken_batch}
use Rattle.ota_core.specs.declared.cards.CardId.{CardId}
use Rattle.ota_core.specs.declared.entries.Entry.{Entry}
use Rattle.ota_core.specs.declared.entries.Entry.TheVariants as entry
use Rattle.world_core.specs.Packet.{Packet, packet_at, pieces_of}
use Rattle.world_core.specs.Card.{CardState, find_card}
use Rattle.world_core.specs.Receiving.{may_step, is_secured}
use Rattle.world_core.specs.WorldState.{WorldState}
use Rattle.world_core.specs.declared.segments.Sent.{Sent}
use Rattle.world_core.specs.declared.answers.Made.{Made}
use Rattle.world_core.specs.declared.card_steps.CardStep.{CardStep}
use Rattle.world_core.specs.declared.card_steps.CardStep.TheVariants.{Drop, Answered, CutBeforeCounter, Took}
use Rattle.world_core.specs.declared.events.Event.{Event}
use Rattle.world_core.specs.declared.events.Event.TheVariants.{Begin, Seal, Leave, Deliver, Give, Stop, Start, PowerCut}
use Rattle.world_core.specs.declared.refusals.NotAllowed.{NotAllowed}
use Rattle.world_core.specs.declared.refusals.NotAllowed.TheVariants.{Down, Up, BatchOpen, NoBatch, Broken, NoReservation, BadPlace, NoCard, NotWhole, BadStep, NoAnswer}

-- a condition that is broken unless the test holds
abbrev pub refused_unless : Bool → NotAllowed → Option NotAllowed
refused_unless holds refusal = if holds then None else Some refusal

-- the answer has this keyset, counter, status and data
abbrev pub is_answer_with : Keyset → ℕ → ℕ → List ℕ → Made → Bool
is_answer_with keyset counter status answer made =
    is_same_keyset made.keyset keyset && (made.counter == counter) && (made.status == status) && bytes_eq made.answer answer

-- the answer is there and passes the test
abbrev pub passes : (Made → Bool) → Option Made → Bool
passes test None = false
passes test (Some answer) = test answer

-- an answer that reached the gateway passes the test
abbrev pub is_given : (Made → Bool) → List Made → List ℕ → Bool
is_given test made given = list_any (λ position. passes test (slice_get made position)) given

-- a settlement has an answer that reached the gateway
abbrev pub is_answered : List Made → List ℕ → Entry → Bool
is_answered made given (entry.Done by moment keyset counter answer) = is_given (is_answer_with keyset counter 0x00 answer) made given
is_answered made given (entry.Refused by moment keyset counter status) = is_given (is_answer_with keyset counter status []) made given
is_answered made given _ = true

-- Begin: up, no batch, the batch legal one after the other, and each settlement answered
abbrev pub begin_refusal : WorldState → List Entry → Option NotAllowed
begin_refusal w batch =
    option_or (refused_unless w.up Down)
    (option_or (refused_unless (is_none w.batch) BatchOpen)
    (option_or (option_map Broken (broken_batch (reverse w.history) batch))
    (refused_unless (list_all (is_answered w.made w.given) batch) NoAnswer)))

-- Seal: up, with a batch
abbrev pub seal_refusal : WorldState → Option NotAllowed
seal_refusal w = option_or (refused_unless w.up Down) (refused_unless (is_some w.batch) NoBatch)

-- the place is one of the packet's pieces
abbrev pub place_refusal : ℕ → Option Packet → Option NotAllowed
place_refusal place None = Some NoReservation
place_refusal place (Some packet) = refused_unless (nat_le 1 place && nat_le place (pieces_of packet)) BadPlace

-- Leave: up, no batch, a reservation at that position, a place of its packet
abbrev pub leave_refusal : WorldState → ℕ → ℕ → Option NotAllowed
leave_refusal w reservation place =
    option_or (refused_unless w.up Down)
    (option_or (refused_unless (is_none w.batch) BatchOpen) (place_refusal place (packet_at w.history reservation)))

-- a piece that left for the card, of the reservation
abbrev pub is_piece_of : CardId → ℕ → Option Sent → Bool
is_piece_of card reservation None = false
is_piece_of card reservation (Some piece) = (piece.card.0 == card.0) && (piece.reservation == reservation)

abbrev pub is_at_place : ℕ → Option Sent → Bool
is_at_place place None = false
is_at_place place (Some piece) = piece.place == place

-- the reservation of the first piece
abbrev pub first_reservation : List Sent → List ℕ → Option ℕ
first_reservation sent [] = None
first_reservation sent (piece ∷ pieces) = option_map (λ message. message.reservation) (slice_get sent piece)

-- each piece is one that left for the card, of the reservation
abbrev pub are_pieces_of : List Sent → CardId → List ℕ → ℕ → Bool
are_pieces_of sent card pieces reservation = list_all (λ piece. is_piece_of card reservation (slice_get sent piece)) pieces

-- one of the pieces has the place
abbrev pub has_place : List Sent → List ℕ → ℕ → Bool
has_place sent pieces place = list_any (λ piece. is_at_place place (slice_get sent piece)) pieces

-- each place from 1 to the last is that of one of the pieces
abbrev pub has_places : List Sent → List ℕ → ℕ → Bool
has_places sent pieces last = list_all (has_place sent pieces) (range_with_len 1 last)

-- the packet of a reservation, where all pieces are of it and each of its places is among them
abbrev pub packet_if_whole : List Sent → CardId → List ℕ → ℕ → Packet → Option Packet
packet_if_whole sent card pieces reservation packet =
    if are_pieces_of sent card pieces reservation && has_places sent pieces (pieces_of packet) then Some packet else None

-- the same of the reservation at a position of the history
abbrev pub packet_whole_at : List Entry → List Sent → CardId → List ℕ → ℕ → Option Packet
packet_whole_at history sent card pieces reservation =
    option_and_then (packet_if_whole sent card pieces reservation) (packet_at history reservation)

-- the packet that the pieces make whole: there is a reservation in the history of which all pieces are, and each place of
-- its packet is that of one of them
abbrev pub whole_packet : List Entry → List Sent → CardId → List ℕ → Option Packet
whole_packet history sent card pieces = first_some (packet_whole_at history sent card pieces) (range_with_len 0 (length history))

abbrev pub step_refusal : CardStep → Option CardState → Option Packet → Option NotAllowed
step_refusal step None packet = Some NoCard
step_refusal step (Some card) None = Some NotWhole
step_refusal step (Some card) (Some packet) = refused_unless (may_step card packet step) BadStep

-- Deliver: the card is there, the pieces make a packet whole, and the card may make the step
abbrev pub deliver_refusal : WorldState → CardId → List ℕ → CardStep → Option NotAllowed
deliver_refusal w card pieces step = step_refusal step (find_card card w.cards) (whole_packet w.history w.sent card pieces)

-- Give: up, and there is such an answer
abbrev pub give_refusal : WorldState → ℕ → Option NotAllowed
give_refusal w position = option_or (refused_unless w.up Down) (refused_unless (nat_lt position (length w.made)) NoAnswer)

-- Stop: up
abbrev pub stop_refusal : WorldState → Option NotAllowed
stop_refusal w = refused_unless w.up Down

-- Start: down
abbrev pub start_refusal : WorldState → Option NotAllowed
start_refusal w = refused_unless (not w.up) Up

-- PowerCut: the card is there
abbrev pub cut_refusal : WorldState → CardId → Option NotAllowed
cut_refusal w card = refused_unless (is_some (find_card card w.cards)) NoCard

-- the first condition of the event that is broken
abbrev pub refusal_of : WorldState → Event → Option NotAllowed
refusal_of w (Begin batch) = begin_refusal w batch
refusal_of w Seal = seal_refusal w
refusal_of w (Leave reservation place) = leave_refusal w reservation place
refusal_of w (Deliver card pieces step) = deliver_refusal w card pieces step
refusal_of w (Give position) = give_refusal w position
refusal_of w (Stop kept) = stop_refusal w
refusal_of w Start = start_refusal w
refusal_of w (PowerCut card) = cut_refusal w card

-- the event can happen
abbrev pub IsAllowed : WorldState → Event → Type 0
IsAllowed w event = refusal_of w event ≡ None

-- the step adds a line or an answer
abbrev pub step_wants_memory : CardStep → Bool
step_wants_memory Drop = false
step_wants_memory (Answered status) = is_secured status
step_wants_memory CutBeforeCounter = false
step_wants_memory (Took executed finished status answer answered) = true

-- the event may want memory: it makes a list of the world longer
abbrev pub may_want_memory : Event → Bool
may_want_memory (Begin batch) = nat_lt 0 (length batch)
may_want_memory (Leave reservation place) = true
may_want_memory (Deliver card pieces step) = step_wants_memory step
may_want_memory (Give position) = true
may_want_memory _ = false
