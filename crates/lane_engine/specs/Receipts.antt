-- What a message from a card says: a receipt, a notice, or nothing of ours. ETSI TS 102 225, 5.2; 3GPP TS 31.115, 4.4.
use Rattle.std.specs.Prelude.{ℕ, nat_le, Bool, true, false, ◌==◌, ◌&&◌, if◌then◌else◌, not, Option, Some, None, List, length, map, reverse}
use Rattle.std.specs.List.{list_any, range_with_len}
use Rattle.std.specs.Option.{option_map, option_and_then}
use Rattle.std.specs.Result.{result_ok}
use Rattle.ota_core.specs.Keyset.{Keyset}
use Rattle.ota_core.specs.Entry.{Reservation, is_reserve_of, is_settlement_of}
use Rattle.ota_core.specs.History.{first_some}
use Rattle.ota_core.specs.Questions.{opened_facts, state_of}
use Rattle.ota_core.specs.declared.cards.CardId.{CardId}
use Rattle.ota_core.specs.declared.entries.Entry.{Entry}
use Rattle.ota_core.specs.declared.entries.Entry.TheVariants as entry
use Rattle.ota_core.specs.declared.keysets.KeysetFacts.{KeysetFacts}
use Rattle.ota_core.specs.declared.questions.KeysetState.{KeysetState}
use Rattle.ota_core.specs.declared.questions.KeysetState.TheVariants as state
use Rattle.response_packet.specs.Opened.{opens, unsecured_in}
use Rattle.response_packet.specs.Response.{settles}
use Rattle.response_packet.specs.declared.answers.Answer.{Answer}
use Rattle.sms_segments.specs.Assembled.{OfCard, answer_to}
use Rattle.sms_segments.specs.declared.assembling.Push.{Push}
use Rattle.sms_segments.specs.declared.assembling.Push.TheVariants as push
use Rattle.lane_engine.specs.Packets.{keys_of}
use Rattle.lane_engine.specs.declared.answers.Poll.{Poll}
use Rattle.lane_engine.specs.declared.answers.Poll.TheVariants as poll

-- the information element of a response packet (3GPP TS 31.115, 4.4)
abbrev pub RESPONSE : ℕ
RESPONSE = 0x71

-- the most octets of data that a receipt has: those of the longest compact response (ETSI TS 102 226, 5.2.1)
abbrev pub LONGEST_DATA : ℕ
LONGEST_DATA = 259

-- a message that the port gave
abbrev pub message_of : CardId × List ℕ → OfCard
message_of message = record { card = message.0; octets = message.1 }

-- messages that the port gave, newest first
abbrev pub past_of : List (CardId × List ℕ) → List OfCard
past_of messages = reverse (map message_of messages)

-- what a response packet says, and the keyset under which it opens
pub record Response : Type 0 where
  pub keyset : Keyset
  pub answer : Answer

-- the counter that it answers
abbrev pub place_of : Response → Reservation
place_of response = record { keyset = response.keyset; counter = response.answer.counter }

-- what a packet says under a keyset with these facts
abbrev pub response_under : Keyset → List ℕ → KeysetFacts → Option Response
response_under keyset packet facts = option_map (λ answer. record { keyset = keyset; answer = answer }) (result_ok (opens (keys_of facts) facts.ciphered packet))

-- what a card's packet says under its keyset with this key version number, where the history opens that
abbrev pub response_at : List Entry → CardId → List ℕ → ℕ → Option Response
response_at history card packet kvn =
    let keyset : Keyset = record { card = card; kvn = kvn } in option_and_then (response_under keyset packet) (opened_facts keyset history)

-- what it says under the first of the card's keysets, in the order of their numbers, under which it opens
abbrev pub response_of : List Entry → CardId → List ℕ → Option Response
response_of history card packet = first_some (response_at history card packet) (range_with_len 1 15)

-- what is said by the packet that the message makes whole
abbrev pub response_by : List Entry → CardId → Push → Option Response
response_by history card (push.Whole packet) = response_of history card packet
response_by history card _ = None

abbrev pub response_in : List Entry → List OfCard → OfCard → Option Response
response_in history past message = response_by history message.card (answer_to RESPONSE past message)

-- A receipt says that the card used the counter up: its status is 00, 07 or 09, and it has at most 259 octets of data.
-- Every other response is a notice.
abbrev pub is_receipt : Response → Bool
is_receipt response = settles response.answer.status && nat_le (length response.answer.octets) LONGEST_DATA

abbrev pub is_closed : KeysetState → Bool
is_closed state.Closed = true
is_closed _ = false

-- the answer to a receipt of a counter behind a past in which its keyset isn't closed
abbrev pub answer_to_place : List Entry → Reservation → Poll
answer_to_place past place =
    if not (list_any (is_reserve_of place) past) then poll.NotOurs
    else (if list_any (is_settlement_of place) past then poll.Late else poll.Settled place.keyset place.counter)

-- the answer to a receipt behind a past
abbrev pub answer_to_receipt : List Entry → Response → Poll
answer_to_receipt past response =
    if is_closed (state_of response.keyset past) then poll.Late else answer_to_place past (place_of response)

abbrev pub answer_to_response : List Entry → Option Response → Poll
answer_to_response past None = poll.NotOurs
answer_to_response past (Some response) = if is_receipt response then answer_to_receipt past response else poll.Notice response.answer.status

-- a packet in the unsecured form is a notice
abbrev pub answer_to_packet : List Entry → Option Response → Option ℕ → Poll
answer_to_packet past response (Some status) = poll.Notice status
answer_to_packet past response None = answer_to_response past response

abbrev pub answer_to_push : List Entry → CardId → Push → Poll
answer_to_push history card push.NotOurs = poll.NotOurs
answer_to_push history card push.More = poll.More
answer_to_push history card (push.Whole packet) = answer_to_packet (reverse history) (response_of history card packet) (unsecured_in packet)

-- the answer to a message that the port gave behind these
abbrev pub answer_to_message : List Entry → List OfCard → OfCard → Poll
answer_to_message history past message = answer_to_push history message.card (answer_to RESPONSE past message)

-- the entry that settles a receipt: Done with its data for status 00, Refused with its status for 07 and 09
abbrev pub settlement_of : (by moment : ℕ) → Response → Entry
settlement_of by moment response =
    if response.answer.status == 0x00
    then entry.Done by moment response.keyset response.answer.counter response.answer.octets
    else entry.Refused by moment response.keyset response.answer.counter response.answer.status

-- the receipt that is due to be settled
abbrev pub due_by : Poll → Option Response → Option Response
due_by (poll.Settled keyset counter) response = response
due_by _ response = None

abbrev pub due_in : List Entry → List OfCard → OfCard → Option Response
due_in history past message = due_by (answer_to_message history past message) (response_in history past message)
