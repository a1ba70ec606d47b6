-- What the table of answers says of a response, and the keysets under which it is tried.
use Rattle.std.proofs.Common.{◌≡◌, ℕ, suc, ◌+◌, ◌-◌, ◌≤◌, ◌<◌, ◌&&◌, nat_le, Bool, true, false, not, is_some, find, Option, Some, None, List, [], ◌∷◌, length, take, drop, refl, sym, ◌∙◌, ap, arith}
use Rattle.std.specs.Option.{option_map, option_or}
use Rattle.std.specs.List.{list_any, range_with_len}
use Rattle.std.proofs.lemmas.List.{length-take, length-drop}
use Rattle.ota_core.specs.Entry.{Reservation, is_reserve_of, is_settlement_of}
use Rattle.ota_core.specs.History.{first_some}
use Rattle.ota_core.specs.Questions.{state_of}
use Rattle.ota_core.specs.declared.entries.Entry.{Entry}
use Rattle.ota_core.specs.declared.entries.Entry.TheVariants.{Open, Reserve, Done, Refused, Close}
use Rattle.ota_core.specs.declared.questions.KeysetState.{KeysetState}
use Rattle.ota_core.specs.declared.questions.KeysetState.TheVariants as state
use Rattle.keyset_book.specs.Answers.{settled_in}
use Rattle.keyset_book.specs.declared.answers.Settled.{Settled}
use Rattle.response_packet.specs.Response.{settles}
use Rattle.lane_engine.specs.Receipts.{Response, place_of, is_closed, is_receipt, answer_to_place, answer_to_receipt, answer_to_response}
use Rattle.lane_engine.specs.Responses.{response_in_octets}
use Rattle.lane_engine.specs.declared.answers.Poll.TheVariants as poll
use Rattle.lane_engine.specs.declared.responses.ResponseIn.{ResponseIn}

-- a counter has a settlement where an entry settles it
pub settled_some : (place : Reservation) (past : List Entry) → is_some (settled_in (find (is_settlement_of place) past)) ≡ list_any (is_settlement_of place) past
settled_some place [] = refl
settled_some place (Open by moment keyset facts ∷ past) = settled_some place past
settled_some place (Reserve by moment keyset counter job tar name body ∷ past) = settled_some place past
settled_some place (Done by moment keyset counter answer ∷ past) = by_test (is_settlement_of place (Done by moment keyset counter answer)) refl (settled_some place past)
  where
    by_test : (t : Bool) → is_settlement_of place (Done by moment keyset counter answer) ≡ t → is_some (settled_in (find (is_settlement_of place) past)) ≡ list_any (is_settlement_of place) past
        → is_some (settled_in (find (is_settlement_of place) (Done by moment keyset counter answer ∷ past))) ≡ list_any (is_settlement_of place) (Done by moment keyset counter answer ∷ past)
    by_test true is later = rw is refl
    by_test false is later = rw is later
settled_some place (Refused by moment keyset counter status ∷ past) = by_test (is_settlement_of place (Refused by moment keyset counter status)) refl (settled_some place past)
  where
    by_test : (t : Bool) → is_settlement_of place (Refused by moment keyset counter status) ≡ t → is_some (settled_in (find (is_settlement_of place) past)) ≡ list_any (is_settlement_of place) past
        → is_some (settled_in (find (is_settlement_of place) (Refused by moment keyset counter status ∷ past))) ≡ list_any (is_settlement_of place) (Refused by moment keyset counter status ∷ past)
    by_test true is later = rw is refl
    by_test false is later = rw is later
settled_some place (Close by moment keyset ∷ past) = settled_some place past

-- the answers to a counter, by its tests
pub place_unreserved : (past : List Entry) (place : Reservation) → list_any (is_reserve_of place) past ≡ false → poll.NotOurs ≡ answer_to_place past place
place_unreserved past place none = rw none refl

pub place_settled : (past : List Entry) (place : Reservation) (found : Settled) → list_any (is_reserve_of place) past ≡ true → settled_in (find (is_settlement_of place) past) ≡ Some found → poll.Late ≡ answer_to_place past place
place_settled past place found reserved is =
    let test : list_any (is_settlement_of place) past ≡ true = sym (settled_some place past) ∙ ap (λ (o : Option Settled). is_some o) is in
    rw (reserved, test) refl

pub place_unsettled : (past : List Entry) (place : Reservation) → list_any (is_reserve_of place) past ≡ true → settled_in (find (is_settlement_of place) past) ≡ None → poll.Settled place.keyset place.counter ≡ answer_to_place past place
place_unsettled past place reserved is =
    let test : list_any (is_settlement_of place) past ≡ false = sym (settled_some place past) ∙ ap (λ (o : Option Settled). is_some o) is in
    rw (reserved, test) refl

-- and to a receipt, by the state of its keyset
pub receipt_closed : (past : List Entry) (response : Response) → state_of response.keyset past ≡ state.Closed → poll.Late ≡ answer_to_receipt past response
receipt_closed past response is = rw (ap (λ (s : KeysetState). is_closed s) is) refl

pub receipt_unclosed : (past : List Entry) (response : Response) (found : KeysetState) → state_of response.keyset past ≡ found → is_closed found ≡ false → answer_to_place past (place_of response) ≡ answer_to_receipt past response
receipt_unclosed past response found is unclosed = rw (ap (λ (s : KeysetState). is_closed s) is ∙ unclosed) refl

-- the data of a response have the length that it says
pub within_length : (from len : ℕ) (octets : List ℕ) → from + len ≤ length octets → length (take len (drop from octets)) ≡ len
within_length from len octets fits = (let a = length-take len (drop from octets) in let b = length-drop from octets in omega (arith, a, b))

-- a response is a receipt by its status and the length that it says
pub receipt_by : (response : ResponseIn) (octets : List ℕ) → response.answer.from + response.answer.len ≤ length octets
    → (settles response.answer.status && nat_le response.answer.len 259) ≡ is_receipt (response_in_octets response octets)
receipt_by response octets fits = ap (λ (n : ℕ). settles response.answer.status && nat_le n 259) (sym (within_length response.answer.from response.answer.len octets fits))

pub answer_receipt : (past : List Entry) (response : Response) → is_receipt response ≡ true → answer_to_receipt past response ≡ answer_to_response past (Some response)
answer_receipt past response is = rw is refl

pub answer_notice : (past : List Entry) (response : Response) → is_receipt response ≡ false → poll.Notice response.answer.status ≡ answer_to_response past (Some response)
answer_notice past response is = rw is refl

-- the tries from a keyset on are that of it and those behind it
pub try_next : {B : Type 0} (f : ℕ → Option B) (kvn : ℕ) → kvn ≤ 15 → first_some f (range_with_len kvn (16 - kvn)) ≡ option_or (f kvn) (first_some f (range_with_len (kvn + 1) (16 - (kvn + 1))))
try_next f kvn low =
    let left : 16 - kvn ≡ suc (16 - (kvn + 1)) = omega arith in
    ap (λ (n : ℕ). first_some f (range_with_len kvn n)) left

pub tried_all : {B : Type 0} (f : ℕ → Option B) (kvn : ℕ) → 15 < kvn → first_some f (range_with_len kvn (16 - kvn)) ≡ None
tried_all f kvn over = (let none : 16 - kvn ≡ 0 = omega arith in rw none refl)

pub try_failed : {B : Type 0} (f : ℕ → Option B) (kvn : ℕ) → kvn ≤ 15 → f kvn ≡ None → first_some f (range_with_len (kvn + 1) (16 - (kvn + 1))) ≡ first_some f (range_with_len kvn (16 - kvn))
try_failed f kvn low failed = sym (try_next f kvn low ∙ ap (λ o. option_or o (first_some f (range_with_len (kvn + 1) (16 - (kvn + 1))))) failed)

pub try_opened : {B : Type 0} (f : ℕ → Option B) (kvn : ℕ) (y : B) → kvn ≤ 15 → f kvn ≡ Some y → Some y ≡ first_some f (range_with_len kvn (16 - kvn))
try_opened f kvn y low opened = sym (try_next f kvn low ∙ ap (λ o. option_or o (first_some f (range_with_len (kvn + 1) (16 - (kvn + 1))))) opened)

-- a test that isn't false is true
pub not_false : (b : Bool) → not b ≡ false → b ≡ true
not_false true h = refl
not_false false h = cc

pub unclosed : (found : KeysetState) → (found ≡ state.Closed → ⊥) → is_closed found ≡ false
unclosed state.New isnt = refl
unclosed state.Open isnt = refl
unclosed state.Closed isnt = absurd (isnt refl)

-- what was opened, where something was
pub opens_some : (o : Option ResponseIn) (found : ResponseIn) (octets : List ℕ) → o ≡ Some found → option_map (λ (response : ResponseIn). response_in_octets response octets) o ≡ Some (response_in_octets found octets)
opens_some o found octets is = ap (option_map (λ (response : ResponseIn). response_in_octets response octets)) is

pub opens_none : (o : Option ResponseIn) (octets : List ℕ) → o ≡ None → option_map (λ (response : ResponseIn). response_in_octets response octets) o ≡ None
opens_none o octets is = ap (option_map (λ (response : ResponseIn). response_in_octets response octets)) is
