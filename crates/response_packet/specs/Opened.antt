-- What a response packet says, or the first refusal that applies. ETSI TS 102 225, 5.2.
use Rattle.std.specs.Prelude.{◌≡◌, ℕ, ◌+◌, ◌-◌, ◌%◌, ◌≤◌, ◌==◌, ◌&&◌, ◌||◌, nat_le, Bool, not, if◌then◌else◌, Option, Some, None, Result, Ok, Err, List, ◌++◌, length, take, drop, slice_index}
use Rattle.std.specs.Str.{bytes_eq}
use Rattle.aes_modes.specs.KeyPair.{KeyPair}
use Rattle.response_packet.specs.declared.answers.Answer.{Answer}
use Rattle.response_packet.specs.declared.answers.AnswerIn.{AnswerIn}
use Rattle.response_packet.specs.declared.answers.AnswerErr.{AnswerErr}
use Rattle.response_packet.specs.declared.answers.AnswerErr.TheVariants.{Form, Unsecured, CcWrong, Padding, Memory}
use Rattle.response_packet.specs.declared.fronts.Front.{Front}
use Rattle.response_packet.specs.declared.fronts.Front.TheVariants.{NoForm, Plain, Secured}
use Rattle.secured_packet.specs.Secured.{checksum_of, deciphered, number_of_five, number_of_two}
use Rattle.response_packet.specs.Response.{user_data_header}

-- at least 13 octets, of which RPL is the number less its own 2
abbrev pub has_length : List ℕ → Bool
has_length packet = nat_le 13 (length packet) && (number_of_two (take 2 packet) == length packet - 2)

-- at least 21 octets, and what is ciphered is whole blocks
abbrev pub has_blocks : Bool → List ℕ → Bool
has_blocks ciphered packet = nat_le 21 (length packet) && (not ciphered || ((length packet - 6) % 16 == 0))

-- what a packet is by its front: RHL is 0A without CC, and 12 with it
abbrev pub front_in : Bool → List ℕ → Front
front_in ciphered packet =
    if not (has_length packet) then NoForm
    else (if slice_index packet 2 == 0x0A then Plain (slice_index packet 12)
    else (if (slice_index packet 2 == 0x12) && has_blocks ciphered packet then Secured else NoForm))

-- the status of a packet in the unsecured form: RHL is 0A
abbrev pub unsecured_in : List ℕ → Option ℕ
unsecured_in packet = if has_length packet && (slice_index packet 2 == 0x0A) then Some (slice_index packet 12) else None

-- the packet as it was before ciphering: TAR ends at 6, CNTR at 11, PCNTR at 12, the status at 13 and CC at 21, where
-- the text begins
abbrev pub plain_of : Bool → List ℕ → List ℕ → List ℕ
plain_of ciphered kic packet = take 6 packet ++ deciphered ciphered kic (drop 6 packet)

-- the packet as it was before ciphering, without CC
abbrev pub checked_of : List ℕ → List ℕ
checked_of plain = take 13 plain ++ drop 21 plain

-- CC is the one that belongs to the packet
abbrev pub is_authentic : List ℕ → List ℕ → Bool
is_authentic kid plain = bytes_eq (take 8 (drop 13 plain)) (checksum_of kid (user_data_header ++ checked_of plain))

-- the data are the text without its last PCNTR octets, whatever they hold
abbrev pub data_in : List ℕ → List ℕ
data_in checked = take (length (drop 13 checked) - slice_index checked 11) (drop 13 checked)

abbrev pub answer_in : List ℕ → Answer
answer_in checked =
    record { tar = take 3 (drop 3 checked); counter = number_of_five (take 5 (drop 6 checked)); status = slice_index checked 12; octets = data_in checked }

-- there are as many octets of padding as PCNTR says
abbrev pub has_padding : List ℕ → Bool
has_padding checked = nat_le (slice_index checked 11) (length (drop 13 checked))

-- the fields of an authentic packet, where it has as many octets of padding as it says
abbrev pub opened_checked : List ℕ → Result Answer AnswerErr
opened_checked checked = if has_padding checked then Ok (answer_in checked) else Err Padding

abbrev pub opened_plain : List ℕ → List ℕ → Result Answer AnswerErr
opened_plain kid plain = if is_authentic kid plain then opened_checked (checked_of plain) else Err CcWrong

abbrev pub opened_by : KeyPair → Bool → List ℕ → Front → Result Answer AnswerErr
opened_by keys ciphered packet NoForm = Err Form
opened_by keys ciphered packet (Plain status) = Err (Unsecured status)
opened_by keys ciphered packet Secured = opened_plain keys.kid (plain_of ciphered keys.kic packet)

-- what the packet says under these keys
unfoldable pub opens : KeyPair → Bool → List ℕ → Result Answer AnswerErr
opens keys ciphered packet = opened_by keys ciphered packet (front_in ciphered packet)

-- memory is wanted only for a packet that opens
abbrev pub MayWantMemory : Result Answer AnswerErr → Type 0
MayWantMemory (Ok answer) = Unit {0}
MayWantMemory (Err refusal) = ⊥

-- it is refused so, and not for want of memory
abbrev pub IsRefused : Result Answer AnswerErr → AnswerErr → Type 0
IsRefused opened Memory = ⊥
IsRefused opened refusal = opened ≡ Err refusal

-- an opening is answered by what the packet says, unless memory is wanting
abbrev pub Answers : Result Answer AnswerErr → Result Answer AnswerErr → Type 0
Answers opened (Ok answer) = opened ≡ Ok answer
Answers opened (Err Memory) = MayWantMemory opened
Answers opened (Err refusal) = opened ≡ Err refusal

-- the answer whose data stand in these octets
abbrev pub answer_at : AnswerIn → List ℕ → Answer
answer_at answer octets = record { tar = answer.tar; counter = answer.counter; status = answer.status; octets = take answer.len (drop answer.from octets) }

-- an opening into octets is answered by what the packet says, and never by want of memory
abbrev pub AnswersIn : Result Answer AnswerErr → Result AnswerIn AnswerErr → List ℕ → Type 0
AnswersIn opened (Ok answer) octets = (opened ≡ Ok (answer_at answer octets)) × (answer.from + answer.len ≤ length octets)
AnswersIn opened (Err Memory) octets = ⊥
AnswersIn opened (Err refusal) octets = opened ≡ Err refusal

-- the same of the packet without CC, which stands behind 8 octets
abbrev pub AnswersBehind : Result Answer AnswerErr → Result AnswerIn AnswerErr → List ℕ → Type 0
AnswersBehind opened (Ok answer) checked =
    (opened ≡ Ok (record { tar = answer.tar; counter = answer.counter; status = answer.status; octets = take answer.len (drop 13 checked) }))
    × (answer.from ≡ 21) × (13 + answer.len ≤ length checked)
AnswersBehind opened (Err Memory) checked = ⊥
AnswersBehind opened (Err refusal) checked = opened ≡ Err refusal
