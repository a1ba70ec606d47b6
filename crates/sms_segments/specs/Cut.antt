-- How a packet is cut into messages of at most 140 octets, each with its user data header.
-- 3GPP TS 23.040, 9.2.3.24 and 9.2.3.24.1; 3GPP TS 31.115, 4.
use Rattle.std.specs.Prelude.{ℕ, ◌+◌, ◌-◌, ◌*◌, ◌/◌, ◌%◌, ◌==◌, nat_le, Bool, true, false, if◌then◌else◌, List, [], ◌∷◌, ◌++◌, length, take, drop}
use Rattle.ota_core.specs.declared.references.Reference.{Reference}
use Rattle.ota_core.specs.declared.references.Reference.TheVariants.{Short, Wide}
use Rattle.sms_segments.specs.Header.{is_wide_reference}

-- the header of the only message of a packet: its length, and the element without data
abbrev pub only_header : ℕ → List ℕ
only_header element = 0x02 ∷ element ∷ 0x00 ∷ []

-- the header of the first of several: its length, the concatenation (reference, total and place), and
-- the element without data. The concatenation has a reference of one octet, or of two.
abbrev pub first_header : ℕ → Reference → ℕ → List ℕ
first_header element (Short octet) total = 0x07 ∷ 0x00 ∷ 0x03 ∷ octet ∷ total ∷ 0x01 ∷ element ∷ 0x00 ∷ []
first_header element (Wide number) total =
    0x08 ∷ 0x08 ∷ 0x04 ∷ number / 256 ∷ number % 256 ∷ total ∷ 0x01 ∷ element ∷ 0x00 ∷ []

-- the header of a later one: its length and the concatenation
abbrev pub later_header : Reference → ℕ → ℕ → List ℕ
later_header (Short octet) total place = 0x05 ∷ 0x00 ∷ 0x03 ∷ octet ∷ total ∷ place ∷ []
later_header (Wide number) total place = 0x06 ∷ 0x08 ∷ 0x04 ∷ number / 256 ∷ number % 256 ∷ total ∷ place ∷ []

-- how many octets of a packet stand in the first of several messages, by the kind of the reference
abbrev pub first_room : Bool → ℕ
first_room false = 132
first_room true = 131

-- how many octets of a packet stand in a later message, by the kind of the reference
abbrev pub later_room : Bool → ℕ
later_room false = 134
later_room true = 133

-- how many octets a packet of 255 messages has at most, by the kind of the reference
abbrev pub longest : Bool → ℕ
longest false = 34168
longest true = 33913

-- how many messages a packet of so many octets takes: one of at most 137; else, with a reference of one octet, a first one of
-- 132 and as many later ones of 134 as the rest needs, and with one of two octets a first one of 131 and later ones of 133
abbrev pub pieces_count : ℕ → Bool → ℕ
pieces_count len false = if nat_le len 137 then 1 else 1 + (len - 132 + 133) / 134
pieces_count len true = if nat_le len 137 then 1 else 1 + (len - 131 + 132) / 133

-- the header of the message at a place, from 1, of so many
abbrev pub header_at : ℕ → ℕ → Reference → ℕ → List ℕ
header_at total element reference place =
    if total == 1 then only_header element
    else if place == 1 then first_header element reference total else later_header reference total place

-- the octets of a packet that stand in the message at a place, from 1, of so many, by the kind of the reference
abbrev pub octets_at : Bool → ℕ → List ℕ → ℕ → List ℕ
octets_at wide total packet place =
    if total == 1 then packet
    else if place == 1 then take (first_room wide) packet
    else take (later_room wide) (drop (first_room wide + later_room wide * (place - 2)) packet)

-- the message at a place, from 1, of a packet
abbrev pub piece_of : List ℕ → ℕ → Reference → ℕ → List ℕ
piece_of packet element reference place =
    let wide = is_wide_reference reference in
    let total = pieces_count (length packet) wide in header_at total element reference place ++ octets_at wide total packet place
