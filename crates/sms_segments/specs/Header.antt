-- Which user data headers are read. 3GPP TS 23.040, 9.2.3.24; 3GPP TS 31.115, 4.
use Rattle.std.specs.Prelude.{ℕ, ◌+◌, ◌*◌, ◌≤◌, ◌==◌, ◌&&◌, ◌||◌, nat_le, Bool, true, false, if◌then◌else◌, Option, Some, None, List, ◌∷◌, length, drop}
use Rattle.std.specs.Option.{option_or}
use Rattle.ota_core.specs.declared.references.Reference.{Reference}
use Rattle.ota_core.specs.declared.references.Reference.TheVariants.{Short, Wide}
use Rattle.sms_segments.specs.declared.headers.Header.{Header}
use Rattle.sms_segments.specs.declared.headers.Header.TheVariants.{Only, Part}

-- a reference of two octets
abbrev pub is_wide_reference : Reference → Bool
is_wide_reference (Short octet) = false
is_wide_reference (Wide number) = true

-- the message is the only one of its packet: 02 E 00 and an octet behind it
abbrev pub is_only : ℕ → List ℕ → Bool
is_only element (a ∷ b ∷ c ∷ _ ∷ _) = (a == 0x02) && (b == element) && (c == 0x00)
is_only element _ = false

-- the message is the first of several: 07 00 03 r m 01 E 00, or 07 E 00 00 03 r m 01, with m above 0 and
-- an octet behind it
abbrev pub first_in : ℕ → List ℕ → Option Header
first_in element (a ∷ b ∷ c ∷ d ∷ e ∷ f ∷ g ∷ h ∷ _ ∷ _) =
    if (a == 0x07) && (b == 0x00) && (c == 0x03) && (f == 0x01) && (g == element) && (h == 0x00) && nat_le 1 e
    then Some (Part (Short d) e 1)
    else (if (a == 0x07) && (b == element) && (c == 0x00) && (d == 0x00) && (e == 0x03) && (h == 0x01) && nat_le 1 g
    then Some (Part (Short f) g 1) else None)
first_in element _ = None

-- the same with a reference of two octets: 08 08 04 r r m 01 E 00, or 08 E 00 08 04 r r m 01, with m above 0 and an octet
-- behind it
abbrev pub first_wide_in : ℕ → List ℕ → Option Header
first_wide_in element (a ∷ b ∷ c ∷ d ∷ e ∷ f ∷ g ∷ h ∷ i ∷ _ ∷ _) =
    if (a == 0x08) && (b == 0x08) && (c == 0x04) && (g == 0x01) && (h == element) && (i == 0x00) && nat_le 1 f
    then Some (Part (Wide (d * 256 + e)) f 1)
    else (if (a == 0x08) && (b == element) && (c == 0x00) && (d == 0x08) && (e == 0x04) && (i == 0x01) && nat_le 1 h
    then Some (Part (Wide (f * 256 + g)) h 1) else None)
first_wide_in element _ = None

-- the message is a later one: 05 00 03 r m s, with s from 2 to m and an octet behind it
abbrev pub later_in : List ℕ → Option Header
later_in (a ∷ b ∷ c ∷ d ∷ e ∷ f ∷ _ ∷ _) =
    if (a == 0x05) && (b == 0x00) && (c == 0x03) && nat_le 2 f && nat_le f e then Some (Part (Short d) e f) else None
later_in _ = None

-- the same with a reference of two octets: 06 08 04 r r m s
abbrev pub later_wide_in : List ℕ → Option Header
later_wide_in (a ∷ b ∷ c ∷ d ∷ e ∷ f ∷ g ∷ _ ∷ _) =
    if (a == 0x06) && (b == 0x08) && (c == 0x04) && nat_le 2 g && nat_le g f then Some (Part (Wide (d * 256 + e)) f g) else None
later_wide_in _ = None

-- the message is a piece of a packet of several, or of one with a total of 1, with a reference of one octet
abbrev pub short_part_in : ℕ → List ℕ → Option Header
short_part_in element message = option_or (first_in element message) (later_in message)

-- the same with a reference of two octets
abbrev pub wide_part_in : ℕ → List ℕ → Option Header
wide_part_in element message = option_or (first_wide_in element message) (later_wide_in message)

-- the same with a reference of either kind
abbrev pub part_in : ℕ → List ℕ → Option Header
part_in element message = option_or (short_part_in element message) (wide_part_in element message)

-- the header of a message of at most 140 octets, where it is in the grammar
abbrev pub header_of : ℕ → List ℕ → Option Header
header_of element message =
    if nat_le (length message) 140
    then (if is_only element message then Some Only else part_in element message)
    else None

-- the header has a reference of two octets
abbrev pub has_wide : Option Header → Bool
has_wide (Some (Part reference total place)) = is_wide_reference reference
has_wide _ = false

-- the message has a header of the grammar, of a command packet or of a response packet, with a reference of two octets
abbrev pub is_wide : List ℕ → Bool
is_wide message = has_wide (header_of 0x70 message) || has_wide (header_of 0x71 message)

-- how many octets a header has
abbrev pub header_len : Header → ℕ
header_len Only = 3
header_len (Part (Short octet) total place) = if place == 1 then 8 else 6
header_len (Part (Wide number) total place) = if place == 1 then 9 else 7

-- what stands behind the header
abbrev pub octets_behind : Header → List ℕ → List ℕ
octets_behind header message = drop (header_len header) message

-- a place is one of those of its total
abbrev pub IsPlaced : Header → Type 0
IsPlaced Only = Unit {0}
IsPlaced (Part reference total place) = (1 ≤ place) × (place ≤ total)
