-- What an assembler keeps.
use Rattle.std.specs.Prelude.{◌≡◌, ℕ, ◌≤◌, ◌==◌, ◌&&◌, nat_le, Bool, if◌then◌else◌, IfSome, List, length}
use Rattle.std.specs.Map.{lookup}
use Rattle.std.specs.Option.{option_map}
use Rattle.arrayvec.specs.ArrayVec.{ArrayVec}
use Rattle.sms_segments.specs.declared.concatenations.Concatenation.{Concatenation}
use Rattle.sms_segments.specs.declared.assembling.Push.{Push}
use Rattle.sms_segments.specs.declared.assembling.Push.TheVariants.{Whole}
use Rattle.sms_segments.specs.declared.kept_pieces.Place.{Place}
use Rattle.sms_segments.specs.Assembled.{OfCard, Pieces, is_same, no_pieces, pieces_after, unless_whole, with_piece}

-- pieces with their places
abbrev pub Pile : Type 0
Pile = List (Place × ArrayVec ℕ)

-- pieces with the number of further ones for which there surely is room
pub record Holding : Type 0 where
  pub pieces : Pile
  pub room : ℕ

-- an assembler: its element, the pieces that it keeps, and for how many pushes it surely has room
pub record Kept : Type 0 where
  pub element : ℕ
  pub pieces : Pile
  pub room : ℕ

-- this place of this packet
abbrev pub is_at : Concatenation → ℕ → Place → Bool
is_at of place at = is_same of at.of && (place == at.place)

-- what is kept of a packet
abbrev pub kept_in : Pile → Concatenation → Pieces
kept_in pieces of place = option_map (λ piece. piece.items) (lookup (is_at of place) pieces)

-- with one more piece of the packet `arrived`, the last at its place
abbrev pub kept_with : Concatenation → ℕ → List ℕ → Pile → Concatenation → Pieces
kept_with arrived place octets pieces of =
    if is_same arrived of then with_piece place octets (kept_in pieces of) else kept_in pieces of

-- without the packet `gone`
abbrev pub kept_without : Concatenation → Pile → Concatenation → Pieces
kept_without gone pieces of = if is_same gone of then no_pieces else kept_in pieces of

-- what is kept once a piece of the packet `arrived` is taken
abbrev pub kept_after : Concatenation → ℕ → List ℕ → Pile → Concatenation → Pieces
kept_after arrived place octets pieces of =
    if is_same arrived of then unless_whole of.total (with_piece place octets (kept_in pieces of)) else kept_in pieces of

-- of each packet just that is kept which a past leaves
abbrev pub Keeps : ℕ → List OfCard → Pile → Type 0
Keeps element past pieces = (of : Concatenation) → kept_in pieces of ≡ pieces_after element past of

-- how many octets a piece has at most: those of a message behind the shortest header at its place
abbrev pub octets_at_most : ℕ → ℕ
octets_at_most place = if place == 1 then 132 else 134

-- a piece stands at a place of its packet, and fits in a message
abbrev pub FitsAt : Concatenation → ℕ → List ℕ → Type 0
FitsAt of place octets = (1 ≤ place) × (place ≤ of.total) × (length octets ≤ octets_at_most place)

-- each piece that is kept does so
abbrev pub AllFit : Pile → Type 0
AllFit pieces = (of : Concatenation) (place : ℕ) → IfSome (kept_in pieces of place) (FitsAt of place)

-- for how many pushes there surely is room: one, where there is room for one more piece and for the longest packet, of 255 pieces
abbrev pub room_for : ℕ → ℕ → ℕ
room_for pieces octets = if nat_le 1 pieces && nat_le 34168 octets then 1 else 0

-- this holds of the packet, where one is whole
abbrev pub IfWhole : Push → (List ℕ → Type 0) → Type 0
IfWhole (Whole packet) P = P packet
IfWhole push P = Unit {0}
