-- Which entries a journal can hold: each number fits its octets, a script has 1 to 4,096 octets, and a name at most 32.
use Rattle.std.specs.Prelude.{◌≡◌, ℕ, ◌%◌, ◌^◌, ◌<◌, ◌≤◌, IsTrue, List, length, All}
use Rattle.ota_core.specs.KeyBytes.{is_key_length}
use Rattle.ota_core.specs.Keyset.{Keyset}
use Rattle.ota_core.specs.Entry.{keyset_of}
use Rattle.ota_core.specs.History.{IsLegal}
use Rattle.ota_core.specs.declared.entries.Entry.{Entry}
use Rattle.ota_core.specs.declared.entries.Entry.TheVariants.{Open, Reserve, Done, Refused, Close}

-- the greatest number of octets in a script, and in an answer that is added
abbrev pub LONGEST_BODY : ℕ
LONGEST_BODY = 4096

-- the greatest number of octets in the name of a campaign
abbrev pub LONGEST_NAME : ℕ
LONGEST_NAME = 32

-- the greatest number of octets in an entry that is added
abbrev pub LONGEST_ENTRY : ℕ
LONGEST_ENTRY = 4167

-- the sender's number, the moment, the card and its key version number (ETSI TS 102 225, 5.1.2: 1 to 15)
pub record IsFront (by moment : ℕ) (keyset : Keyset) : Type 0 where
  pub by_fits : by < 2 ^ 32
  pub moment_fits : moment < 2 ^ 64
  pub card_fits : keyset.card.0 < 2 ^ 64
  pub kvn_above : 1 ≤ keyset.kvn
  pub kvn_below : keyset.kvn ≤ 15

-- the numbers of the entry fit their octets
abbrev pub IsEntry : Entry → Type 0
IsEntry (Open by moment keyset facts) =
    IsFront by moment keyset × (facts.base < 2 ^ 40) × IsTrue (is_key_length (length facts.kic)) × IsTrue (is_key_length (length facts.kid))
IsEntry (Reserve by moment keyset counter job tar name body) =
    IsFront by moment keyset × (counter < 2 ^ 40) × (job.campaign < 2 ^ 32) × (job.job < 2 ^ 32) × (length tar ≡ 3) × (length name ≤ LONGEST_NAME)
    × (1 ≤ length body) × (length body ≤ LONGEST_BODY)
IsEntry (Done by moment keyset counter answer) = IsFront by moment keyset × (counter < 2 ^ 40)
IsEntry (Refused by moment keyset counter status) = IsFront by moment keyset × (counter < 2 ^ 40)
IsEntry (Close by moment keyset) = IsFront by moment keyset

-- a script has 1 to 4,096 octets, a name at most 32, and an answer at most 4,096
abbrev pub IsSized : Entry → Type 0
IsSized (Reserve by moment keyset counter job tar name body) = (length name ≤ LONGEST_NAME) × (1 ≤ length body) × (length body ≤ LONGEST_BODY)
IsSized (Done by moment keyset counter answer) = length answer ≤ LONGEST_BODY
IsSized _ = Unit {0}

-- the entry is of a card of the lane: the lane of a card is its number modulo the number of lanes
abbrev pub IsOfLane : ℕ → ℕ → Entry → Type 0
IsOfLane lane lanes entry = (keyset_of entry).card.0 % lanes ≡ lane

-- the entry can stand in a journal of the lane
pub record IsEntryOf (lane lanes : ℕ) (entry : Entry) : Type 0 where
  pub fits : IsEntry entry
  pub of_lane : IsOfLane lane lanes entry

-- a history of the lane
pub record IsHistory (lane lanes : ℕ) (entries : List Entry) : Type 0 where
  pub legal : IsLegal entries
  pub of_lane : All (IsEntryOf lane lanes) entries
