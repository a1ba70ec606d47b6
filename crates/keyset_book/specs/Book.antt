-- The history that a book stands for, and what it has room for.
use Rattle.std.specs.Prelude.{◌≡◌, ◌≤◌, ℕ, Bool, true, false, ◌&&◌, if◌then◌else◌, unwrap_or, Option, Some, None, List, length, reverse, find}
use Rattle.std.specs.List.{list_any, list_all, position}
use Rattle.ota_core.specs.Keyset.{Keyset}
use Rattle.ota_core.specs.Entry.{Reservation, facts_in, counter_in, is_close_of, is_reserve_of, is_settlement_of}
use Rattle.ota_core.specs.History.{first_some, last_reservation, IsLegal}
use Rattle.ota_core.specs.Questions.{last_moment}
use Rattle.ota_core.specs.declared.jobs.JobId.{JobId}
use Rattle.ota_core.specs.declared.keysets.KeysetFacts.{KeysetFacts}
use Rattle.ota_core.specs.declared.entries.Entry.{Entry}
use Rattle.ota_core.specs.declared.entries.Entry.TheVariants as entry
use Rattle.keyset_book.specs.Tables.{known_in, has_keyset_place, reserved_in, has_job_place, standing_in, position_in, has_counter_place}
use Rattle.keyset_book.specs.declared.keyset_table.Known.{Known}
use Rattle.keyset_book.specs.declared.counter_table.Standing.{Standing}
use Rattle.keyset_book.specs.declared.counter_table.Standing.TheVariants as standing
use Rattle.keyset_book.specs.declared.books.Book.{Book}

-- what is known of a keyset with these facts, last counter and Close
abbrev pub known_from : Option KeysetFacts → Option ℕ → Bool → Option Known
known_from None last closed = None
known_from (Some facts) last closed = Some (record { facts = facts; last = unwrap_or last 0; closed = closed })

-- what a past says of a keyset
abbrev pub known_by : Keyset → List Entry → Option Known
known_by keyset past = known_from (first_some (facts_in keyset) past) (first_some (counter_in keyset) past) (list_any (is_close_of keyset) past)

-- how a reserved counter stands by its settlement
abbrev pub standing_of : Option Entry → Standing
standing_of (Some (entry.Done by moment keyset counter answer)) = standing.Done
standing_of (Some (entry.Refused by moment keyset counter status)) = standing.Refused status
standing_of _ = standing.Unsettled

-- what a past says of a counter
abbrev pub standing_by : Reservation → List Entry → Option Standing
standing_by counter past =
    if list_any (is_reserve_of counter) past then Some (standing_of (find (is_settlement_of counter) past)) else None

-- the book knows how many entries the past has, and at which position of the history each counter is reserved
pub record KnowsPositions (past : List Entry) (book : Book) : Type 0 where
  pub count : book.entries ≡ length past
  pub positions : (counter : Reservation) (place : ℕ) → position (is_reserve_of counter) (reverse past) ≡ Some place → position_in book.counters counter ≡ place

-- the book says of each keyset, job and counter, and of the last moment, what the past says. It counts no further than 64 bits reach.
pub record IsBookOf (past : List Entry) (book : Book) : Type 0 where
  pub keysets : (keyset : Keyset) → known_in book.keysets keyset ≡ known_by keyset past
  pub jobs : (job : JobId) → reserved_in book.jobs job ≡ last_reservation job past
  pub counters : (counter : Reservation) → standing_in book.counters counter ≡ standing_by counter past
  pub moment : book.moment ≡ last_moment past
  pub positions : length past ≤ 0xFFFF_FFFF_FFFF_FFFF → KnowsPositions past book

-- the book stands for this legal history
pub record StandsFor (book : Book) (history : List Entry) : Type 0 where
  pub legal : IsLegal history
  pub says : IsBookOf (reverse history) book

-- the book has the places that an entry fills anew. A settlement fills that of its reservation, and a Close that of its Open.
abbrev pub has_room_for : Book → Entry → Bool
has_room_for book (entry.Open by moment keyset facts) = has_keyset_place book.keysets keyset
has_room_for book (entry.Reserve by moment keyset counter job tar name body) =
    has_job_place book.jobs job && has_counter_place book.counters (record { keyset = keyset; counter = counter })
has_room_for book _ = true

-- the book has the places that the entries fill anew
abbrev pub HasRoom : Book → List Entry → Type 0
HasRoom book entries = list_all (has_room_for book) entries ≡ true

-- the entry fills no place anew
abbrev pub needs_no_room : Entry → Bool
needs_no_room (entry.Done by moment keyset counter answer) = true
needs_no_room (entry.Refused by moment keyset counter status) = true
needs_no_room (entry.Close by moment keyset) = true
needs_no_room _ = false
