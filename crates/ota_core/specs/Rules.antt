-- The rules of a legal history in their own words. A law speaks of any entry of the history, with those before it and
-- those behind it.
use Rattle.std.specs.Prelude.{◌⊎◌, ◌≡◌, ℕ, ◌+◌, ◌≤◌, Bool, true, false, if◌then◌else◌, Option, Some, None, is_some, List, [], ◌∷◌, ◌++◌, length}
use Rattle.std.specs.List.{list_any, filter_map, range_with_len}
use Rattle.ota_core.specs.Keyset.{Keyset, is_same_keyset}
use Rattle.ota_core.specs.Entry.{Reservation, keyset_of, moment_of, facts_in, is_open_of, is_close_of, reserved_by, reservation_in, is_reserve_of, is_refusal_of, is_settlement_of}
use Rattle.ota_core.specs.History.{first_some}
use Rattle.ota_core.specs.declared.jobs.JobId.{JobId}
use Rattle.ota_core.specs.declared.keysets.KeysetFacts.{KeysetFacts}
use Rattle.ota_core.specs.declared.entries.Entry.{Entry}
use Rattle.ota_core.specs.declared.entries.Entry.TheVariants.{Reserve, Refused}

-- the entry is of the keyset
abbrev pub is_of : Keyset → Entry → Bool
is_of keyset entry = is_same_keyset (keyset_of entry) keyset

-- the counter of the keyset that the entry reserves
abbrev pub counter_reserved : Keyset → Entry → Option ℕ
counter_reserved keyset (Reserve by moment reserved counter job tar name body) = if is_same_keyset reserved keyset then Some counter else None
counter_reserved keyset _ = None

module _ (history : List Entry) where
  -- each entry of a keyset is its Open or stands behind it
  abbrev pub OpenStandsFirst : Type 0
  OpenStandsFirst = (before after : List Entry) (entry : Entry) → history ≡ before ++ entry ∷ after
      → list_any (is_open_of (keyset_of entry)) (before ++ entry ∷ []) ≡ true

  -- a keyset is opened once
  abbrev pub OpenStandsOnce : Type 0
  OpenStandsOnce = (before after : List Entry) (entry : Entry) (keyset : Keyset) → history ≡ before ++ entry ∷ after
      → is_open_of keyset entry ≡ true → list_any (is_open_of keyset) before ≡ false

  -- nothing of a keyset follows its Close
  abbrev pub NothingFollowsClose : Type 0
  NothingFollowsClose = (before after : List Entry) (entry : Entry) (keyset : Keyset) → history ≡ before ++ entry ∷ after
      → is_close_of keyset entry ≡ true → list_any (is_of keyset) after ≡ false

  -- no counter twice: behind the reservation of a counter no entry reserves it again
  abbrev pub NoCounterTwice : Type 0
  NoCounterTwice = (before after : List Entry) (entry : Entry) (place : Reservation) → history ≡ before ++ entry ∷ after
      → reserved_by entry ≡ Some place → list_any (is_reserve_of place) after ≡ false

  -- the reserved counters of a keyset are one above its base, two above it, and so on
  abbrev pub CountersFollow : Type 0
  CountersFollow = (keyset : Keyset) (facts : KeysetFacts) → first_some (facts_in keyset) history ≡ Some facts
      → filter_map (counter_reserved keyset) history ≡ range_with_len (facts.base + 1) (length (filter_map (counter_reserved keyset) history))

  -- of two reservations of a job the earlier is refused before the later one
  abbrev pub EarlierIsRefused : Type 0
  EarlierIsRefused = (before between after : List Entry) (first second : Entry) (job : JobId) (place : Reservation)
      → history ≡ before ++ first ∷ (between ++ second ∷ after) → reservation_in job first ≡ Some place
      → is_some (reservation_in job second) ≡ true → list_any (is_refusal_of place) between ≡ true

  -- a settlement has its reservation before it, and no other settlement
  abbrev pub SettledOnceReserved : Type 0
  SettledOnceReserved = (before after : List Entry) (entry : Entry) (place : Reservation) → history ≡ before ++ entry ∷ after
      → is_settlement_of place entry ≡ true
      → (list_any (is_reserve_of place) before ≡ true) × (list_any (is_settlement_of place) before ≡ false)

  -- no entry has a moment below that of the entry before it
  abbrev pub MomentsNeverFall : Type 0
  MomentsNeverFall = (before after : List Entry) (first second : Entry) → history ≡ before ++ first ∷ second ∷ after
      → moment_of first ≤ moment_of second

  -- a reserved counter isn't above the last one that may be reserved (ETSI TS 102 225, 5.1.1: a counter has five octets, and the
  -- greatest blocks it)
  abbrev pub CountersHaveAnEnd : Type 0
  CountersHaveAnEnd = (before after : List Entry) (entry : Entry) (place : Reservation) → history ≡ before ++ entry ∷ after
      → reserved_by entry ≡ Some place → place.counter ≤ 0xFF_FFFF_FFFE

  -- the status of a refusal is 07 or 09: the card used the counter up and ran nothing (ETSI TS 102 225, 5.2.2)
  abbrev pub RefusalsRanNothing : Type 0
  RefusalsRanNothing = (before after : List Entry) (by moment : ℕ) (keyset : Keyset) (counter status : ℕ)
      → history ≡ before ++ Refused by moment keyset counter status ∷ after → (status ≡ 0x07) ⊎ (status ≡ 0x09)
