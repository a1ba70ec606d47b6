-- Which histories are legal. A rule speaks of the past of an entry: the entries before it, newest first.
use Rattle.std.specs.Prelude.{◌≡◌, ℕ, ◌+◌, ◌≤◌, nat_le, Bool, ◌==◌, ◌||◌, if◌then◌else◌, not, Option, Some, None, unwrap_or, List, [], ◌∷◌, reverse, length, filter}
use Rattle.std.specs.Option.{option_or}
use Rattle.std.specs.List.{list_any, flat_map, filter_map}
use Rattle.ota_core.specs.Keyset.{Keyset}
use Rattle.ota_core.specs.Entry.{Reservation, moment_of, is_open_of, is_close_of, counter_in, reservation_in, is_reserve_of, is_refusal_of, is_settlement_of}
use Rattle.ota_core.specs.declared.jobs.JobId.{JobId}
use Rattle.ota_core.specs.declared.entries.Entry.{Entry}
use Rattle.ota_core.specs.declared.entries.Entry.TheVariants.{Open, Reserve, Done, Refused, Close}
use Rattle.ota_core.specs.declared.entries.Illegal.{Illegal}
use Rattle.ota_core.specs.declared.entries.Illegal.TheVariants.{NotOpened, OpenedTwice, Closed, Exhausted, NotNext, JobTaken, NotReserved, AlreadySettled, BadStatus, Earlier}

-- the first answer that f gives along the list
abbrev pub first_some : {A B : Type 0} → (A → Option B) → List A → Option B
first_some f [] = None
first_some f (x ∷ xs) = option_or (f x) (first_some f xs)

-- a rule that is broken unless the test holds
abbrev pub unless : Bool → Illegal → Option Illegal
unless holds rule = if holds then None else Some rule

-- the counter that comes next: one above the last reserved one, or above the base where there is none
abbrev pub next_counter : Keyset → List Entry → ℕ
next_counter keyset past = unwrap_or (first_some (counter_in keyset) past) 0 + 1

-- the last counter that may be reserved
abbrev pub LAST_COUNTER : ℕ
LAST_COUNTER = 0xFF_FFFF_FFFE

-- the last reservation for the job
abbrev pub last_reservation : JobId → List Entry → Option Reservation
last_reservation job past = first_some (reservation_in job) past

-- an entry other than Open stands behind the keyset's Open and before its Close
abbrev pub broken_in_use : Keyset → List Entry → Option Illegal
broken_in_use keyset past =
    option_or (unless (list_any (is_open_of keyset) past) NotOpened) (unless (not (list_any (is_close_of keyset) past)) Closed)

-- a counter is the one that comes next, and none comes after the last
abbrev pub broken_counter : ℕ → ℕ → Option Illegal
broken_counter counter next = option_or (unless (nat_le next LAST_COUNTER) Exhausted) (unless (counter == next) (NotNext next))

-- a job is reserved again only where its last reservation is refused
abbrev pub broken_job : List Entry → Option Reservation → Option Illegal
broken_job past None = None
broken_job past (Some last) = unless (list_any (is_refusal_of last) past) (JobTaken last.counter)

-- a counter that is settled is reserved and has no settlement before
abbrev pub broken_settlement : Reservation → List Entry → Option Illegal
broken_settlement place past =
    option_or (unless (list_any (is_reserve_of place) past) NotReserved) (unless (not (list_any (is_settlement_of place) past)) AlreadySettled)

-- the status of a refusal says that the card used the counter up and ran nothing (ETSI TS 102 225, 5.2.2: 07 and 09)
abbrev pub broken_status : ℕ → Option Illegal
broken_status status = unless ((status == 0x07) || (status == 0x09)) BadStatus

-- the first rule of keysets, counters and jobs that the entry breaks behind its past
abbrev pub broken_in_order : List Entry → Entry → Option Illegal
broken_in_order past (Open by moment keyset facts) = unless (not (list_any (is_open_of keyset) past)) OpenedTwice
broken_in_order past (Reserve by moment keyset counter job tar name body) =
    option_or (broken_in_use keyset past)
    (option_or (broken_counter counter (next_counter keyset past)) (broken_job past (last_reservation job past)))
broken_in_order past (Done by moment keyset counter answer) =
    option_or (broken_in_use keyset past) (broken_settlement (record { keyset = keyset; counter = counter }) past)
broken_in_order past (Refused by moment keyset counter status) =
    option_or (broken_in_use keyset past)
    (option_or (broken_settlement (record { keyset = keyset; counter = counter }) past) (broken_status status))
broken_in_order past (Close by moment keyset) = broken_in_use keyset past

-- no entry has a moment below that of the entry before it
abbrev pub broken_moment : List Entry → ℕ → Option Illegal
broken_moment [] moment = None
broken_moment (last ∷ past) moment = unless (nat_le (moment_of last) moment) (Earlier (moment_of last))

-- the first rule that the entry breaks behind its past; that of the moments is tried last
abbrev pub broken : List Entry → Entry → Option Illegal
broken past entry = option_or (broken_in_order past entry) (broken_moment past (moment_of entry))

-- each entry of a past is legal behind those before it
abbrev pub IsLegalPast : List Entry → Type 0
IsLegalPast [] = Unit {0}
IsLegalPast (entry ∷ past) = IsLegalPast past × (broken past entry ≡ None)

-- each entry of a history is legal behind those before it
abbrev pub IsLegal : List Entry → Type 0
IsLegal history = IsLegalPast (reverse history)

-- the first rule that a batch breaks behind a past
abbrev pub broken_batch : List Entry → List Entry → Option Illegal
broken_batch past [] = None
broken_batch past (entry ∷ entries) = option_or (broken past entry) (broken_batch (entry ∷ past) entries)

-- the reservations for the job that aren't refused
abbrev pub live_reservations : JobId → List Entry → List Reservation
live_reservations job history =
    filter (λ place. not (list_any (is_refusal_of place) history)) (filter_map (reservation_in job) history)

-- over all lanes together, each job has at most one reservation that isn't refused
abbrev pub EachJobLiveOnce : List (List Entry) → Type 0
EachJobLiveOnce histories = (job : JobId) → length (flat_map (live_reservations job) histories) ≤ 1
