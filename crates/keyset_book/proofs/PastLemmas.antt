-- What a legal past says of a keyset or a counter that it doesn't open or reserve.
use Rattle.std.proofs.Common.{◌≡◌, ℕ, ◌≤◌, Bool, true, false, not, ◌==◌, ◌&&◌, ◌||◌, List, [], ◌∷◌, None, Some, unwrap_or, is_some, find, refl, arith}
use Rattle.std.specs.Option.{option_or}
use Rattle.std.specs.List.{list_any}
use Rattle.std.proofs.lemmas.Bool.Decides.{nat_tests}
use Rattle.std.proofs.lemmas.Bool.{or_parts}
use Rattle.ota_core.specs.Keyset.{Keyset, is_same_keyset}
use Rattle.ota_core.specs.Job.{is_same_job}
use Rattle.ota_core.specs.Entry.{Reservation, facts_in, counter_in, is_open_of, is_close_of, is_reserve_of, is_refusal_of, is_settlement_of}
use Rattle.ota_core.specs.History.{first_some, unless, broken_in_use, broken_settlement, broken_status, next_counter, last_reservation, IsLegalPast}
use Rattle.ota_core.specs.HistoryLaws.{in_use-opened, is_in_use, in_order, reserves_next, both_hold, unless-holds, not-holds, is_same_keyset-true, is_same_keyset-refl, is_same_place-true}
use Rattle.ota_core.specs.declared.jobs.JobId.{JobId}
use Rattle.ota_core.specs.declared.keysets.KeysetFacts.{KeysetFacts}
use Rattle.ota_core.specs.declared.entries.Entry.{Entry}
use Rattle.ota_core.specs.declared.entries.Entry.TheVariants.{Open, Reserve, Done, Refused, Close}
use Rattle.ota_core.specs.declared.entries.Illegal.{Illegal}

pub apart : {test : Bool} → test ≡ true → test ≡ false → ⊥
apart is isnt = cc

-- by cases on a test
pub by_cases : {P : Type 0} (test : Bool) → (test ≡ true → P) → (test ≡ false → P) → P
by_cases true holds fails = holds refl
by_cases false holds fails = fails refl

-- the opened keysets are those with facts
pub opened-facts : (keyset : Keyset) (past : List Entry) → list_any (is_open_of keyset) past ≡ is_some (first_some (facts_in keyset) past)
opened-facts keyset [] = refl
opened-facts keyset (Open by moment opened facts ∷ past) =
    by_cases (is_same_keyset opened keyset) (λ same. rw same refl) (λ same. rw same (opened-facts keyset past))
opened-facts keyset (Reserve by moment reserved counter job tar name body ∷ past) = opened-facts keyset past
opened-facts keyset (Done by moment reserved counter answer ∷ past) = opened-facts keyset past
opened-facts keyset (Refused by moment reserved counter status ∷ past) = opened-facts keyset past
opened-facts keyset (Close by moment closed ∷ past) = opened-facts keyset past

-- an entry other than Open of a keyset in use isn't of one that has no Open
pub other_keyset : (keyset used : Keyset) (past : List Entry) → broken_in_use used past ≡ None
    → list_any (is_open_of keyset) past ≡ false → is_same_keyset used keyset ≡ false
other_keyset keyset used past in_use unopened = by_test (is_same_keyset used keyset) refl
  where
    by_test : (same : Bool) → is_same_keyset used keyset ≡ same → same ≡ false
    by_test true same = absurd (apart (rw (is_same_keyset-true used keyset same) at (in_use-opened used past in_use)) unopened)
    by_test false same = refl

-- a keyset that has no Open has no Close
pub unopened_unclosed : (keyset : Keyset) (past : List Entry) → IsLegalPast past
    → list_any (is_open_of keyset) past ≡ false → list_any (is_close_of keyset) past ≡ false
unopened_unclosed keyset [] legal unopened = refl
unopened_unclosed keyset (Open by moment opened facts ∷ past) legal unopened =
    unopened_unclosed keyset past legal.0 (or_parts (is_same_keyset opened keyset) (list_any (is_open_of keyset) past) unopened).1
unopened_unclosed keyset (Reserve by moment reserved counter job tar name body ∷ past) legal unopened = unopened_unclosed keyset past legal.0 unopened
unopened_unclosed keyset (Done by moment reserved counter answer ∷ past) legal unopened = unopened_unclosed keyset past legal.0 unopened
unopened_unclosed keyset (Refused by moment reserved counter status ∷ past) legal unopened = unopened_unclosed keyset past legal.0 unopened
unopened_unclosed keyset (Close by moment closed ∷ past) legal unopened =
    rw (other_keyset keyset closed past (is_in_use past (Close by moment closed) legal.1 refl) unopened, unopened_unclosed keyset past legal.0 unopened) refl

-- a keyset that has no Open has used up no counter
pub unopened_unused : (keyset : Keyset) (past : List Entry) → IsLegalPast past
    → list_any (is_open_of keyset) past ≡ false → first_some (counter_in keyset) past ≡ None
unopened_unused keyset [] legal unopened = refl
unopened_unused keyset (Open by moment opened facts ∷ past) legal unopened =
    rw ((or_parts (is_same_keyset opened keyset) (list_any (is_open_of keyset) past) unopened).0)
    (unopened_unused keyset past legal.0 (or_parts (is_same_keyset opened keyset) (list_any (is_open_of keyset) past) unopened).1)
unopened_unused keyset (Reserve by moment reserved counter job tar name body ∷ past) legal unopened =
    rw (other_keyset keyset reserved past (is_in_use past (Reserve by moment reserved counter job tar name body) legal.1 refl) unopened)
    (unopened_unused keyset past legal.0 unopened)
unopened_unused keyset (Done by moment reserved counter answer ∷ past) legal unopened = unopened_unused keyset past legal.0 unopened
unopened_unused keyset (Refused by moment reserved counter status ∷ past) legal unopened = unopened_unused keyset past legal.0 unopened
unopened_unused keyset (Close by moment closed ∷ past) legal unopened = unopened_unused keyset past legal.0 unopened

-- a keyset that has no Open has no reserved counter
pub unopened_unreserved : (place : Reservation) (past : List Entry) → IsLegalPast past
    → list_any (is_open_of place.keyset) past ≡ false → list_any (is_reserve_of place) past ≡ false
unopened_unreserved place [] legal unopened = refl
unopened_unreserved place (Open by moment opened facts ∷ past) legal unopened =
    unopened_unreserved place past legal.0 (or_parts (is_same_keyset opened place.keyset) (list_any (is_open_of place.keyset) past) unopened).1
unopened_unreserved place (Reserve by moment reserved counter job tar name body ∷ past) legal unopened =
    rw (other_keyset place.keyset reserved past (is_in_use past (Reserve by moment reserved counter job tar name body) legal.1 refl) unopened, unopened_unreserved place past legal.0 unopened) refl
unopened_unreserved place (Done by moment reserved counter answer ∷ past) legal unopened = unopened_unreserved place past legal.0 unopened
unopened_unreserved place (Refused by moment reserved counter status ∷ past) legal unopened = unopened_unreserved place past legal.0 unopened
unopened_unreserved place (Close by moment closed ∷ past) legal unopened = unopened_unreserved place past legal.0 unopened

-- the last counter of the keyset that is used up
abbrev pub last_used : Keyset → List Entry → ℕ
last_used keyset past = unwrap_or (first_some (counter_in keyset) past) 0

-- a legal Open is the keyset's first
pub opens_first : (by moment : ℕ) (keyset : Keyset) (facts : KeysetFacts) (past : List Entry) → IsLegalPast (Open by moment keyset facts ∷ past)
    → list_any (is_open_of keyset) past ≡ false
opens_first by moment keyset facts past legal =
    not-holds (list_any (is_open_of keyset) past) Illegal.OpenedTwice (in_order past (Open by moment keyset facts) legal.1)

-- a counter that isn't above the last one is below the next
pub below_next : (keyset : Keyset) (counter : ℕ) (place : Reservation) (past : List Entry) → keyset ≡ place.keyset → counter ≡ next_counter keyset past
    → place.counter ≤ last_used place.keyset past → place.counter ≤ counter
below_next keyset counter place past one next below =
    let above : counter ≡ next_counter place.keyset past = rw one at next in
    omega arith

-- a reserved counter isn't above the last one
pub reserved_below : (place : Reservation) (past : List Entry) → IsLegalPast past
    → list_any (is_reserve_of place) past ≡ true → place.counter ≤ last_used place.keyset past
reserved_below place [] legal reserved = cc
reserved_below place (Open by moment opened facts ∷ past) legal reserved =
    by_cases (is_same_keyset opened place.keyset)
    (λ same. absurd (apart reserved (unopened_unreserved place past legal.0 (rw (is_same_keyset-true opened place.keyset same) at (opens_first by moment opened facts past legal)))))
    (λ same. rw same (reserved_below place past legal.0 reserved))
reserved_below place (Reserve by moment keyset counter job tar name body ∷ past) legal reserved =
    by_cases (is_same_keyset keyset place.keyset)
    (λ keysets. rw keysets (by_cases (counter == place.counter)
    (λ same. grind (arith, nat_tests, same))
    (λ same. below_next keyset counter place past (is_same_keyset-true keyset place.keyset keysets)
    (reserves_next past by moment keyset counter job tar name body legal.1).0
    (reserved_below place past legal.0 (rw (keysets, same) at reserved)))))
    (λ keysets. rw keysets (reserved_below place past legal.0 (rw keysets at reserved)))
reserved_below place (Done by moment keyset counter answer ∷ past) legal reserved = reserved_below place past legal.0 reserved
reserved_below place (Refused by moment keyset counter status ∷ past) legal reserved = reserved_below place past legal.0 reserved
reserved_below place (Close by moment keyset ∷ past) legal reserved = reserved_below place past legal.0 reserved

-- the counter that comes next isn't reserved
pub next_unreserved : (place : Reservation) (past : List Entry) → IsLegalPast past → place.counter ≡ next_counter place.keyset past
    → list_any (is_reserve_of place) past ≡ false
next_unreserved place past legal next =
    by_cases (list_any (is_reserve_of place) past)
    (λ reserved. let below = reserved_below place past legal reserved in absurd (omega arith))
    (λ free. free)

-- a place of the same keyset and counter
pub same_place : (keyset : Keyset) (counter : ℕ) (place : Reservation) → (is_same_keyset keyset place.keyset && (counter == place.counter)) ≡ true
    → record { keyset = keyset; counter = counter } ≡ place
same_place keyset counter place same =
    let one = is_same_place-true keyset counter place same in
    rw (one.0, one.1) refl

-- a settlement that keeps the rules is of a reserved counter
pub settles_reserved : (keyset : Keyset) (counter : ℕ) (place : Reservation) (past : List Entry)
    → broken_settlement (record { keyset = keyset; counter = counter }) past ≡ None
    → (is_same_keyset keyset place.keyset && (counter == place.counter)) ≡ true → list_any (is_reserve_of place) past ≡ true
settles_reserved keyset counter place past rule same =
    let reserved = unless-holds (list_any (is_reserve_of (record { keyset = keyset; counter = counter })) past) Illegal.NotReserved
    (both_hold (unless (list_any (is_reserve_of (record { keyset = keyset; counter = counter })) past) Illegal.NotReserved)
    (unless (not (list_any (is_settlement_of (record { keyset = keyset; counter = counter })) past)) Illegal.AlreadySettled) rule).0 in
    rw (same_place keyset counter place same) at reserved

-- a legal settlement keeps the rule of settlements
pub done_settles : (by moment : ℕ) (keyset : Keyset) (counter : ℕ) (answer : List ℕ) (past : List Entry) → IsLegalPast (Done by moment keyset counter answer ∷ past)
    → broken_settlement (record { keyset = keyset; counter = counter }) past ≡ None
done_settles by moment keyset counter answer past legal =
    (both_hold (broken_in_use keyset past) (broken_settlement (record { keyset = keyset; counter = counter }) past) (in_order past (Done by moment keyset counter answer) legal.1)).1

pub refused_settles : (by moment : ℕ) (keyset : Keyset) (counter status : ℕ) (past : List Entry) → IsLegalPast (Refused by moment keyset counter status ∷ past)
    → broken_settlement (record { keyset = keyset; counter = counter }) past ≡ None
refused_settles by moment keyset counter status past legal =
    (both_hold (broken_settlement (record { keyset = keyset; counter = counter }) past) (broken_status status)
    (both_hold (broken_in_use keyset past) (option_or (broken_settlement (record { keyset = keyset; counter = counter }) past) (broken_status status)) (in_order past (Refused by moment keyset counter status) legal.1)).1).0

-- a settled counter is reserved
pub settled_reserved : (place : Reservation) (past : List Entry) → IsLegalPast past
    → list_any (is_settlement_of place) past ≡ true → list_any (is_reserve_of place) past ≡ true
settled_reserved place [] legal settled = cc
settled_reserved place (Open by moment keyset facts ∷ past) legal settled = settled_reserved place past legal.0 settled
settled_reserved place (Reserve by moment keyset counter job tar name body ∷ past) legal settled =
    by_cases (is_same_keyset keyset place.keyset && (counter == place.counter))
    (λ same. rw same refl)
    (λ other. rw other (settled_reserved place past legal.0 settled))
settled_reserved place (Done by moment keyset counter answer ∷ past) legal settled =
    by_cases (is_same_keyset keyset place.keyset && (counter == place.counter))
    (λ same. settles_reserved keyset counter place past (done_settles by moment keyset counter answer past legal) same)
    (λ other. settled_reserved place past legal.0 (rw other at settled))
settled_reserved place (Refused by moment keyset counter status ∷ past) legal settled =
    by_cases (is_same_keyset keyset place.keyset && (counter == place.counter))
    (λ same. settles_reserved keyset counter place past (refused_settles by moment keyset counter status past legal) same)
    (λ other. settled_reserved place past legal.0 (rw other at settled))
settled_reserved place (Close by moment keyset ∷ past) legal settled = settled_reserved place past legal.0 settled

-- a counter that isn't reserved isn't settled
pub unreserved_unsettled : (place : Reservation) (past : List Entry) → IsLegalPast past
    → list_any (is_reserve_of place) past ≡ false → list_any (is_settlement_of place) past ≡ false
unreserved_unsettled place past legal free =
    by_cases (list_any (is_settlement_of place) past)
    (λ settled. absurd (apart (settled_reserved place past legal settled) free))
    (λ unsettled. unsettled)

-- a counter that isn't settled isn't refused
pub unsettled_unrefused : (place : Reservation) (past : List Entry) → list_any (is_settlement_of place) past ≡ false → list_any (is_refusal_of place) past ≡ false
unsettled_unrefused place [] unsettled = refl
unsettled_unrefused place (Open by moment keyset facts ∷ past) unsettled = unsettled_unrefused place past unsettled
unsettled_unrefused place (Reserve by moment keyset counter job tar name body ∷ past) unsettled = unsettled_unrefused place past unsettled
unsettled_unrefused place (Done by moment keyset counter answer ∷ past) unsettled =
    unsettled_unrefused place past (or_parts (is_same_keyset keyset place.keyset && (counter == place.counter)) (list_any (is_settlement_of place) past) unsettled).1
unsettled_unrefused place (Refused by moment keyset counter status ∷ past) unsettled =
    let parts = or_parts (is_same_keyset keyset place.keyset && (counter == place.counter)) (list_any (is_settlement_of place) past) unsettled in
    rw (parts.0) (unsettled_unrefused place past parts.1)
unsettled_unrefused place (Close by moment keyset ∷ past) unsettled = unsettled_unrefused place past unsettled

-- the last reservation of a job is one
pub last_reserved : (job : JobId) (place : Reservation) (past : List Entry) → last_reservation job past ≡ Some place → list_any (is_reserve_of place) past ≡ true
last_reserved job place [] last = cc
last_reserved job place (Open by moment keyset facts ∷ past) last = last_reserved job place past last
last_reserved job place (Reserve by moment keyset counter reserved tar name body ∷ past) last =
    by_cases (is_same_job reserved job)
    (λ same. reserves_itself keyset counter place past (rw same at last))
    (λ other. among keyset counter place past (last_reserved job place past (rw other at last)))
  where
    reserves_itself : (keyset : Keyset) (counter : ℕ) (place : Reservation) (past : List Entry) → Some (record { keyset = keyset; counter = counter }) ≡ Some place
        → ((is_same_keyset keyset place.keyset && (counter == place.counter)) || list_any (is_reserve_of place) past) ≡ true
    reserves_itself keyset counter place past here =
        let is : place ≡ record { keyset = keyset; counter = counter } = cc in
        rw is (rw (is_same_keyset-refl keyset) (grind (arith, nat_tests)))

    among : (keyset : Keyset) (counter : ℕ) (place : Reservation) (past : List Entry) → list_any (is_reserve_of place) past ≡ true
        → ((is_same_keyset keyset place.keyset && (counter == place.counter)) || list_any (is_reserve_of place) past) ≡ true
    among keyset counter place past there =
        by_cases (is_same_keyset keyset place.keyset && (counter == place.counter)) (λ same. rw same refl) (λ other. rw other there)
last_reserved job place (Done by moment keyset counter answer ∷ past) last = last_reserved job place past last
last_reserved job place (Refused by moment keyset counter status ∷ past) last = last_reserved job place past last
last_reserved job place (Close by moment keyset ∷ past) last = last_reserved job place past last

-- where no element passes the test, none is found
pub unfound : {X : Type 0} (test : X → Bool) (xs : List X) → list_any test xs ≡ false → find test xs ≡ None
unfound test [] none = refl
unfound test (x ∷ xs) none =
    let parts = or_parts (test x) (list_any test xs) none in
    rw (parts.0) (unfound test xs parts.1)
