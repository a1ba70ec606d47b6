-- A legal history keeps each rule. A law on the past, newest first, comes first, and then that of the history.
use Rattle.std.proofs.Common.{◌≡◌, ℕ, ◌+◌, ◌<◌, ◌≤◌, nat_le, not, Bool, true, false, ◌==◌, ◌&&◌, ◌||◌, if◌then◌else◌, Option, Some, None, is_some, unwrap_or, List, [], ◌∷◌, ◌++◌, length, reverse, refl, sym, ap, ◌∙◌, subst, arith, append_assoc, ◌⊎◌, inl, inr}
use Rattle.std.specs.Option.{option_or}
use Rattle.std.specs.List.{list_any, filter_map, range_with_len}
use Rattle.std.proofs.lemmas.Bool.{or_parts, cases_eq}
use Rattle.std.proofs.lemmas.Bool.Decides.{nat_tests}
use Rattle.std.proofs.lemmas.Grind.{common_steps}
use Rattle.std.proofs.lemmas.List.{reverse-append, reverse-reverse, append-nil, length-append, map-id}
use Rattle.std.proofs.lemmas.List.Elements.{filter_map-append}
use Rattle.std.proofs.lemmas.List.FromFn.{map-range_with_len_more}
use Rattle.std.proofs.lemmas.List.Folds.{list_any-append}
use Rattle.ota_core.specs.Keyset.{Keyset, is_same_keyset}
use Rattle.ota_core.specs.Job.{is_same_job}
use Rattle.ota_core.specs.Entry.{Reservation, keyset_of, moment_of, counter_in, facts_in, is_open_of, is_close_of, reserved_by, reservation_in, is_reserve_of, is_refusal_of, is_settlement_of}
use Rattle.ota_core.specs.History.{broken, broken_in_order, broken_in_use, broken_settlement, broken_status, broken_job, broken_moment, unless, next_counter, last_reservation, first_some, IsLegalPast, IsLegal}
use Rattle.ota_core.specs.HistoryLaws.{both_hold, in_order, not_earlier, unless-holds, not-holds, in_use-opened, in_use-not_closed, is_in_use, reserves_next, legal_past_behind, is_same_keyset-true, is_same_keyset-refl, is_same_job-true, is_same_place-true}
use Rattle.ota_core.specs.Rules.{is_of, counter_reserved, OpenStandsFirst, OpenStandsOnce, NothingFollowsClose, NoCounterTwice, CountersFollow, EarlierIsRefused, SettledOnceReserved, MomentsNeverFall, CountersHaveAnEnd, RefusalsRanNothing}
use Rattle.ota_core.specs.declared.jobs.JobId.{JobId}
use Rattle.ota_core.specs.declared.keysets.KeysetFacts.{KeysetFacts}
use Rattle.ota_core.specs.declared.entries.Entry.{Entry}
use Rattle.ota_core.specs.declared.entries.Entry.TheVariants.{Open, Reserve, Done, Refused, Close}
use Rattle.ota_core.specs.declared.entries.Illegal.{Illegal}

apart : {test : Bool} → test ≡ true → test ≡ false → ⊥
apart is isnt = cc

-- ---- tests over parts of a list

any-reverse : (p : Entry → Bool) (entries : List Entry) → list_any p (reverse entries) ≡ list_any p entries
any-reverse p [] = refl
any-reverse p (entry ∷ entries) = rw (reverse-append (entry ∷ []) entries, list_any-append p (reverse entries) (entry ∷ []), any-reverse p entries) (swap (list_any p entries) (p entry))
  where
    swap : (a b : Bool) → (a || (b || false)) ≡ (b || a)
    swap true true = refl
    swap true false = refl
    swap false true = refl
    swap false false = refl

any-older : (p : Entry → Bool) (newer older : List Entry) → list_any p older ≡ true → list_any p (newer ++ older) ≡ true
any-older p newer older has = rw (list_any-append p newer older, has) (behind (list_any p newer))
  where
    behind : (a : Bool) → (a || true) ≡ true
    behind true = refl
    behind false = refl

none-older : (p : Entry → Bool) (newer older : List Entry) → list_any p (newer ++ older) ≡ false → list_any p older ≡ false
none-older p newer older none = (or_parts (list_any p newer) (list_any p older) (rw (← list_any-append p newer older) none)).1

both_false : (a b : Bool) → a ≡ false → b ≡ false → (a || b) ≡ false
both_false a b first second = rw (first, second) refl

-- the past of an entry in a history
past-split : (before after : List Entry) (entry : Entry) → reverse (before ++ entry ∷ after) ≡ reverse after ++ entry ∷ reverse before
past-split before after entry = rw (reverse-append before (entry ∷ after), reverse-append (entry ∷ []) after, append_assoc) refl

legal-split : (history before after : List Entry) (entry : Entry) → IsLegal history → history ≡ before ++ entry ∷ after
    → IsLegalPast (reverse after ++ entry ∷ reverse before)
legal-split history before after entry legal is = rw (← past-split before after entry) (subst (λ h. IsLegal h) is legal)

legal-there : (history before after : List Entry) (entry : Entry) → IsLegal history → history ≡ before ++ entry ∷ after
    → IsLegalPast (entry ∷ reverse before)
legal-there history before after entry legal is = legal_past_behind (reverse after) (entry ∷ reverse before) (legal-split history before after entry legal is)

-- ---- Opens

open_first : (past : List Entry) (entry : Entry) → broken past entry ≡ None → (test : Bool) → is_open_of (keyset_of entry) entry ≡ test
    → (test || list_any (is_open_of (keyset_of entry)) past) ≡ true
open_first past entry legal true is = refl
open_first past entry legal false is = in_use-opened (keyset_of entry) past (is_in_use past entry legal is)

open_once : (past : List Entry) (entry : Entry) (keyset : Keyset) → broken past entry ≡ None → is_open_of keyset entry ≡ true → list_any (is_open_of keyset) past ≡ false
open_once past (Open by moment opened facts) keyset legal is =
    subst (λ (k : Keyset). list_any (is_open_of k) past ≡ false) (is_same_keyset-true opened keyset is)
    (not-holds (list_any (is_open_of opened) past) Illegal.OpenedTwice (in_order past (Open by moment opened facts) legal))
open_once past (Reserve by moment reserved counter job tar name body) keyset legal is = cc
open_once past (Done by moment settled counter answer) keyset legal is = cc
open_once past (Refused by moment settled counter status) keyset legal is = cc
open_once past (Close by moment closed) keyset legal is = cc

pub open_stands_first : (history : List Entry) → IsLegal history → OpenStandsFirst history
open_stands_first history legal = λ before after entry is.
    let there = legal-there history before after entry legal is in
    let p : Entry → Bool = is_open_of (keyset_of entry) in
    let found : (p entry || list_any p (reverse before)) ≡ true = open_first (reverse before) entry there.1 (p entry) refl in
    rw (list_any-append p before (entry ∷ []), ← any-reverse p before) (swap (p entry) (list_any p (reverse before)) found)
  where
    swap : (a b : Bool) → (a || b) ≡ true → (b || (a || false)) ≡ true
    swap true true h = refl
    swap true false h = refl
    swap false true h = refl
    swap false false h = cc

pub open_stands_once : (history : List Entry) → IsLegal history → OpenStandsOnce history
open_stands_once history legal = λ before after entry keyset is opens.
    let there = legal-there history before after entry legal is in
    rw (← any-reverse (is_open_of keyset) before) (open_once (reverse before) entry keyset there.1 opens)

-- ---- Closes

-- an entry of a keyset that is opened and closed breaks a rule
not_behind_close : (past : List Entry) (entry : Entry) (keyset : Keyset) → broken past entry ≡ None
    → list_any (is_open_of keyset) past ≡ true → list_any (is_close_of keyset) past ≡ true → is_of keyset entry ≡ false
not_behind_close past entry keyset legal opened closed = by_test (is_of keyset entry) refl
  where
    by_open : (test : Bool) → is_open_of keyset entry ≡ test → keyset_of entry ≡ keyset → ⊥
    by_open true is same = apart opened (open_once past entry keyset legal is)
    by_open false is same =
        apart closed (in_use-not_closed keyset past (subst (λ (k : Keyset). broken_in_use k past ≡ None) same
        (is_in_use past entry legal (subst (λ (k : Keyset). is_open_of k entry ≡ false) (sym same) is))))

    by_test : (test : Bool) → is_of keyset entry ≡ test → test ≡ false
    by_test true is = absurd (by_open (is_open_of keyset entry) refl (is_same_keyset-true (keyset_of entry) keyset is))
    by_test false is = refl

nothing_newer : (newer older : List Entry) (keyset : Keyset) → IsLegalPast (newer ++ older) → list_any (is_open_of keyset) older ≡ true
    → list_any (is_close_of keyset) older ≡ true → list_any (is_of keyset) newer ≡ false
nothing_newer [] older keyset legal opened closed = refl
nothing_newer (entry ∷ newer) older keyset legal opened closed =
    both_false (is_of keyset entry) (list_any (is_of keyset) newer)
    (not_behind_close (newer ++ older) entry keyset legal.1 (any-older (is_open_of keyset) newer older opened) (any-older (is_close_of keyset) newer older closed))
    (nothing_newer newer older keyset legal.0 opened closed)

-- a Close is of a keyset in use
close_opened : (past : List Entry) (entry : Entry) (keyset : Keyset) → broken past entry ≡ None → is_close_of keyset entry ≡ true → list_any (is_open_of keyset) past ≡ true
close_opened past (Close by moment closed) keyset legal is =
    subst (λ (k : Keyset). list_any (is_open_of k) past ≡ true) (is_same_keyset-true closed keyset is)
    (in_use-opened closed past (is_in_use past (Close by moment closed) legal refl))
close_opened past (Open by moment opened facts) keyset legal is = cc
close_opened past (Reserve by moment reserved counter job tar name body) keyset legal is = cc
close_opened past (Done by moment settled counter answer) keyset legal is = cc
close_opened past (Refused by moment settled counter status) keyset legal is = cc

pub nothing_follows_close : (history : List Entry) → IsLegal history → NothingFollowsClose history
nothing_follows_close history legal = λ before after entry keyset is closes.
    let whole = legal-split history before after entry legal is in
    let there = legal_past_behind (reverse after) (entry ∷ reverse before) whole in
    let opened : list_any (is_open_of keyset) (reverse before) ≡ true = close_opened (reverse before) entry keyset there.1 closes in
    rw (← any-reverse (is_of keyset) after)
    (nothing_newer (reverse after) (entry ∷ reverse before) keyset whole (any-older (is_open_of keyset) (entry ∷ []) (reverse before) opened) (rw closes refl))

-- ---- moments

pub moments_never_fall : (history : List Entry) → IsLegal history → MomentsNeverFall history
moments_never_fall history legal = λ before after first second is.
    let whole : history ≡ (before ++ first ∷ []) ++ second ∷ after = is ∙ sym (append_assoc before (first ∷ []) (second ∷ after)) in
    let there = legal-there history (before ++ first ∷ []) after second legal whole in
    let later : broken_moment (first ∷ reverse before) (moment_of second) ≡ None =
    subst (λ past. broken_moment past (moment_of second) ≡ None) (reverse-append before (first ∷ [])) (not_earlier (reverse (before ++ first ∷ [])) second there.1) in
    let test : nat_le (moment_of first) (moment_of second) ≡ true = unless-holds (nat_le (moment_of first) (moment_of second)) (Illegal.Earlier (moment_of first)) later in
    grind (arith, nat_tests, test)

-- ---- counters

-- where the keyset has no Open, no entry is of it
unopened : (past : List Entry) (keyset : Keyset) → IsLegalPast past → list_any (is_open_of keyset) past ≡ false → list_any (is_of keyset) past ≡ false
unopened [] keyset legal none = refl
unopened (entry ∷ past) keyset legal none =
    let parts = or_parts (is_open_of keyset entry) (list_any (is_open_of keyset) past) none in
    both_false (is_of keyset entry) (list_any (is_of keyset) past) (by_test (is_of keyset entry) refl parts.0 parts.1) (unopened past keyset legal.0 parts.1)
  where
    by_test : (test : Bool) → is_of keyset entry ≡ test → is_open_of keyset entry ≡ false → list_any (is_open_of keyset) past ≡ false → test ≡ false
    by_test false is opens none = refl
    by_test true is opens none =
        let same : keyset_of entry ≡ keyset = is_same_keyset-true (keyset_of entry) keyset is in
        absurd (apart (in_use-opened keyset past (subst (λ (k : Keyset). broken_in_use k past ≡ None) same
        (is_in_use past entry legal.1 (subst (λ (k : Keyset). is_open_of k entry ≡ false) (sym same) opens)))) none)

-- the entry that reserves a counter is of its keyset
reserve_of : (place : Reservation) (entry : Entry) → is_of place.keyset entry ≡ false → is_reserve_of place entry ≡ false
reserve_of place (Reserve by moment keyset counter job tar name body) other = rw other refl
reserve_of place (Open by moment keyset facts) other = refl
reserve_of place (Done by moment keyset counter answer) other = refl
reserve_of place (Refused by moment keyset counter status) other = refl
reserve_of place (Close by moment keyset) other = refl

unreserved_past : (past : List Entry) (place : Reservation) → list_any (is_of place.keyset) past ≡ false → list_any (is_reserve_of place) past ≡ false
unreserved_past [] place none = refl
unreserved_past (entry ∷ past) place none =
    let parts = or_parts (is_of place.keyset entry) (list_any (is_of place.keyset) past) none in
    both_false (is_reserve_of place entry) (list_any (is_reserve_of place) past) (reserve_of place entry parts.0) (unreserved_past past place parts.1)

-- a reserved counter lies below the one that comes next
pub reserved_below_next : (past : List Entry) (place : Reservation) → IsLegalPast past
    → list_any (is_reserve_of place) past ≡ true → place.counter < next_counter place.keyset past
reserved_below_next [] place legal reserved = grind (arith, common_steps, reserved)
reserved_below_next (Open by moment keyset facts ∷ past) place legal reserved =
    by_test (is_same_keyset keyset place.keyset) refl (reserved_below_next past place legal.0 reserved)
  where
    by_test : (test : Bool) → is_same_keyset keyset place.keyset ≡ test → place.counter < next_counter place.keyset past
        → place.counter < unwrap_or (option_or (if test then Some facts.base else None) (first_some (counter_in place.keyset) past)) 0 + 1
    by_test false is below = below
    by_test true is below =
        absurd (apart reserved (unreserved_past past place (unopened past place.keyset legal.0 (open_once past (Open by moment keyset facts) place.keyset legal.1 is))))
reserved_below_next (Reserve by moment keyset counter job tar name body ∷ past) place legal reserved =
    by_test (is_same_keyset keyset place.keyset) refl (λ again. reserved_below_next past place legal.0 again)
  where
    next : counter ≡ next_counter keyset past
    next = (reserves_next past by moment keyset counter job tar name body legal.1).0

    by_place : (test : Bool) → (counter == place.counter) ≡ test → keyset ≡ place.keyset → (test || list_any (is_reserve_of place) past) ≡ true
        → (list_any (is_reserve_of place) past ≡ true → place.counter < next_counter place.keyset past) → place.counter < counter + 1
    by_place true is same found again = grind (arith, nat_tests, is)
    by_place false is same found again =
        let below : place.counter < next_counter place.keyset past = again found in
        let there : counter ≡ next_counter place.keyset past = subst (λ (k : Keyset). counter ≡ next_counter k past) same next in
        omega (arith, below, there)

    by_test : (test : Bool) → is_same_keyset keyset place.keyset ≡ test
        → (list_any (is_reserve_of place) past ≡ true → place.counter < next_counter place.keyset past)
        → place.counter < unwrap_or (option_or (if test then Some counter else None) (first_some (counter_in place.keyset) past)) 0 + 1
    by_test false is again = again (rw is at reserved)
    by_test true is again = by_place (counter == place.counter) refl (is_same_keyset-true keyset place.keyset is) (rw is at reserved) again
reserved_below_next (Done by moment keyset counter answer ∷ past) place legal reserved = reserved_below_next past place legal.0 reserved
reserved_below_next (Refused by moment keyset counter status ∷ past) place legal reserved = reserved_below_next past place legal.0 reserved
reserved_below_next (Close by moment keyset ∷ past) place legal reserved = reserved_below_next past place legal.0 reserved

-- an entry behind the reservation of a counter doesn't reserve it
not_again : (past : List Entry) (entry : Entry) (place : Reservation) → IsLegalPast past → broken past entry ≡ None
    → list_any (is_reserve_of place) past ≡ true → is_reserve_of place entry ≡ false
not_again past (Reserve by moment keyset counter job tar name body) place legal may reserved =
    by_test (is_same_keyset keyset place.keyset && (counter == place.counter)) refl
  where
    by_test : (test : Bool) → (is_same_keyset keyset place.keyset && (counter == place.counter)) ≡ test → test ≡ false
    by_test false is = refl
    by_test true is =
        let same = is_same_place-true keyset counter place is in
        let below : place.counter < next_counter place.keyset past = reserved_below_next past place legal reserved in
        let there : counter ≡ next_counter place.keyset past =
        subst (λ (k : Keyset). counter ≡ next_counter k past) same.0 (reserves_next past by moment keyset counter job tar name body may).0 in
        absurd (omega (arith, below, there, same.1))
not_again past (Open by moment keyset facts) place legal may reserved = refl
not_again past (Done by moment keyset counter answer) place legal may reserved = refl
not_again past (Refused by moment keyset counter status) place legal may reserved = refl
not_again past (Close by moment keyset) place legal may reserved = refl

none_again : (newer older : List Entry) (place : Reservation) → IsLegalPast (newer ++ older) → list_any (is_reserve_of place) older ≡ true
    → list_any (is_reserve_of place) newer ≡ false
none_again [] older place legal reserved = refl
none_again (entry ∷ newer) older place legal reserved =
    both_false (is_reserve_of place entry) (list_any (is_reserve_of place) newer)
    (not_again (newer ++ older) entry place legal.0 legal.1 (any-older (is_reserve_of place) newer older reserved))
    (none_again newer older place legal.0 reserved)

reserves_itself : (entry : Entry) (place : Reservation) → reserved_by entry ≡ Some place → is_reserve_of place entry ≡ true
reserves_itself (Reserve by moment keyset counter job tar name body) place is =
    let same : record { keyset = keyset; counter = counter } ≡ place = inner is in
    subst (λ (p : Reservation). is_reserve_of p (Reserve by moment keyset counter job tar name body) ≡ true) same (grind (arith, nat_tests, common_steps, is_same_keyset-refl keyset))
  where
    inner : {a b : Reservation} → Some a ≡ Some b → a ≡ b
    inner e = cc
reserves_itself (Open by moment keyset facts) place is = cc
reserves_itself (Done by moment keyset counter answer) place is = cc
reserves_itself (Refused by moment keyset counter status) place is = cc
reserves_itself (Close by moment keyset) place is = cc

pub no_counter_twice : (history : List Entry) → IsLegal history → NoCounterTwice history
no_counter_twice history legal = λ before after entry place is reserves.
    let whole = legal-split history before after entry legal is in
    rw (← any-reverse (is_reserve_of place) after)
    (none_again (reverse after) (entry ∷ reverse before) place whole (rw (reserves_itself entry place reserves) refl))

-- ---- settlements

settles : (past : List Entry) (entry : Entry) (place : Reservation) → broken past entry ≡ None → is_settlement_of place entry ≡ true
    → (list_any (is_reserve_of place) past ≡ true) × (list_any (is_settlement_of place) past ≡ false)
settles past entry place may is =
    let free = awaits past entry place may is in
    let parts = both_hold (unless (list_any (is_reserve_of place) past) Illegal.NotReserved) (unless (not (list_any (is_settlement_of place) past)) Illegal.AlreadySettled) free in
    (unless-holds (list_any (is_reserve_of place) past) Illegal.NotReserved parts.0, not-holds (list_any (is_settlement_of place) past) Illegal.AlreadySettled parts.1)
  where
    this : (keyset : Keyset) (counter : ℕ) (place : Reservation) → (is_same_keyset keyset place.keyset && (counter == place.counter)) ≡ true
        → (let there : Reservation = record { keyset = keyset; counter = counter } in there) ≡ place
    this keyset counter place same =
        let parts = is_same_place-true keyset counter place same in
        λ i. record { keyset = parts.0 i; counter = parts.1 i }

    awaits : (past : List Entry) (entry : Entry) (place : Reservation) → broken past entry ≡ None → is_settlement_of place entry ≡ true → broken_settlement place past ≡ None
    awaits past (Done by moment keyset counter answer) place may is =
        subst (λ (p : Reservation). broken_settlement p past ≡ None) (this keyset counter place is)
        (both_hold (broken_in_use keyset past) (broken_settlement (record { keyset = keyset; counter = counter }) past) (in_order past (Done by moment keyset counter answer) may)).1
    awaits past (Refused by moment keyset counter status) place may is =
        subst (λ (p : Reservation). broken_settlement p past ≡ None) (this keyset counter place is)
        (both_hold (broken_settlement (record { keyset = keyset; counter = counter }) past) (broken_status status)
        (both_hold (broken_in_use keyset past) (option_or (broken_settlement (record { keyset = keyset; counter = counter }) past) (broken_status status)) (in_order past (Refused by moment keyset counter status) may)).1).0
    awaits past (Open by moment keyset facts) place may is = cc
    awaits past (Reserve by moment keyset counter job tar name body) place may is = cc
    awaits past (Close by moment keyset) place may is = cc

pub settled_once_reserved : (history : List Entry) → IsLegal history → SettledOnceReserved history
settled_once_reserved history legal = λ before after entry place is settled.
    let there = legal-there history before after entry legal is in
    let found = settles (reverse before) entry place there.1 settled in
    (rw (← any-reverse (is_reserve_of place) before) found.0, rw (← any-reverse (is_settlement_of place) before) found.1)

-- ---- ends

within : (past : List Entry) (entry : Entry) (place : Reservation) → broken past entry ≡ None → reserved_by entry ≡ Some place → place.counter ≤ 0xFF_FFFF_FFFE
within past (Reserve by moment keyset counter job tar name body) place legal is =
    let next = reserves_next past by moment keyset counter job tar name body legal in
    let same : counter ≡ place.counter = some-counter is in
    omega (arith, next.0, next.1, same)
  where
    some-counter : {keyset : Keyset} {counter : ℕ} {place : Reservation} → Some (record { keyset = keyset; counter = counter }) ≡ Some place → counter ≡ place.counter
    some-counter is = grind (arith, common_steps, is)
within past (Open by moment keyset facts) place legal is = cc
within past (Done by moment keyset counter answer) place legal is = cc
within past (Refused by moment keyset counter status) place legal is = cc
within past (Close by moment keyset) place legal is = cc

pub counters_have_an_end : (history : List Entry) → IsLegal history → CountersHaveAnEnd history
counters_have_an_end history legal = λ before after entry place is reserved.
    within (reverse before) entry place (legal-there history before after entry legal is).1 reserved

status_allowed : (status : ℕ) → broken_status status ≡ None → (status ≡ 0x07) ⊎ (status ≡ 0x09)
status_allowed status h =
    let test : ((status == 0x07) || (status == 0x09)) ≡ true = unless-holds ((status == 0x07) || (status == 0x09)) Illegal.BadStatus h in
    elim (cases_eq status 0x07) [
      | inl seven ↦ inl seven
      | inr other ↦ elim (cases_eq status 0x09) [
        | inl nine ↦ inr nine
        | inr neither ↦ absurd (grind (arith, nat_tests, test, other, neither))
      ]
    ]

pub refusals_ran_nothing : (history : List Entry) → IsLegal history → RefusalsRanNothing history
refusals_ran_nothing history legal = λ before after by moment keyset counter status is.
    let there = legal-there history before after (Refused by moment keyset counter status) legal is in
    let used = both_hold (broken_in_use keyset (reverse before)) (option_or (broken_settlement (record { keyset = keyset; counter = counter }) (reverse before)) (broken_status status))
    (in_order (reverse before) (Refused by moment keyset counter status) there.1) in
    status_allowed status (both_hold (broken_settlement (record { keyset = keyset; counter = counter }) (reverse before)) (broken_status status) used.1).1

-- ---- jobs

-- a refusal settles the counter
refusal_settles : (place : Reservation) (entry : Entry) → is_refusal_of place entry ≡ true → is_settlement_of place entry ≡ true
refusal_settles place (Refused by moment keyset counter status) is = is
refusal_settles place (Open by moment keyset facts) is = cc
refusal_settles place (Reserve by moment keyset counter job tar name body) is = cc
refusal_settles place (Done by moment keyset counter answer) is = cc
refusal_settles place (Close by moment keyset) is = cc

-- a counter that is refused is reserved
refused_reserved : (past : List Entry) (place : Reservation) → IsLegalPast past → list_any (is_refusal_of place) past ≡ true → list_any (is_reserve_of place) past ≡ true
refused_reserved [] place legal refused = cc
refused_reserved (entry ∷ past) place legal refused =
    any-older (is_reserve_of place) (entry ∷ []) past (by_test (is_refusal_of place entry) refl refused (λ again. refused_reserved past place legal.0 again))
  where
    by_test : (test : Bool) → is_refusal_of place entry ≡ test → (test || list_any (is_refusal_of place) past) ≡ true
        → (list_any (is_refusal_of place) past ≡ true → list_any (is_reserve_of place) past ≡ true) → list_any (is_reserve_of place) past ≡ true
    by_test true is found again = (settles past entry place legal.1 (refusal_settles place entry is)).0
    by_test false is found again = again found

-- the counter that an entry reserves for a job isn't refused before it
reserves_unrefused : (past : List Entry) (entry : Entry) (job : JobId) (place : Reservation) → IsLegalPast (entry ∷ past) → reservation_in job entry ≡ Some place
    → list_any (is_refusal_of place) (entry ∷ past) ≡ false
reserves_unrefused past (Reserve by moment keyset counter reserved tar name body) job place legal is = by_test (list_any (is_refusal_of place) past) refl
  where
    here : (test : Bool) (there : Reservation) → (if test then Some there else None) ≡ Some place → there ≡ place
    here true there e = cc
    here false there e = cc

    itself : is_reserve_of place (Reserve by moment keyset counter reserved tar name body) ≡ true
    itself = reserves_itself (Reserve by moment keyset counter reserved tar name body) place (ap (λ (p : Reservation). Some p) (here (is_same_job reserved job) (record { keyset = keyset; counter = counter }) is))

    by_test : (test : Bool) → list_any (is_refusal_of place) past ≡ test → test ≡ false
    by_test false found = refl
    by_test true found =
        absurd (apart itself (not_again past (Reserve by moment keyset counter reserved tar name body) place legal.0 legal.1 (refused_reserved past place legal.0 found)))
reserves_unrefused past (Open by moment keyset facts) job place legal is = cc
reserves_unrefused past (Done by moment keyset counter answer) job place legal is = cc
reserves_unrefused past (Refused by moment keyset counter status) job place legal is = cc
reserves_unrefused past (Close by moment keyset) job place legal is = cc

-- where an entry reserves for a job, the last reservation is refused
job_is_free : (past : List Entry) (entry : Entry) (job : JobId) (place last : Reservation) → broken past entry ≡ None → reservation_in job entry ≡ Some place
    → last_reservation job past ≡ Some last → list_any (is_refusal_of last) past ≡ true
job_is_free past (Reserve by moment keyset counter reserved tar name body) job place last may is found =
    let same : reserved ≡ job = this (is_same_job reserved job) refl is in
    let free : broken_job past (last_reservation reserved past) ≡ None = (reserves_next past by moment keyset counter reserved tar name body may).2 in
    let taken : broken_job past (Some last) ≡ None =
    subst (λ (o : Option Reservation). broken_job past o ≡ None) found (subst (λ (j : JobId). broken_job past (last_reservation j past) ≡ None) same free) in
    unless-holds (list_any (is_refusal_of last) past) (Illegal.JobTaken last.counter) taken
  where
    this : (test : Bool) → is_same_job reserved job ≡ test → (if test then Some (let p : Reservation = record { keyset = keyset; counter = counter } in p) else None) ≡ Some place → reserved ≡ job
    this true is e = is_same_job-true reserved job is
    this false is e = cc
job_is_free past (Open by moment keyset facts) job place last may is found = cc
job_is_free past (Done by moment keyset counter answer) job place last may is found = cc
job_is_free past (Refused by moment keyset counter status) job place last may is found = cc
job_is_free past (Close by moment keyset) job place last may is found = cc

-- the last reservation of a job is there where one is
last_there : (newer older : List Entry) (entry : Entry) (job : JobId) (place : Reservation) → reservation_in job entry ≡ Some place
    → (last : Reservation) × (last_reservation job (newer ++ entry ∷ older) ≡ Some last)
last_there [] older entry job place is = (place, rw is refl)
last_there (first ∷ newer) older entry job place is = by_first (reservation_in job first) refl (last_there newer older entry job place is)
  where
    by_first : (o : Option Reservation) → reservation_in job first ≡ o → ((last : Reservation) × (last_reservation job (newer ++ entry ∷ older) ≡ Some last))
        → (last : Reservation) × (option_or o (last_reservation job (newer ++ entry ∷ older)) ≡ Some last)
    by_first None is behind = behind
    by_first (Some place) is behind = (place, refl)

-- where the last reservation of a job is refused, each earlier one is, behind itself
refused_behind : (newer extra older : List Entry) (entry : Entry) (job : JobId) (place last : Reservation) → IsLegalPast (newer ++ entry ∷ older)
    → reservation_in job entry ≡ Some place → last_reservation job (newer ++ entry ∷ older) ≡ Some last
    → list_any (is_refusal_of last) (extra ++ (newer ++ entry ∷ older)) ≡ true → list_any (is_refusal_of place) (extra ++ newer) ≡ true
refused_behind [] extra older entry job place last legal is found refused =
    let same : place ≡ last = this (rw is at found) in
    let there : (list_any (is_refusal_of place) extra || list_any (is_refusal_of place) (entry ∷ older)) ≡ true =
    rw (← list_any-append (is_refusal_of place) extra (entry ∷ older)) (subst (λ (p : Reservation). list_any (is_refusal_of p) (extra ++ entry ∷ older) ≡ true) (sym same) refused) in
    rw (list_any-append (is_refusal_of place) extra []) (first (list_any (is_refusal_of place) extra) (list_any (is_refusal_of place) (entry ∷ older)) there (reserves_unrefused older entry job place legal is))
  where
    this : {a b : Reservation} → Some a ≡ Some b → a ≡ b
    this e = cc

    first : (a b : Bool) → (a || b) ≡ true → b ≡ false → (a || false) ≡ true
    first true b h none = refl
    first false true h none = cc
    first false false h none = cc
refused_behind (next ∷ newer) extra older entry job place last legal is found refused = by_next (reservation_in job next) refl found
    (λ here. refused_behind newer (extra ++ next ∷ []) older entry job place last legal.0 is here (rw (append_assoc extra (next ∷ []) (newer ++ entry ∷ older)) refused))
    (λ earlier here taken. refused_behind newer [] older entry job place earlier legal.0 is here taken)
  where
    by_next : (o : Option Reservation) → reservation_in job next ≡ o → option_or o (last_reservation job (newer ++ entry ∷ older)) ≡ Some last
        → (last_reservation job (newer ++ entry ∷ older) ≡ Some last → list_any (is_refusal_of place) ((extra ++ next ∷ []) ++ newer) ≡ true)
        → ((earlier : Reservation) → last_reservation job (newer ++ entry ∷ older) ≡ Some earlier → list_any (is_refusal_of earlier) (newer ++ entry ∷ older) ≡ true → list_any (is_refusal_of place) newer ≡ true)
        → list_any (is_refusal_of place) (extra ++ next ∷ newer) ≡ true
    by_next None none here moved again = rw (← append_assoc extra (next ∷ []) newer) (moved here)
    by_next (Some p) some here moved again =
        let there = last_there newer older entry job place is in
        let taken = job_is_free (newer ++ entry ∷ older) next job p there.0 legal.1 some there.1 in
        any-older (is_refusal_of place) extra (next ∷ newer) (any-older (is_refusal_of place) (next ∷ []) newer (again there.0 there.1 taken))

pub earlier_is_refused : (history : List Entry) → IsLegal history → EarlierIsRefused history
earlier_is_refused history legal = λ before between after first second job place is reserves again.
    let whole : history ≡ (before ++ first ∷ between) ++ second ∷ after = is ∙ sym (append_assoc before (first ∷ between) (second ∷ after)) in
    let there : IsLegalPast (second ∷ reverse (before ++ first ∷ between)) = legal-there history (before ++ first ∷ between) after second legal whole in
    let past : reverse (before ++ first ∷ between) ≡ reverse between ++ first ∷ reverse before = past-split before between first in
    let here : IsLegalPast (second ∷ reverse between ++ first ∷ reverse before) = subst (λ p. IsLegalPast (second ∷ p)) past there in
    let last = last_there (reverse between) (reverse before) first job place reserves in
    let other = some (reservation_in job second) again in
    let taken = job_is_free (reverse between ++ first ∷ reverse before) second job other.0 last.0 here.1 other.1 last.1 in
    rw (← any-reverse (is_refusal_of place) between) (refused_behind (reverse between) [] (reverse before) first job place last.0 here.0 reserves last.1 taken)
  where
    some : (o : Option Reservation) → is_some o ≡ true → (p : Reservation) × (o ≡ Some p)
    some None h = cc
    some (Some p) h = (p, refl)

-- ---- the counters of a keyset

first_some-append : {A B : Type 0} (f : A → Option B) (xs ys : List A) → first_some f (xs ++ ys) ≡ option_or (first_some f xs) (first_some f ys)
first_some-append f [] ys = refl
first_some-append f (x ∷ xs) ys = either_way f (f x) xs ys (first_some-append f xs ys)
  where
    either_way : {A B : Type 0} (f : A → Option B) (o : Option B) (xs ys : List A) → first_some f (xs ++ ys) ≡ option_or (first_some f xs) (first_some f ys)
        → option_or o (first_some f (xs ++ ys)) ≡ option_or (option_or o (first_some f xs)) (first_some f ys)
    either_way f None xs ys behind = behind
    either_way f (Some b) xs ys behind = refl

-- the base in facts, where there are some
abbrev base_in : Option KeysetFacts → Option ℕ
base_in None = None
base_in (Some facts) = Some facts.base

some-base : (one other : KeysetFacts) → Some one ≡ Some other → one.base ≡ other.base
some-base one other e = cc

range_more : (a n j : ℕ) → a + n ≡ j → range_with_len a (n + 1) ≡ range_with_len a n ++ j ∷ []
range_more a n j is = sym (map-id (range_with_len a (n + 1))) ∙ map-range_with_len_more (λ x. x) a n j is ∙ ap (λ (l : List ℕ). l ++ j ∷ []) (map-id (range_with_len a n))

-- what is reserved of a keyset, oldest first
abbrev reserved : Keyset → List Entry → List ℕ
reserved keyset past = filter_map (counter_reserved keyset) (reverse past)

reserved-more : (keyset : Keyset) (entry : Entry) (past : List Entry) → reserved keyset (entry ∷ past) ≡ reserved keyset past ++ filter_map (counter_reserved keyset) (entry ∷ [])
reserved-more keyset entry past = rw (reverse-append (entry ∷ []) past) (filter_map-append (counter_reserved keyset) (reverse past) (entry ∷ []))

opens-found : (keyset : Keyset) (entry : Entry) (facts : KeysetFacts) → facts_in keyset entry ≡ Some facts
    → (is_open_of keyset entry ≡ true) × (counter_in keyset entry ≡ Some facts.base) × (counter_reserved keyset entry ≡ None)
opens-found keyset (Open by moment opened facts) found is = by_test (is_same_keyset opened keyset) refl is
  where
    by_test : (test : Bool) → is_same_keyset opened keyset ≡ test → (if test then Some facts else None) ≡ Some found
        → (is_same_keyset opened keyset ≡ true) × ((if is_same_keyset opened keyset then Some facts.base else None) ≡ Some found.base) × ((let none : Option ℕ = None in none) ≡ None)
    by_test true same e = (same, rw same (ap base_in e), refl)
    by_test false same e = cc
opens-found keyset (Reserve by moment k counter job tar name body) found is = cc
opens-found keyset (Done by moment k counter answer) found is = cc
opens-found keyset (Refused by moment k counter status) found is = cc
opens-found keyset (Close by moment k) found is = cc

any-found : (keyset : Keyset) (entries : List Entry) (facts : KeysetFacts) → first_some (facts_in keyset) entries ≡ Some facts → list_any (is_open_of keyset) entries ≡ true
any-found keyset [] facts is = cc
any-found keyset (entry ∷ entries) facts is = by_first (facts_in keyset entry) refl is (λ behind. any-found keyset entries facts behind)
  where
    by_first : (o : Option KeysetFacts) → facts_in keyset entry ≡ o → option_or o (first_some (facts_in keyset) entries) ≡ Some facts
        → (first_some (facts_in keyset) entries ≡ Some facts → list_any (is_open_of keyset) entries ≡ true) → list_any (is_open_of keyset) (entry ∷ entries) ≡ true
    by_first None is found behind = any-older (is_open_of keyset) (entry ∷ []) entries (behind found)
    by_first (Some f) is found behind = rw ((opens-found keyset entry f is).0) refl

none_reserved : (keyset : Keyset) (past : List Entry) → list_any (is_of keyset) past ≡ false → reserved keyset past ≡ []
none_reserved keyset [] none = refl
none_reserved keyset (entry ∷ past) none =
    let parts = or_parts (is_of keyset entry) (list_any (is_of keyset) past) none in
    reserved-more keyset entry past ∙ (λ i. none_reserved keyset past parts.1 i ++ this entry parts.0 i)
  where
    this : (entry : Entry) → is_of keyset entry ≡ false → filter_map (counter_reserved keyset) (entry ∷ []) ≡ []
    this (Reserve by moment k counter job tar name body) other = rw other refl
    this (Open by moment k facts) other = refl
    this (Done by moment k counter answer) other = refl
    this (Refused by moment k counter status) other = refl
    this (Close by moment k) other = refl

record Follow (keyset : Keyset) (past : List Entry) (base : ℕ) : Type 0 where
  in_order : reserved keyset past ≡ range_with_len (base + 1) (length (reserved keyset past))
  last : unwrap_or (first_some (counter_in keyset) past) 0 ≡ base + length (reserved keyset past)

-- an entry that is no Open of the keyset carries its counters on
follow_on : (keyset : Keyset) (past : List Entry) (entry : Entry) (base : ℕ) → broken past entry ≡ None → is_open_of keyset entry ≡ false → Follow keyset past base → Follow keyset (entry ∷ past) base
follow_on keyset past (Reserve by moment k counter job tar name body) base may other so_far = by_test (is_same_keyset k keyset) refl
  where
    by_test : (test : Bool) → is_same_keyset k keyset ≡ test → Follow keyset (Reserve by moment k counter job tar name body ∷ past) base
    by_test false is =
        let same : reserved keyset (Reserve by moment k counter job tar name body ∷ past) ≡ reserved keyset past =
        reserved-more keyset (Reserve by moment k counter job tar name body) past ∙ rw is (append-nil (reserved keyset past)) in
        record { in_order = rw same so_far.in_order; last = rw (is, same) so_far.last }
    by_test true is =
        let next : counter ≡ base + length (reserved keyset past) + 1 =
        subst (λ (x : Keyset). counter ≡ next_counter x past) (is_same_keyset-true k keyset is) (reserves_next past by moment k counter job tar name body may).0
        ∙ ap (λ n. n + 1) so_far.last in
        let more : reserved keyset (Reserve by moment k counter job tar name body ∷ past) ≡ reserved keyset past ++ counter ∷ [] =
        reserved-more keyset (Reserve by moment k counter job tar name body) past ∙ rw is refl in
        let long : length (reserved keyset past ++ counter ∷ []) ≡ length (reserved keyset past) + 1 = length-append (reserved keyset past) (counter ∷ []) in
        record {
          in_order = rw (more, long)
              (ap (λ (l : List ℕ). l ++ counter ∷ []) so_far.in_order
              ∙ sym (range_more (base + 1) (length (reserved keyset past)) counter (omega (arith, next))));
          last = rw (is, more, long) (omega (arith, next));
        }
follow_on keyset past (Open by moment k facts) base may other so_far =
    record { in_order = rw same so_far.in_order; last = rw (same, other) so_far.last }
  where
    same : reserved keyset (Open by moment k facts ∷ past) ≡ reserved keyset past
    same = reserved-more keyset (Open by moment k facts) past ∙ append-nil (reserved keyset past)
follow_on keyset past (Done by moment k counter answer) base may other so_far =
    record { in_order = rw same so_far.in_order; last = rw same so_far.last }
  where
    same : reserved keyset (Done by moment k counter answer ∷ past) ≡ reserved keyset past
    same = reserved-more keyset (Done by moment k counter answer) past ∙ append-nil (reserved keyset past)
follow_on keyset past (Refused by moment k counter status) base may other so_far =
    record { in_order = rw same so_far.in_order; last = rw same so_far.last }
  where
    same : reserved keyset (Refused by moment k counter status ∷ past) ≡ reserved keyset past
    same = reserved-more keyset (Refused by moment k counter status) past ∙ append-nil (reserved keyset past)
follow_on keyset past (Close by moment k) base may other so_far =
    record { in_order = rw same so_far.in_order; last = rw same so_far.last }
  where
    same : reserved keyset (Close by moment k ∷ past) ≡ reserved keyset past
    same = reserved-more keyset (Close by moment k) past ∙ append-nil (reserved keyset past)

follow : (keyset : Keyset) (past : List Entry) (facts : KeysetFacts) → IsLegalPast past → first_some (facts_in keyset) (reverse past) ≡ Some facts → Follow keyset past facts.base
follow keyset [] facts legal is = cc
follow keyset (entry ∷ past) facts legal is =
    by_past (first_some (facts_in keyset) (reverse past)) refl
    (sym (first_some-append (facts_in keyset) (reverse past) (entry ∷ [])) ∙ ap (first_some (facts_in keyset)) (sym (reverse-append (entry ∷ []) past)) ∙ is)
    (λ before. follow keyset past facts legal.0 before)
  where
    nothing : (o : Option ℕ) → o ≡ None → filter_map (λ (x : Option ℕ). x) (o ∷ []) ≡ []
    nothing None e = refl
    nothing (Some n) e = cc

    by_entry : (o : Option KeysetFacts) → facts_in keyset entry ≡ o → option_or o None ≡ Some facts → Follow keyset (entry ∷ past) facts.base
    by_entry None found e = cc
    by_entry (Some f) found e =
        let opens = opens-found keyset entry f found in
        let base : f.base ≡ facts.base = some-base f facts e in
        let none : reserved keyset (entry ∷ past) ≡ [] =
        reserved-more keyset entry past
        ∙ (λ i. none_reserved keyset past (unopened past keyset legal.0 (open_once past entry keyset legal.1 opens.0)) i ++ nothing (counter_reserved keyset entry) opens.2 i) in
        record { in_order = rw none refl; last = rw (none, opens.1) (omega (arith, base)) }

    not_open : (test : Bool) → is_open_of keyset entry ≡ test → list_any (is_open_of keyset) past ≡ true → test ≡ false
    not_open false opens opened = refl
    not_open true opens opened = absurd (apart opened (open_once past entry keyset legal.1 opens))

    by_past : (o : Option KeysetFacts) → first_some (facts_in keyset) (reverse past) ≡ o → option_or o (option_or (facts_in keyset entry) None) ≡ Some facts
        → (first_some (facts_in keyset) (reverse past) ≡ Some facts → Follow keyset past facts.base) → Follow keyset (entry ∷ past) facts.base
    by_past None before e again = by_entry (facts_in keyset entry) refl e
    by_past (Some f) before e again =
        let opened : list_any (is_open_of keyset) past ≡ true = rw (← any-reverse (is_open_of keyset) past) (any-found keyset (reverse past) f before) in
        follow_on keyset past entry facts.base legal.1 (not_open (is_open_of keyset entry) refl opened) (again (before ∙ e))

pub counters_follow : (history : List Entry) → IsLegal history → CountersFollow history
counters_follow history legal = λ keyset facts is.
    let so_far = follow keyset (reverse history) facts legal (rw reverse-reverse is) in
    subst (λ (h : List Entry). filter_map (counter_reserved keyset) h ≡ range_with_len (facts.base + 1) (length (filter_map (counter_reserved keyset) h)))
    (reverse-reverse history) so_far.in_order
