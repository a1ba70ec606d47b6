-- Laws of legal histories, which other crates cite.
use Rattle.std.proofs.Common.{◌≡◌, ℕ, ◌≤◌, nat_le, not, Bool, true, false, ◌==◌, ◌&&◌, Option, None, Some, List, [], ◌∷◌, ◌++◌, reverse, take, drop, refl, arith, append_assoc}
use Rattle.std.specs.Option.{option_or}
use Rattle.std.specs.List.{list_any}
use Rattle.std.proofs.lemmas.Grind.{common_steps}
use Rattle.std.proofs.lemmas.Bool.Decides.{nat_tests}
use Rattle.std.proofs.lemmas.List.{reverse-append, take-append-drop}
use Rattle.ota_core.specs.Keyset.{Keyset, is_same_keyset}
use Rattle.ota_core.specs.Job.{is_same_job}
use Rattle.ota_core.specs.Entry.{Reservation, moment_of, keyset_of, is_open_of, is_close_of}
use Rattle.ota_core.specs.History.{unless, broken, broken_in_order, broken_in_use, broken_counter, broken_job, broken_settlement, broken_status, broken_moment, broken_batch, next_counter, last_reservation, LAST_COUNTER, IsLegalPast, IsLegal}
use Rattle.ota_core.specs.declared.jobs.JobId.{JobId}
use Rattle.ota_core.specs.declared.entries.Entry.{Entry}
use Rattle.ota_core.specs.declared.entries.Entry.TheVariants.{Open, Reserve, Done, Refused, Close}
use Rattle.ota_core.specs.declared.entries.Illegal.{Illegal}

-- keysets that pass the test are one
pub is_same_keyset-true : (a b : Keyset) → is_same_keyset a b ≡ true → a ≡ b
is_same_keyset-true a b same = grind (arith, common_steps, nat_tests, same)

pub is_same_keyset-refl : (a : Keyset) → is_same_keyset a a ≡ true
is_same_keyset-refl a = grind (arith, common_steps, nat_tests)

-- jobs that pass the test are one
pub is_same_job-true : (a b : JobId) → is_same_job a b ≡ true → a ≡ b
is_same_job-true a b same = grind (arith, common_steps, nat_tests, same)

pub is_same_job-refl : (a : JobId) → is_same_job a a ≡ true
is_same_job-refl a = grind (arith, common_steps, nat_tests)

-- places that pass the tests of an entry are that entry's
pub is_same_place-true : (keyset : Keyset) (counter : ℕ) (place : Reservation)
    → (is_same_keyset keyset place.keyset && (counter == place.counter)) ≡ true → (keyset ≡ place.keyset) × (counter ≡ place.counter)
is_same_place-true keyset counter place same =
    grind (arith, common_steps, nat_tests, same, is_same_keyset-true keyset place.keyset)

-- where neither of two rules is broken, each holds
pub both_hold : {B : Type 0} (first second : Option B) → option_or first second ≡ None → (first ≡ None) × (second ≡ None)
both_hold None second h = (refl, h)
both_hold (Some x) second h = cc

-- a legal entry keeps the rules of keysets, counters and jobs
pub in_order : (past : List Entry) (entry : Entry) → broken past entry ≡ None → broken_in_order past entry ≡ None
in_order past entry h = (both_hold (broken_in_order past entry) (broken_moment past (moment_of entry)) h).0

-- a legal entry isn't earlier than the one before it
pub not_earlier : (past : List Entry) (entry : Entry) → broken past entry ≡ None → broken_moment past (moment_of entry) ≡ None
not_earlier past entry h = (both_hold (broken_in_order past entry) (broken_moment past (moment_of entry)) h).1

-- an entry that keeps the rules and isn't earlier is legal
pub broken-none : (past : List Entry) (entry : Entry) → broken_in_order past entry ≡ None → broken_moment past (moment_of entry) ≡ None → broken past entry ≡ None
broken-none past entry ordered later = rw (ordered, later) refl

-- a test that a rule asks for holds where the rule isn't broken
pub unless-holds : (test : Bool) (rule : Illegal) → unless test rule ≡ None → test ≡ true
unless-holds true rule h = refl
unless-holds false rule h = cc

pub not-holds : (test : Bool) (rule : Illegal) → unless (not test) rule ≡ None → test ≡ false
not-holds true rule h = cc
not-holds false rule h = refl

-- a keyset that is in use is opened and not closed
pub in_use-opened : (keyset : Keyset) (past : List Entry) → broken_in_use keyset past ≡ None → list_any (is_open_of keyset) past ≡ true
in_use-opened keyset past h =
    unless-holds (list_any (is_open_of keyset) past) Illegal.NotOpened
    (both_hold (unless (list_any (is_open_of keyset) past) Illegal.NotOpened) (unless (not (list_any (is_close_of keyset) past)) Illegal.Closed) h).0

pub in_use-not_closed : (keyset : Keyset) (past : List Entry) → broken_in_use keyset past ≡ None → list_any (is_close_of keyset) past ≡ false
in_use-not_closed keyset past h =
    not-holds (list_any (is_close_of keyset) past) Illegal.Closed
    (both_hold (unless (list_any (is_open_of keyset) past) Illegal.NotOpened) (unless (not (list_any (is_close_of keyset) past)) Illegal.Closed) h).1

-- an entry other than Open is of a keyset in use
pub is_in_use : (past : List Entry) (entry : Entry) → broken past entry ≡ None → is_open_of (keyset_of entry) entry ≡ false
    → broken_in_use (keyset_of entry) past ≡ None
is_in_use past (Open by moment keyset facts) h other = absurd (apart (is_same_keyset keyset keyset) (is_same_keyset-refl keyset) other)
  where
    apart : (t : Bool) → t ≡ true → t ≡ false → ⊥
    apart true is isnt = cc
    apart false is isnt = cc
is_in_use past (Reserve by moment keyset counter job tar name body) h other =
    (both_hold (broken_in_use keyset past) (option_or (broken_counter counter (next_counter keyset past)) (broken_job past (last_reservation job past)))
    (in_order past (Reserve by moment keyset counter job tar name body) h)).0
is_in_use past (Done by moment keyset counter answer) h other =
    (both_hold (broken_in_use keyset past) (broken_settlement (record { keyset = keyset; counter = counter }) past) (in_order past (Done by moment keyset counter answer) h)).0
is_in_use past (Refused by moment keyset counter status) h other =
    (both_hold (broken_in_use keyset past) (option_or (broken_settlement (record { keyset = keyset; counter = counter }) past) (broken_status status)) (in_order past (Refused by moment keyset counter status) h)).0
is_in_use past (Close by moment keyset) h other = in_order past (Close by moment keyset) h

-- a reservation has the counter that comes next, its job is free, and none comes after the last
pub reserves_next : (past : List Entry) (by moment : ℕ) (keyset : Keyset) (counter : ℕ) (job : JobId) (tar name body : List ℕ)
    → broken past (Reserve by moment keyset counter job tar name body) ≡ None
    → (counter ≡ next_counter keyset past) × (next_counter keyset past ≤ LAST_COUNTER) × (broken_job past (last_reservation job past) ≡ None)
reserves_next past by moment keyset counter job tar name body h =
    let used = both_hold (broken_in_use keyset past) (option_or (broken_counter counter (next_counter keyset past)) (broken_job past (last_reservation job past))) (in_order past (Reserve by moment keyset counter job tar name body) h) in
    let next = both_hold (broken_counter counter (next_counter keyset past)) (broken_job past (last_reservation job past)) used.1 in
    let tests = both_hold (unless (nat_le (next_counter keyset past) LAST_COUNTER) Illegal.Exhausted) (unless (counter == next_counter keyset past) (Illegal.NotNext (next_counter keyset past))) next.0 in
    let same = unless-holds (counter == next_counter keyset past) (Illegal.NotNext (next_counter keyset past)) tests.1 in
    let below = unless-holds (nat_le (next_counter keyset past) LAST_COUNTER) Illegal.Exhausted tests.0 in
    (grind (arith, nat_tests, same), grind (arith, nat_tests, below), next.1)

-- what stands behind in a legal past is a legal past
pub legal_past_behind : (newer older : List Entry) → IsLegalPast (newer ++ older) → IsLegalPast older
legal_past_behind [] older legal = legal
legal_past_behind (entry ∷ newer) older legal = legal_past_behind newer older legal.0

-- a prefix of a legal history is legal
pub IsLegal-prefix : (history rest : List Entry) → IsLegal (history ++ rest) → IsLegal history
IsLegal-prefix history rest legal = legal_past_behind (reverse rest) (reverse history) (rw (← reverse-append) legal)

-- the first entries of a legal history are one
pub IsLegal-take : (n : ℕ) (history : List Entry) → IsLegal history → IsLegal (take n history)
IsLegal-take n history legal = IsLegal-prefix (take n history) (drop n history) (rw take-append-drop legal)

-- a legal batch behind a legal past
pub legal_past-batch : (past batch : List Entry) → IsLegalPast past → broken_batch past batch ≡ None → IsLegalPast (reverse batch ++ past)
legal_past-batch past [] legal whole = legal
legal_past-batch past (entry ∷ batch) legal whole =
    let parts : (broken past entry ≡ None) × (broken_batch (entry ∷ past) batch ≡ None) = both_hold (broken past entry) (broken_batch (entry ∷ past) batch) whole in
    rw (reverse-append (entry ∷ []) batch, append_assoc) (legal_past-batch (entry ∷ past) batch (legal, parts.0) parts.1)

-- a legal history stays legal with a legal batch behind it
pub IsLegal-batch : (history batch : List Entry) → IsLegal history → broken_batch (reverse history) batch ≡ None → IsLegal (history ++ batch)
IsLegal-batch history batch legal whole = rw reverse-append (legal_past-batch (reverse history) batch legal whole)
