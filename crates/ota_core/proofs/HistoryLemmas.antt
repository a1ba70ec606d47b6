-- Lemmas above the definition of a legal history.
use Rattle.std.proofs.Common.{◌≡◌, ℕ, ◌<◌, Bool, true, false, ◌==◌, ◌&&◌, List, [], ◌∷◌, None, refl, arith}
use Rattle.std.specs.List.{list_any}
use Rattle.std.proofs.lemmas.Grind.{common_steps}
use Rattle.std.proofs.lemmas.Bool.Decides.{nat_tests}
use Rattle.std.proofs.lemmas.Bool.{or_parts}
use Rattle.ota_core.specs.Keyset.{Keyset, is_same_keyset}
use Rattle.ota_core.specs.Entry.{Reservation, is_open_of, is_reserve_of}
use Rattle.ota_core.specs.History.{broken_in_order, next_counter, IsLegalPast}
use Rattle.ota_core.specs.HistoryLaws.{in_use-opened, is_in_use, is_same_keyset-true, is_same_place-true}
use Rattle.ota_core.specs.declared.entries.Entry.{Entry}
use Rattle.ota_core.specs.declared.entries.Entry.TheVariants.{Open, Reserve, Done, Refused, Close}

-- where the keyset has no Open, none of its counters is reserved
apart : {test : Bool} → test ≡ true → test ≡ false → ⊥
apart is isnt = cc

pub unopened_unreserved : (past : List Entry) (place : Reservation) → IsLegalPast past
    → list_any (is_open_of place.keyset) past ≡ false → list_any (is_reserve_of place) past ≡ false
unopened_unreserved [] place legal closed = refl
unopened_unreserved (Open by moment keyset facts ∷ past) place legal closed =
    unopened_unreserved past place legal.0 (or_parts (is_same_keyset keyset place.keyset) (list_any (is_open_of place.keyset) past) closed).1
unopened_unreserved (Reserve by moment keyset counter job tar name body ∷ past) place legal closed =
    rw (other (is_same_keyset keyset place.keyset && (counter == place.counter)) refl, unopened_unreserved past place legal.0 closed) refl
  where
    opened : list_any (is_open_of keyset) past ≡ true
    opened = in_use-opened keyset past (is_in_use past (Reserve by moment keyset counter job tar name body) legal.1 refl)

    other : (test : Bool) → (is_same_keyset keyset place.keyset && (counter == place.counter)) ≡ test → test ≡ false
    other true same = absurd (apart (rw ((is_same_place-true keyset counter place same).0) at opened) closed)
    other false same = refl
unopened_unreserved (Done by moment keyset counter answer ∷ past) place legal closed = unopened_unreserved past place legal.0 closed
unopened_unreserved (Refused by moment keyset counter status ∷ past) place legal closed = unopened_unreserved past place legal.0 closed
unopened_unreserved (Close by moment keyset ∷ past) place legal closed = unopened_unreserved past place legal.0 closed
