-- What is reserved under a counter, and where in the history.
use Rattle.std.proofs.Common.{◌≡◌, ℕ, Bool, true, false, not, Option, Some, None, if◌then◌else◌, List, [], ◌∷◌, length, reverse, refl, sym, ◌∙◌, ap}
use Rattle.std.proofs.lemmas.List.Folds.{find_at}
use Rattle.std.specs.List.{list_any, position, position_or_len, slice_get}
use Rattle.std.specs.Option.{option_or, option_map, option_and_then}
use Rattle.std.specs.Prelude.{find}
use Rattle.ota_core.specs.Keyset.{Keyset}
use Rattle.ota_core.specs.Entry.{Reservation, is_reserve_of, reserved_by}
use Rattle.ota_core.specs.History.{first_some}
use Rattle.ota_core.specs.HistoryLaws.{is_same_place-true}
use Rattle.ota_core.specs.Questions.{opened_facts, state_of}
use Rattle.ota_core.specs.declared.entries.Entry.{Entry}
use Rattle.ota_core.specs.declared.entries.Entry.TheVariants.{Open, Reserve, Done, Refused, Close}
use Rattle.ota_core.specs.declared.keysets.KeysetFacts.{KeysetFacts}
use Rattle.keyset_book.proofs.PositionLemmas.{any-reverse, position-none, position-some, position_or_len-none}
use Rattle.world_core.specs.Packet.{Packet, packet_at, packet_of, place_at}
use Rattle.lane_engine.specs.Departing.{packet_if, packet_under}
use Rattle.lane_engine.specs.Reserving.{resend_refusal, state_refusal}
use Rattle.lane_engine.specs.declared.answers.LaneErr.{LaneErr}
use Rattle.lane_engine.specs.declared.answers.LaneErr.TheVariants as lane_err

module _ (history : List Entry) (place : Reservation) where
  none_packet : (entry : Entry) → opened_facts place.keyset history ≡ None → is_reserve_of place entry ≡ true → packet_of history entry ≡ None
  none_packet (Open by moment keyset facts) none is = cc
  none_packet (Reserve by moment keyset counter job tar name body) none is =
      let same = is_same_place-true keyset counter place is in
      ap (option_map (λ (facts : KeysetFacts). (let p : Packet = record { keyset = keyset; counter = counter; tar = tar; body = body; opened = facts } in p)))
      (ap (λ (k : Keyset). opened_facts k history) same.0 ∙ none)
  none_packet (Done by moment keyset counter answer) none is = cc
  none_packet (Refused by moment keyset counter status) none is = cc
  none_packet (Close by moment keyset) none is = cc

  some_packet : (entry : Entry) (facts : KeysetFacts) → opened_facts place.keyset history ≡ Some facts → is_reserve_of place entry ≡ true → (packet : Packet) × (packet_of history entry ≡ Some packet)
  some_packet (Open by moment keyset opened) facts some is = cc
  some_packet (Reserve by moment keyset counter job tar name body) facts some is =
      let same = is_same_place-true keyset counter place is in (
        record { keyset = keyset; counter = counter; tar = tar; body = body; opened = facts },
        ap (option_map (λ (facts : KeysetFacts). (let p : Packet = record { keyset = keyset; counter = counter; tar = tar; body = body; opened = facts } in p)))
            (ap (λ (k : Keyset). opened_facts k history) same.0 ∙ some),
      )
  some_packet (Done by moment keyset counter answer) facts some is = cc
  some_packet (Refused by moment keyset counter status) facts some is = cc
  some_packet (Close by moment keyset) facts some is = cc

  none_under : (entries : List Entry) → opened_facts place.keyset history ≡ None → first_some (packet_if history place) entries ≡ None
  none_under [] none = refl
  none_under (entry ∷ entries) none = by_test (is_reserve_of place entry) refl (none_under entries none)
    where
      by_test : (t : Bool) → is_reserve_of place entry ≡ t → first_some (packet_if history place) entries ≡ None → first_some (packet_if history place) (entry ∷ entries) ≡ None
      by_test true is later = rw (is, none_packet entry none is) later
      by_test false is later = rw is later

  -- the first entry that reserves the counter has its packet
  under_find : (entries : List Entry) → first_some (packet_if history place) entries ≡ option_and_then (packet_of history) (find (is_reserve_of place) entries)
  under_find [] = refl
  under_find (entry ∷ entries) = by_test (is_reserve_of place entry) refl (under_find entries)
    where
      by_opened : (o : Option KeysetFacts) → opened_facts place.keyset history ≡ o → is_reserve_of place entry ≡ true → option_or (packet_of history entry) (first_some (packet_if history place) entries) ≡ packet_of history entry
      by_opened None opened is = rw (none_packet entry opened is) (none_under entries opened)
      by_opened (Some facts) opened is = (let found = some_packet entry facts opened is in rw found.1 refl)

      by_test : (t : Bool) → is_reserve_of place entry ≡ t → first_some (packet_if history place) entries ≡ option_and_then (packet_of history) (find (is_reserve_of place) entries)
          → first_some (packet_if history place) (entry ∷ entries) ≡ option_and_then (packet_of history) (find (is_reserve_of place) (entry ∷ entries))
      by_test true is later = rw is (by_opened (opened_facts place.keyset history) refl is)
      by_test false is later = rw is later

  reserve_by : (entry : Entry) → is_reserve_of place entry ≡ true → reserved_by entry ≡ Some place
  reserve_by (Open by moment keyset facts) is = cc
  reserve_by (Reserve by moment keyset counter job tar name body) is =
      let same = is_same_place-true keyset counter place is in
      ap (λ (k : Keyset). Some (let r : Reservation = record { keyset = k; counter = counter } in r)) same.0
      ∙ ap (λ (n : ℕ). Some (let r : Reservation = record { keyset = place.keyset; counter = n } in r)) same.1
  reserve_by (Done by moment keyset counter answer) is = cc
  reserve_by (Refused by moment keyset counter status) is = cc
  reserve_by (Close by moment keyset) is = cc

  found_by : (entries : List Entry) → list_any (is_reserve_of place) entries ≡ true → option_and_then reserved_by (find (is_reserve_of place) entries) ≡ Some place
  found_by [] any = cc
  found_by (entry ∷ entries) any = by_test (is_reserve_of place entry) refl (found_by entries) any
    where
      by_test : (t : Bool) → is_reserve_of place entry ≡ t → (list_any (is_reserve_of place) entries ≡ true → option_and_then reserved_by (find (is_reserve_of place) entries) ≡ Some place)
          → list_any (is_reserve_of place) (entry ∷ entries) ≡ true → option_and_then reserved_by (find (is_reserve_of place) (entry ∷ entries)) ≡ Some place
      by_test true is later any = rw is (reserve_by entry is)
      by_test false is later any = rw is (later (rw is at any))

  module _ (any : list_any (is_reserve_of place) history ≡ true) (found : ℕ) (is : found ≡ position_or_len (is_reserve_of place) history) where
    at_found : find (is_reserve_of place) history ≡ slice_get history found
    at_found = find_at (is_reserve_of place) history ∙ ap (slice_get history) (sym is)

    -- it is reserved there
    pub place_found : place_at history found ≡ Some place
    place_found = ap (option_and_then reserved_by) (sym at_found) ∙ found_by history any

    -- and its packet is that of this position
    pub packet_found : packet_under history place ≡ packet_at history found
    packet_found = under_find history ∙ ap (option_and_then (packet_of history)) at_found

-- what may be sent again is reserved
pub resend_reserved : (history : List Entry) (place : Reservation) → None ≡ resend_refusal (reverse history) place → list_any (is_reserve_of place) history ≡ true
resend_reserved history place free =
    sym (any-reverse (is_reserve_of place) history)
    ∙ by_test (list_any (is_reserve_of place) (reverse history)) (state_refusal (state_of place.keyset (reverse history))) _ refl free
  where
    by_test : (t : Bool) (first : Option LaneErr) (rest : Option LaneErr) → list_any (is_reserve_of place) (reverse history) ≡ t
        → None ≡ option_or first (if not t then Some lane_err.NotReserved else rest) → list_any (is_reserve_of place) (reverse history) ≡ true
    by_test true first rest is none = is
    by_test false None rest is none = cc
    by_test false (Some error) rest is none = cc

-- a position that is found is the first
pub position_some : (history : List Entry) (place : Reservation) (found : ℕ) → Some found ≡ position (is_reserve_of place) history → found ≡ position_or_len (is_reserve_of place) history
position_some history place found is = by_test (list_any (is_reserve_of place) history) refl
  where
    one : (a b : ℕ) → Some a ≡ Some b → a ≡ b
    one a b e = cc

    none_some : Some found ≡ None → ⊥
    none_some e = cc

    by_test : (t : Bool) → list_any (is_reserve_of place) history ≡ t → found ≡ position_or_len (is_reserve_of place) history
    by_test true any = one found (position_or_len (is_reserve_of place) history) (is ∙ position-some (is_reserve_of place) history any)
    by_test false none = absurd (none_some (is ∙ position-none (is_reserve_of place) history none))

-- where none is found, none reserves the counter
pub position_none : (history : List Entry) (place : Reservation) → None ≡ position (is_reserve_of place) history → length history ≡ position_or_len (is_reserve_of place) history
position_none history place is = by_test (list_any (is_reserve_of place) history) refl
  where
    none_some : (n : ℕ) → None ≡ Some n → ⊥
    none_some n e = cc

    by_test : (t : Bool) → list_any (is_reserve_of place) history ≡ t → length history ≡ position_or_len (is_reserve_of place) history
    by_test true any = absurd (none_some (position_or_len (is_reserve_of place) history) (is ∙ position-some (is_reserve_of place) history any))
    by_test false none = sym (position_or_len-none (is_reserve_of place) history none)
