-- The packet of the reservation at one position of the history.
use Rattle.std.proofs.Common.{◌≡◌, inl, inr, ℕ, ◌≤◌, Bool, true, false, ◌&&◌, not, Option, Some, None, Result, Ok, Err, OnOk, List, [], length, All, refl, sym, ◌∙◌, ap, subst, append-nil}
use Rattle.std.proofs.lemmas.Option.{slice_get_cases}
use Rattle.std.specs.List.{slice_get, list_any}
use Rattle.std.specs.Option.{option_or, option_map, option_and_then}
use Rattle.disk_model.specs.Disk.{Meaning}
use Rattle.ota_core.specs.Entry.{Reservation, is_reserve_of, is_settlement_of}
use Rattle.ota_core.specs.Questions.{Reserved, opened_facts, reserved_in, state_of}
use Rattle.ota_core.specs.declared.entries.Entry.{Entry}
use Rattle.ota_core.specs.declared.entries.Entry.TheVariants.{Open, Reserve, Done, Refused, Close}
use Rattle.counter_journal.specs.EntryRanges.{IsEntry, IsEntryOf}
use Rattle.site_model.specs.Port.{PortState}
use Rattle.world_core.specs.Packet.{Packet, packet_at, packet_of}
use Rattle.world_core.specs.declared.lines.Line.{Line}
use Rattle.lane_engine.specs.Departing.{pieces_at, pieces_if}
use Rattle.lane_engine.specs.Packets.{departures_if, departures_of}
use Rattle.lane_engine.specs.Reserving.{resend_refusal, state_refusal}
use Rattle.lane_engine.specs.Sending.{AreAllHanded, HandsOver, HandsOverBuilt, IsCarried, packet_with}
use Rattle.lane_engine.specs.declared.answers.LaneErr.{LaneErr}
use Rattle.lane_engine.specs.declared.answers.LaneErr.TheVariants as lane_err
use Rattle.lane_engine.proofs.LeavingLemmas.{packet_sent}
use Rattle.lane_engine.proofs.SendLemmas.{hands_none}

-- ---- what is reserved at a position

reserved_entry : (history : List Entry) (found : Option Entry) (reserved : Reserved) → option_and_then reserved_in found ≡ Some reserved
    → option_and_then (packet_of history) found ≡ option_map (packet_with reserved) (opened_facts reserved.keyset history)
reserved_entry history None reserved h = cc
reserved_entry history (Some (Open by moment keyset facts)) reserved h = cc
reserved_entry history (Some (Reserve by moment keyset counter job tar name body)) reserved h =
    let is : (let r : Reserved = record { keyset = keyset; counter = counter; job = job; moment = moment; tar = tar; name = name; body = body } in r) ≡ reserved = one (record { keyset = keyset; counter = counter; job = job; moment = moment; tar = tar; name = name; body = body }) reserved h in
    subst (λ (r : Reserved). packet_of history (Reserve by moment keyset counter job tar name body) ≡ option_map (packet_with r) (opened_facts r.keyset history)) is refl
  where
    one : (a b : Reserved) → Some a ≡ Some b → a ≡ b
    one a b e = cc
reserved_entry history (Some (Done by moment keyset counter answer)) reserved h = cc
reserved_entry history (Some (Refused by moment keyset counter status)) reserved h = cc
reserved_entry history (Some (Close by moment keyset)) reserved h = cc

-- its packet
pub reserved_packet : (history : List Entry) (position : ℕ) (reserved : Reserved) → option_and_then reserved_in (slice_get history position) ≡ Some reserved
    → packet_at history position ≡ option_map (packet_with reserved) (opened_facts reserved.keyset history)
reserved_packet history position reserved h = reserved_entry history (slice_get history position) reserved h

unreserved_entry : (history : List Entry) (found : Option Entry) → option_and_then reserved_in found ≡ None → option_and_then (packet_of history) found ≡ None
unreserved_entry history None h = refl
unreserved_entry history (Some (Open by moment keyset facts)) h = refl
unreserved_entry history (Some (Reserve by moment keyset counter job tar name body)) h = cc
unreserved_entry history (Some (Done by moment keyset counter answer)) h = refl
unreserved_entry history (Some (Refused by moment keyset counter status)) h = refl
unreserved_entry history (Some (Close by moment keyset)) h = refl

-- where nothing is reserved there is no packet
pub unreserved_packet : (history : List Entry) (position : ℕ) → option_and_then reserved_in (slice_get history position) ≡ None → packet_at history position ≡ None
unreserved_packet history position h = unreserved_entry history (slice_get history position) h

entry_fits : (entry : Entry) (reserved : Reserved) → IsEntry entry → reserved_in entry ≡ Some reserved → (1 ≤ length reserved.body) × (length reserved.body ≤ 4096)
entry_fits (Open by moment keyset facts) reserved is h = cc
entry_fits (Reserve by moment keyset counter job tar name body) reserved is h =
    let same : body ≡ reserved.body = one (record { keyset = keyset; counter = counter; job = job; moment = moment; tar = tar; name = name; body = body }) reserved h in
    (subst (λ (l : List ℕ). 1 ≤ length l) same is.6, subst (λ (l : List ℕ). length l ≤ 4096) same is.7)
  where
    one : (a b : Reserved) → Some a ≡ Some b → a.body ≡ b.body
    one a b e = cc
entry_fits (Done by moment keyset counter answer) reserved is h = cc
entry_fits (Refused by moment keyset counter status) reserved is h = cc
entry_fits (Close by moment keyset) reserved is h = cc

-- its script has 1 to 4,096 octets
pub body_fits : (lane lanes : ℕ) (history : List Entry) (position : ℕ) (reserved : Reserved) → All (IsEntryOf lane lanes) history
    → option_and_then reserved_in (slice_get history position) ≡ Some reserved → (1 ≤ length reserved.body) × (length reserved.body ≤ 4096)
body_fits lane lanes history position reserved all h = elim (slice_get_cases history position).1 [
  | inl found ↦
      entry_fits found.0 reserved (subst IsEntry found.3 (all position found.0 found.1).fits) (sym (ap (option_and_then reserved_in) found.2) ∙ h)
  | inr past ↦ absurd (none_some (sym (ap (option_and_then reserved_in) past.1) ∙ h))
]
  where
    none_some : None ≡ Some reserved → ⊥
    none_some e = cc

-- ---- its packet is built and handed over

on_ok : {X Y : Type 0} (result : Result (Unit {0}) LaneErr) → (X → Y) → OnOk result X → OnOk result Y
on_ok (Ok done) f x = f x
on_ok (Err error) f x = tt

module _ {D B C : Type 0} (told : Meaning D B C) (port : B → PortState) (lines : C → ℕ → List Line) (history : List Entry) (position : ℕ) (old : D) where
  -- there is none
  pub none_built : packet_at history position ≡ None → HandsOverBuilt told port lines history old old (departures_if (packet_at history position)) (pieces_at history position) (Ok tt)
  none_built none = record {
    built = [];
    rest = [];
    are = ap departures_if none;
    left = [];
    later = [];
    pieces_are = ap (pieces_if position) none;
    of_history = tt;
    run = hands_none told port lines old [];
    all = (refl, refl, sym (append-nil _));
  }

  -- there is one
  pub one_built : (new : D) (packet : Packet) (result : Result (Unit {0}) LaneErr) → packet_at history position ≡ Some packet → IsCarried packet → HandsOver told port lines old new (departures_of packet)
      → OnOk result (AreAllHanded told port lines old new (departures_of packet))
      → HandsOverBuilt told port lines history old new (departures_if (packet_at history position)) (pieces_at history position) result
  one_built new packet result is carried hands all = record {
    built = departures_of packet;
    rest = [];
    are = ap departures_if is ∙ sym (append-nil (departures_of packet));
    left = pieces_if position (Some packet);
    later = [];
    pieces_are = ap (pieces_if position) is ∙ sym (append-nil (pieces_if position (Some packet)));
    of_history = packet_sent history position packet is carried;
    run = hands;
    all = on_ok result (λ handed. (refl, refl, handed)) all;
  }

-- ---- what can be sent again

both : (a b : Bool) → true ≡ (a && not b) → (a ≡ true) × (b ≡ false)
both true true h = cc
both true false h = (refl, refl)
both false b h = cc

pub resend_first : (past : List Entry) (place : Reservation) (error : LaneErr) → Some error ≡ state_refusal (state_of place.keyset past) → Some error ≡ resend_refusal past place
resend_first past place error h = by_state (state_refusal (state_of place.keyset past)) _ h
  where
    by_state : (first rest : Option LaneErr) → Some error ≡ first → Some error ≡ option_or first rest
    by_state None rest h = cc
    by_state (Some named) rest h = h

pub resend_free : (past : List Entry) (place : Reservation) → None ≡ state_refusal (state_of place.keyset past) → true ≡ (list_any (is_reserve_of place) past && not (list_any (is_settlement_of place) past))
    → None ≡ resend_refusal past place
resend_free past place in_use free =
    let tests = both (list_any (is_reserve_of place) past) (list_any (is_settlement_of place) past) free in
    rw (sym in_use, tests.0, tests.1) refl

pub resend_taken : (past : List Entry) (place : Reservation) → None ≡ state_refusal (state_of place.keyset past) → false ≡ (list_any (is_reserve_of place) past && not (list_any (is_settlement_of place) past))
    → Some lane_err.NotReserved ≡ resend_refusal past place
resend_taken past place in_use taken = by_tests (list_any (is_reserve_of place) past) (list_any (is_settlement_of place) past) refl refl taken
  where
    by_tests : (t s : Bool) → list_any (is_reserve_of place) past ≡ t → list_any (is_settlement_of place) past ≡ s → false ≡ (t && not s) → Some lane_err.NotReserved ≡ resend_refusal past place
    by_tests false s is settled h = rw (sym in_use, is) refl
    by_tests true true is settled h = rw (sym in_use, is, settled) refl
    by_tests true false is settled h = cc
