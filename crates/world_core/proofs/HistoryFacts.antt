-- What a legal history says, and what stays when it grows.
use Rattle.std.proofs.Common.{◌≡◌, ℕ, ◌+◌, Bool, true, false, if◌then◌else◌, unwrap_or, ◌==◌, ◌&&◌, ◌||◌, ◌<◌, ◌⊎◌, inl, inr, Some, None, List, [], ◌∷◌, ◌++◌, reverse, slice_get, refl, sym, ◌∙◌, ap, subst, arith}
use Rattle.std.specs.Option.{option_or}
use Rattle.std.proofs.lemmas.Bool.Decides.{nat_tests}
use Rattle.std.specs.List.{list_any}
use Rattle.std.proofs.lemmas.Grind.{common_steps}
use Rattle.ota_core.specs.Keyset.{Keyset, is_same_keyset}
use Rattle.ota_core.specs.Entry.{Reservation, facts_in, reserved_by, is_open_of, is_reserve_of, counter_in}
use Rattle.ota_core.specs.Questions.{opened_facts}
use Rattle.ota_core.specs.History.{unless, broken, broken_batch, broken_status, broken_settlement, broken_in_use, next_counter, IsLegalPast, IsLegal}
use Rattle.ota_core.specs.HistoryLaws.{both_hold, in_order, unless-holds, not-holds, reserves_next, is_same_keyset-true, is_same_keyset-refl}
use Rattle.ota_core.specs.declared.jobs.JobId.{JobId}
use Rattle.ota_core.specs.declared.keysets.KeysetFacts.{KeysetFacts}
use Rattle.ota_core.specs.declared.entries.Illegal.{Illegal}
use Rattle.ota_core.specs.declared.entries.Entry.{Entry}
use Rattle.ota_core.specs.declared.entries.Entry.TheVariants.{Open, Reserve, Done, Refused, Close}
use Rattle.world_core.specs.Members.{In}
use Rattle.world_core.specs.Packet.{Packet, packet_of, packet_at, place_at}
use Rattle.world_core.specs.MemberLaws.{true_not_false, In-reverse, slice_get-left, first_some-left, and_then-some, map-some, or_cases}

-- the packet of a reservation stays when the history grows
packet_of-left : (history rest : List Entry) (entry : Entry) (packet : Packet) → packet_of history entry ≡ Some packet → packet_of (history ++ rest) entry ≡ Some packet
packet_of-left history rest (Open by moment keyset facts) packet h = cc
packet_of-left history rest (Reserve by moment keyset counter job tar name body) packet h =
    let found = map-some (λ (facts : KeysetFacts). (let p : Packet = record { keyset = keyset; counter = counter; tar = tar; body = body; opened = facts } in p)) (opened_facts keyset history) packet h in
    rw (first_some-left (facts_in keyset) history rest found.0 found.1) (ap (λ p. Some p) found.2)
packet_of-left history rest (Done by moment keyset counter answer) packet h = cc
packet_of-left history rest (Refused by moment keyset counter status) packet h = cc
packet_of-left history rest (Close by moment keyset) packet h = cc

pub packet_at-left : (history rest : List Entry) (position : ℕ) (packet : Packet) → packet_at history position ≡ Some packet → packet_at (history ++ rest) position ≡ Some packet
packet_at-left history rest position packet h =
    let found = and_then-some (packet_of history) (slice_get history position) packet h in
    rw (slice_get-left history rest position found.0 found.1) (packet_of-left history rest found.0 packet found.2)

-- the entry that a packet is of
packet_of-entry : (history : List Entry) (entry : Entry) (packet : Packet) → packet_of history entry ≡ Some packet
    → (by : ℕ) × (moment : ℕ) × (job : JobId) × (name : List ℕ) × (entry ≡ Reserve by moment packet.keyset packet.counter job packet.tar name packet.body)
packet_of-entry history (Open by moment keyset facts) packet h = cc
packet_of-entry history (Reserve by moment keyset counter job tar name body) packet h =
    let found = map-some (λ (facts : KeysetFacts). (let p : Packet = record { keyset = keyset; counter = counter; tar = tar; body = body; opened = facts } in p)) (opened_facts keyset history) packet h in
    (by, moment, job, name, rw (← found.2) refl)
packet_of-entry history (Done by moment keyset counter answer) packet h = cc
packet_of-entry history (Refused by moment keyset counter status) packet h = cc
packet_of-entry history (Close by moment keyset) packet h = cc

pub packet_at-entry : (history : List Entry) (position : ℕ) (packet : Packet) → packet_at history position ≡ Some packet
    → (by : ℕ) × (moment : ℕ) × (job : JobId) × (name : List ℕ) × (slice_get history position ≡ Some (Reserve by moment packet.keyset packet.counter job packet.tar name packet.body))
packet_at-entry history position packet h =
    let found = and_then-some (packet_of history) (slice_get history position) packet h in
    let entry = packet_of-entry history found.0 packet found.2 in
    (entry.0, entry.1, entry.2, entry.3, rw (← entry.4) found.1)

-- the counter that a packet's entry reserves
pub packet_at-place : (history : List Entry) (position : ℕ) (packet : Packet) → packet_at history position ≡ Some packet
    → place_at history position ≡ Some (record { keyset = packet.keyset; counter = packet.counter })
packet_at-place history position packet h = (let entry = packet_at-entry history position packet h in rw entry.4 refl)

-- an entry that reserves a counter legally reserves the one that comes next
pub reserved_is_next : (past : List Entry) (entry : Entry) (place : Reservation) → broken past entry ≡ None → reserved_by entry ≡ Some place
    → place.counter ≡ next_counter place.keyset past
reserved_is_next past (Open by moment keyset facts) place legal h = cc
reserved_is_next past (Reserve by moment keyset counter job tar name body) place legal h =
    let e : (let p : Reservation = record { keyset = keyset; counter = counter } in p) ≡ place = cc in
    rw (← e) (reserves_next past by moment keyset counter job tar name body legal).0
reserved_is_next past (Done by moment keyset counter answer) place legal h = cc
reserved_is_next past (Refused by moment keyset counter status) place legal h = cc
reserved_is_next past (Close by moment keyset) place legal h = cc

-- a refusal in a legal past has status 07 or 09
refusal_status : (past : List Entry) (by moment : ℕ) (keyset : Keyset) (counter status : ℕ) → broken past (Refused by moment keyset counter status) ≡ None
    → (status ≡ 0x07) ⊎ (status ≡ 0x09)
refusal_status past by moment keyset counter status h =
    let place : Reservation = record { keyset = keyset; counter = counter } in
    let a = both_hold (broken_in_use keyset past) (option_or (broken_settlement place past) (broken_status status))
    (in_order past (Refused by moment keyset counter status) h) in
    let b = both_hold (broken_settlement place past) (broken_status status) a.1 in
    let test : ((status == 0x07) || (status == 0x09)) ≡ true = unless-holds ((status == 0x07) || (status == 0x09)) Illegal.BadStatus b.1 in
    elim (or_cases (status == 0x07) (status == 0x09) test) [ inl e ↦ inl (grind (arith, nat_tests, e)) | inr e ↦ inr (grind (arith, nat_tests, e)) ]

legal_refusal : (past : List Entry) (by moment : ℕ) (keyset : Keyset) (counter status : ℕ) → IsLegalPast past → In (Refused by moment keyset counter status) past
    → (status ≡ 0x07) ⊎ (status ≡ 0x09)
legal_refusal [] by moment keyset counter status legal h = absurd h
legal_refusal (entry ∷ past) by moment keyset counter status legal h = elim h [
  | inl e ↦ refusal_status past by moment keyset counter status (subst (λ (x : Entry). broken past x ≡ None) (sym e) legal.1)
  | inr i ↦ legal_refusal past by moment keyset counter status legal.0 i
]

pub IsLegal-refusal : (history : List Entry) (by moment : ℕ) (keyset : Keyset) (counter status : ℕ) → IsLegal history → In (Refused by moment keyset counter status) history
    → (status ≡ 0x07) ⊎ (status ≡ 0x09)
IsLegal-refusal history by moment keyset counter status legal h =
    legal_refusal (reverse history) by moment keyset counter status legal (In-reverse (Refused by moment keyset counter status) history h)
