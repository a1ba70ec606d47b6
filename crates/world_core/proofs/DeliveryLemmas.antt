-- A delivery keeps a world sound.
use Rattle.std.proofs.Common.{◌≡◌, ◌≢◌, ℕ, ◌<◌, Bool, true, false, ◌==◌, ◌&&◌, ◌||◌, if◌then◌else◌, not, inl, inr, Option, Some, None, List, [], ◌∷◌, ◌++◌, length, slice_get, refl, sym, ◌∙◌, ap, subst, arith, append-nil, length-append}
use Rattle.std.specs.Option.{option_and_then}
use Rattle.std.specs.List.{list_all}
use Rattle.std.proofs.lemmas.Grind.{common_steps}
use Rattle.std.proofs.lemmas.Bool.{and_parts}
use Rattle.std.proofs.lemmas.Bool.Decides.{nat_tests}
use Rattle.ota_core.specs.Keyset.{Keyset}
use Rattle.ota_core.specs.declared.cards.CardId.{CardId}
use Rattle.ota_core.specs.declared.jobs.JobId.{JobId}
use Rattle.ota_core.specs.declared.entries.Entry.{Entry}
use Rattle.ota_core.specs.declared.entries.Entry.TheVariants.{Reserve, Done, Refused}
use Rattle.world_core.specs.Members.{In}
use Rattle.world_core.specs.Packet.{Packet, packet_at, pieces_of}
use Rattle.world_core.specs.Card.{CardState, find_card, log_of, logged, base_of, stored_counter, IsLine, IsCardState}
use Rattle.world_core.specs.Receiving.{is_taken, is_line_outcome, may_step, line_of, answer_of, is_secured}
use Rattle.world_core.specs.WorldState.{WorldState}
use Rattle.world_core.specs.Condition.{is_piece_of, are_pieces_of, has_places, first_reservation, packet_if_whole, packet_whole_at, whole_packet, step_refusal, deliver_refusal}
use Rattle.world_core.specs.Effect.{stepped, line_by, answer_by, delivered}
use Rattle.world_core.specs.Headline.{IsTrueReport, IsTrueAnswer}
use Rattle.world_core.specs.Sound.{IsSound}
use Rattle.world_core.specs.declared.segments.Sent.{Sent}
use Rattle.world_core.specs.declared.lines.Line.{Line}
use Rattle.world_core.specs.declared.answers.Made.{Made}
use Rattle.world_core.specs.declared.card_steps.CardStep.{CardStep}
use Rattle.world_core.specs.declared.card_steps.CardStep.TheVariants as step
use Rattle.world_core.specs.declared.refusals.NotAllowed.TheVariants as refusal
use Rattle.world_core.specs.MemberLaws.{In-push_cases, slice_get-In, holds, and_then-some, map-some}
use Rattle.world_core.proofs.HistoryFacts.{packet_at-entry}
use Rattle.world_core.proofs.CardLemmas.{with_lines, find_card-In, numbers-logged, logged-cases, log_of-logged, log_of-logged_new, all_lines-logged, stored_counter-above, stored_counter-from, IsRising-push, IsTaking, MaySay, taking, answering}
use Rattle.world_core.specs.WorldLaws.{is_card-true}
use Rattle.world_core.proofs.WholePackets.{whole_of_first}
use Rattle.world_core.proofs.Walks.{logged_nothing}

-- a true report stays true when a log grows
report_kept : (cards : List CardState) (card : CardId) (lines : List Line) (entry : Entry) → IsTrueReport cards entry → IsTrueReport (logged cards card lines) entry
report_kept cards card lines (Done by moment keyset counter answer) h = (h.0, log_of-logged cards card keyset.card lines h.0 h.1, h.2, h.3, h.4)
report_kept cards card lines (Refused by moment keyset counter status) h = (h.0, log_of-logged cards card keyset.card lines h.0 h.1, h.2, h.3, h.4)
report_kept cards card lines _ h = h

-- a line that a card may add
pub record IsNewLine (w : WorldState) (state : CardState) (line : Line) : Type 0 where
  pub is_line : IsLine state.facts line
  pub above : (other : Line) → In other state.log → other.keyset ≡ line.keyset → other.counter < line.counter
  pub reserved : (by : ℕ) × (moment : ℕ) × (job : JobId) × (name : List ℕ) × In (Reserve by moment line.keyset line.counter job line.tar name line.body) w.history

abbrev pub with_line : WorldState → CardId → Line → WorldState
with_line w card line = record w { cards = logged w.cards card (line ∷ []) }

card_with_line : (state : CardState) (line : Line) → IsCardState state → IsLine state.facts line
    → ((other : Line) → In other state.log → other.keyset ≡ line.keyset → other.counter < line.counter) → IsCardState (with_lines state (line ∷ []))
card_with_line state line is new above = record {
  lines = λ other i. elim (In-push_cases other state.log line i) [ inl old ↦ is.lines other old | inr e ↦ rw e new ];
  rising = IsRising-push state.log line is.rising above;
}

-- a card adds a line
sound_logged : (w : WorldState) (card : CardId) (state : CardState) (line : Line) → IsSound w → find_card card w.cards ≡ Some state → IsNewLine w state line
    → IsSound (with_line w card line)
sound_logged w card state line sound there new = record {
  legal = sound.legal;
  sent = sound.sent;
  differ = rw (numbers-logged w.cards card (line ∷ [])) sound.differ;
  cards = λ other i. elim (logged-cases w.cards card (line ∷ []) other i) [
    | inl old ↦ sound.cards other old
    | inr longer ↦ (let same : longer.0 ≡ state = (let e : Some longer.0 ≡ Some state = sym longer.1 ∙ there in cc) in
        rw longer.2 (rw same (card_with_line state line (sound.cards state (find_card-In card w.cards state there).0) new.is_line new.above)))
  ];
  reserved = λ other i. elim (all_lines-logged w.cards card other line i) [ inl old ↦ sound.reserved other old | inr e ↦ rw e new.reserved ];
  answers = λ made i settling. (let h = sound.answers made i settling in
      (h.0, log_of-logged w.cards card made.keyset.card (line ∷ []) h.0 h.1, h.2, h.3, h.4));
  own = sound.own;
  given = sound.given;
  reports = λ entry i. report_kept w.cards card (line ∷ []) entry (sound.reports entry i);
}

abbrev pub with_answer : WorldState → Made → WorldState
with_answer w made = record w { made = w.made ++ made ∷ [] }

-- a card makes an answer
sound_answered : (w : WorldState) (made : Made) → IsSound w → made.keyset.card ≡ made.card → IsTrueAnswer w.cards made → IsSound (with_answer w made)
sound_answered w made sound own is = record {
  legal = sound.legal;
  sent = sound.sent;
  differ = sound.differ;
  cards = sound.cards;
  reserved = sound.reserved;
  reports = sound.reports;
  own = λ other i. elim (In-push_cases other w.made made i) [ inl old ↦ sound.own other old | inr e ↦ rw e own ];
  answers = λ other i. elim (In-push_cases other w.made made i) [ inl old ↦ sound.answers other old | inr e ↦ rw e is ];
  given = λ position i. (let old : position < length w.made = sound.given position i in omega (arith, length-append w.made (made ∷ [])));
}

-- nothing is added
sound_same : (w : WorldState) (card : CardId) → IsSound w → IsSound (record w { cards = logged w.cards card []; made = w.made ++ [] })
sound_same w card sound = rw (logged_nothing w.cards card, append-nil) sound

-- no line is added, and an answer
sound_only_answered : (w : WorldState) (card : CardId) (made : Made) → IsSound w → made.keyset.card ≡ made.card → IsTrueAnswer w.cards made
    → IsSound (record w { cards = logged w.cards card []; made = w.made ++ made ∷ [] })
sound_only_answered w card made sound own is = rw (logged_nothing w.cards card) (sound_answered w made sound own is)

-- a line is added, and no answer
sound_only_logged : (w : WorldState) (card : CardId) (state : CardState) (line : Line) → IsSound w → find_card card w.cards ≡ Some state → IsNewLine w state line
    → IsSound (record w { cards = logged w.cards card (line ∷ []); made = w.made ++ [] })
sound_only_logged w card state line sound there new = rw append-nil (sound_logged w card state line sound there new)

-- what the packet of a delivery says
pub record IsDelivered (w : WorldState) (card : CardId) (packet : Packet) : Type 0 where
  pub card_is : packet.keyset.card ≡ card
  pub reserved : (by : ℕ) × (moment : ℕ) × (job : JobId) × (name : List ℕ) × In (Reserve by moment packet.keyset packet.counter job packet.tar name packet.body) w.history

first_piece : (sent : List Sent) (pieces : List ℕ) (reservation : ℕ) (card : CardId) → first_reservation sent pieces ≡ Some reservation
    → are_pieces_of sent card pieces reservation ≡ true
    → (piece : Sent) × In piece sent × (piece.reservation ≡ reservation) × (piece.card ≡ card)
first_piece sent [] reservation card h all = cc
first_piece sent (position ∷ pieces) reservation card h all =
    let found = map-some (λ (message : Sent). message.reservation) (slice_get sent position) reservation h in
    let first : is_piece_of card reservation (slice_get sent position) ≡ true =
    (and_parts (is_piece_of card reservation (slice_get sent position)) (are_pieces_of sent card pieces reservation) all).0 in
    let tests : ((found.0.card.0 == card.0) && (found.0.reservation == reservation)) ≡ true = rw found.1 at first in
    let same : (found.0.card.0 == card.0) ≡ true = (and_parts (found.0.card.0 == card.0) (found.0.reservation == reservation) tests).0 in
    (found.0, slice_get-In sent position found.0 found.1, found.2, same_card found.0.card card same)
  where
    same_card : (a b : CardId) → (a.0 == b.0) ≡ true → a ≡ b
    same_card a b h = grind (arith, nat_tests, h)

whole_is : (sent : List Sent) (card : CardId) (pieces : List ℕ) (reservation : ℕ) (found packet : Packet) → packet_if_whole sent card pieces reservation found ≡ Some packet
    → (found ≡ packet) × (are_pieces_of sent card pieces reservation ≡ true)
whole_is sent card pieces reservation found packet h =
    tested (are_pieces_of sent card pieces reservation) (has_places sent pieces (pieces_of found)) h
  where
    tested : (a b : Bool) → (if a && b then Some found else None) ≡ Some packet → (found ≡ packet) × (a ≡ true)
    tested true true h = (cc, refl)
    tested true false h = cc
    tested false b h = cc

pub delivered_packet : (w : WorldState) (card : CardId) (pieces : List ℕ) (packet : Packet) → IsSound w → whole_packet w.history w.sent card pieces ≡ Some packet
    → IsDelivered w card packet
delivered_packet w card pieces packet sound h =
    let a = and_then-some (packet_whole_at w.history w.sent card pieces) (first_reservation w.sent pieces) packet
    (sym (whole_of_first w.history w.sent card pieces) ∙ h) in
    let b = and_then-some (packet_if_whole w.sent card pieces a.0) (packet_at w.history a.0) packet a.2 in
    let whole = whole_is w.sent card pieces a.0 b.0 packet b.2 in
    let found : packet_at w.history a.0 ≡ Some packet = b.1 ∙ ap (λ (p : Packet). Some p) whole.0 in
    let piece = first_piece w.sent pieces a.0 card a.1 whole.1 in
    let of = sound.sent piece.0 piece.1 in
    let same : of.0 ≡ packet = (let e : Some of.0 ≡ Some packet = sym of.1 ∙ subst (λ (n : ℕ). packet_at w.history n ≡ Some packet) (sym piece.2) found in cc) in
    let entry = packet_at-entry w.history a.0 packet found in
    record {
      card_is = ap (λ (p : Packet). p.keyset.card) (sym same) ∙ sym of.2 ∙ piece.3;
      reserved = (entry.0, entry.1, entry.2, entry.3, slice_get-In w.history a.0 (Reserve entry.0 entry.1 packet.keyset packet.counter entry.2 packet.tar entry.3 packet.body) entry.4);
    }

-- what the tests of a step that uses the counter up say
pub record IsTakenStep (status took executed : ℕ) (finished : Bool) (answer : List ℕ) (answered : Bool) : Type 0 where
  pub same : took ≡ status
  pub taken : is_taken status ≡ true
  pub unrun : took ≢ 0x00 → (executed ≡ 0) × (finished ≡ true) × (answer ≡ [])
  pub unfinished : finished ≡ false → answer ≡ []
  pub is_finished : answered ≡ true → finished ≡ true

no_octets : (answer : List ℕ) → (length answer == 0) ≡ true → answer ≡ []
no_octets [] h = refl
no_octets (x ∷ answer) h = absurd (grind (arith, nat_tests, h))

ran_outcome : (finished answered empty : Bool) → (finished || (not answered && empty)) ≡ true
    → ((finished ≡ false → empty ≡ true) × (answered ≡ true → finished ≡ true))
ran_outcome true answered empty h = ((λ f. cc), (λ a. refl))
ran_outcome false true empty h = cc
ran_outcome false false empty h = ((λ f. h), (λ a. cc))

outcome_by : (t : Bool) (status executed : ℕ) (finished : Bool) (answer : List ℕ) (answered : Bool) → (status == 0x00) ≡ t
    → (if t then finished || (not answered && (length answer == 0)) else (executed == 0) && finished && (length answer == 0)) ≡ true
    → (status ≢ 0x00 → (executed ≡ 0) × (finished ≡ true) × (answer ≡ [])) × (finished ≡ false → answer ≡ []) × (answered ≡ true → finished ≡ true)
outcome_by true status executed finished answer answered is h =
    let parts = ran_outcome finished answered (length answer == 0) h in
    let z : status ≡ 0x00 = grind (arith, nat_tests, is) in
    ((λ n. absurd (n z)), (λ f. no_octets answer (parts.0 f)), parts.1)
outcome_by false status executed finished answer answered is h =
    let a = and_parts ((executed == 0) && finished) (length answer == 0) h in
    let b = and_parts (executed == 0) finished a.0 in
    let none : executed ≡ 0 = grind (arith, nat_tests, b.0) in
    let empty : answer ≡ [] = no_octets answer a.1 in
    ((λ n. (none, b.1, empty)), (λ f. empty), (λ a. b.1))

pub outcome_is : (status took executed : ℕ) (finished : Bool) (answer : List ℕ) (answered : Bool)
    → ((took == status) && is_taken status && is_line_outcome status executed finished answer answered) ≡ true
    → IsTakenStep status took executed finished answer answered
outcome_is status took executed finished answer answered h =
    let a = and_parts ((took == status) && is_taken status) (is_line_outcome status executed finished answer answered) h in
    let b = and_parts (took == status) (is_taken status) a.0 in
    let same : took ≡ status = grind (arith, nat_tests, b.0) in
    let outcome = outcome_by (status == 0x00) status executed finished answer answered refl a.1 in
    record { same = same; taken = b.1; unrun = rw same outcome.0; unfinished = outcome.1; is_finished = outcome.2 }

abbrev pub taken_line : Packet → ℕ → Bool → ℕ → List ℕ → Line
taken_line packet executed finished status answer = record {
  keyset = packet.keyset;
  counter = packet.counter;
  tar = packet.tar;
  body = packet.body;
  executed = executed;
  finished = finished;
  status = status;
  answer = answer;
}

abbrev pub answer_with : CardId → Packet → ℕ → List ℕ → Made
answer_with card packet status answer = record { card = card; keyset = packet.keyset; counter = packet.counter; status = status; answer = answer }

-- the line of a step that uses the counter up
new_line : (w : WorldState) (card : CardId) (state : CardState) (packet : Packet) (status executed took : ℕ) (finished : Bool) (answer : List ℕ) (answered : Bool)
    → IsSound w → find_card card w.cards ≡ Some state → IsDelivered w card packet → IsTaking state packet status
    → IsTakenStep status took executed finished answer answered → IsNewLine w state (taken_line packet executed finished took answer)
new_line w card state packet status executed took finished answer answered sound there delivery takes outcome =
    let found = find_card-In card w.cards state there in
    let number : state.facts.card ≡ card = is_card-true card state found.1 in
    let base = base_of state.facts packet.keyset in
    let high : stored_counter base packet.keyset state.log < packet.counter = takes.0 in
    record {
      is_line = record {
        card = delivery.card_is ∙ sym number;
        above = (let low = stored_counter-from base state.log packet.keyset (λ line i same. subst (λ (k : Keyset). base_of state.facts k < line.counter) same ((sound.cards state found.0).lines line i).above) in
            omega (arith, low, high));
        status = outcome.same ∙ takes.1;
        unrun = outcome.unrun;
        unfinished = outcome.unfinished;
      };
      above = λ other i same. (let below = stored_counter-above base state.log packet.keyset other (sound.cards state found.0).rising i same in omega (arith, below, high));
      reserved = delivery.reserved;
    }

-- the card uses the counter up
sound_taken : (w : WorldState) (card : CardId) (state : CardState) (packet : Packet) (executed took : ℕ) (finished : Bool) (answer : List ℕ) (answered : Bool)
    → IsSound w → find_card card w.cards ≡ Some state → IsDelivered w card packet → MaySay state packet (step.Took executed finished took answer answered)
    → IsSound (stepped w card (Some (taken_line packet executed finished took answer)) (if answered then Some (answer_with card packet took answer) else None))
sound_taken w card state packet executed took finished answer answered sound there delivery says =
    by_answer answered outcome (new_line w card state packet says.status executed took finished answer answered sound there delivery (says.taking outcome.taken) outcome)
  where
    outcome : IsTakenStep says.status took executed finished answer answered
    outcome = outcome_is says.status took executed finished answer answered says.may

    by_answer : (t : Bool) → IsTakenStep says.status took executed finished answer t → IsNewLine w state (taken_line packet executed finished took answer)
        → IsSound (stepped w card (Some (taken_line packet executed finished took answer)) (if t then Some (answer_with card packet took answer) else None))
    by_answer false outcome new = sound_only_logged w card state (taken_line packet executed finished took answer) sound there new
    by_answer true outcome new =
        (let line = taken_line packet executed finished took answer in
        let after = sound_logged w card state line sound there new in
        let stands : In line (log_of (logged w.cards card (line ∷ [])) packet.keyset.card) =
        subst (λ (k : CardId). In line (log_of (logged w.cards card (line ∷ [])) k)) (sym delivery.card_is) (log_of-logged_new w.cards card line state there) in
        sound_answered (with_line w card line) (answer_with card packet took answer) after delivery.card_is
        (λ settling. (line, stands, refl, refl, (outcome.is_finished refl, refl, refl))))

-- the card answers, and no counter is used up
sound_answer : (w : WorldState) (card : CardId) (packet : Packet) (answered : ℕ) → IsSound w → IsDelivered w card packet → is_taken answered ≡ false
    → IsSound (stepped w card None (if is_secured answered then Some (answer_with card packet answered []) else None))
sound_answer w card packet answered sound delivery h = by_security (is_secured answered)
  where
    unsettling : (made : Made) → made.status ≡ answered → IsTrueAnswer w.cards made
    unsettling made is settling = absurd (grind (arith, common_steps, nat_tests, h, is, settling))

    by_security : (t : Bool) → IsSound (stepped w card None (if t then Some (answer_with card packet answered []) else None))
    by_security true = sound_only_answered w card (answer_with card packet answered []) sound delivery.card_is (unsettling (answer_with card packet answered []) refl)
    by_security false = sound_same w card sound

by_step : (w : WorldState) (card : CardId) (state : CardState) (packet : Packet) (made : CardStep) → IsSound w → find_card card w.cards ≡ Some state
    → IsDelivered w card packet → may_step state packet made ≡ true → IsSound (stepped w card (line_of packet made) (answer_of card packet made))
by_step w card state packet step.Drop sound there delivery may = sound_same w card sound
by_step w card state packet (step.Answered answered) sound there delivery may = sound_answer w card packet answered sound delivery (answering state packet answered may)
by_step w card state packet step.CutBeforeCounter sound there delivery may = sound_same w card sound
by_step w card state packet (step.Took executed finished took answer answered) sound there delivery may =
    sound_taken w card state packet executed took finished answer answered sound there delivery (taking state packet executed took finished answer answered may)

pub sound_delivered : (w : WorldState) (card : CardId) (pieces : List ℕ) (made : CardStep) → IsSound w → deliver_refusal w card pieces made ≡ None
    → IsSound (delivered w card pieces made)
sound_delivered w card pieces made sound allowed =
    by_card (find_card card w.cards) refl (whole_packet w.history w.sent card pieces) refl allowed
  where
    by_card : (s : Option CardState) → find_card card w.cards ≡ s → (p : Option Packet) → whole_packet w.history w.sent card pieces ≡ p
        → step_refusal made s p ≡ None → IsSound (stepped w card (line_by made p) (answer_by card made p))
    by_card None there p whole h = cc
    by_card (Some state) there None whole h = cc
    by_card (Some state) there (Some packet) whole h =
        by_step w card state packet made sound there (delivered_packet w card pieces packet sound whole) (holds (may_step state packet made) refusal.BadStep h)
