-- Each event keeps a world sound.
use Rattle.std.proofs.Common.{◌≡◌, ◌≢◌, ℕ, ◌<◌, Bool, true, false, ◌==◌, ◌&&◌, nat_lt, nat_le, ◌⊎◌, inl, inr, Option, Some, None, Result, Ok, Err, is_none, unwrap_or, List, [], ◌++◌, length, reverse, slice_get, refl, sym, ◌∙◌, subst, arith, append-nil}
use Rattle.std.specs.Option.{option_map, option_to_list}
use Rattle.std.specs.List.{list_all}
use Rattle.std.specs.Str.{bytes_eq}
use Rattle.std.proofs.lemmas.Bool.{and_parts}
use Rattle.std.proofs.lemmas.Bool.Decides.{nat_tests}
use Rattle.std.proofs.lemmas.Slice.Eq.{bytes_eq-Decides}
use Rattle.ota_core.specs.Keyset.{Keyset, is_same_keyset}
use Rattle.ota_core.specs.History.{broken_batch, IsLegal}
use Rattle.ota_core.specs.declared.entries.Entry.{Entry}
use Rattle.ota_core.specs.declared.entries.Entry.TheVariants.{Open, Reserve, Done, Refused, Close}
use Rattle.ota_core.specs.HistoryLaws.{both_hold, IsLegal-prefix, IsLegal-batch, is_same_keyset-true}
use Rattle.world_core.specs.Members.{In}
use Rattle.world_core.specs.Packet.{Packet, packet_at, pieces_of}
use Rattle.world_core.specs.Card.{log_of}
use Rattle.world_core.specs.WorldState.{WorldState, written}
use Rattle.world_core.specs.Condition.{refused_unless, is_answer_with, passes, is_given, is_answered, begin_refusal, place_refusal, leave_refusal, give_refusal, refusal_of, may_want_memory, IsAllowed}
use Rattle.world_core.specs.Effect.{begun, piece_of, left, gave, stopped, started, world_step}
use Rattle.world_core.specs.Run.{Answers}
use Rattle.world_core.specs.Headline.{IsReserved, HasLine, IsFinished, IsTrueReport}
use Rattle.world_core.specs.Sound.{IsSound}
use Rattle.world_core.specs.declared.segments.Sent.{Sent}
use Rattle.world_core.specs.declared.answers.Made.{Made}
use Rattle.world_core.specs.declared.events.Event.{Event}
use Rattle.world_core.specs.declared.events.Event.TheVariants as event
use Rattle.world_core.specs.declared.refusals.NotAllowed.{NotAllowed}
use Rattle.world_core.specs.declared.refusals.NotAllowed.TheVariants as refusal
use Rattle.world_core.specs.MemberLaws.{In-left, In-cases, In-push_cases, slice_get-In, list_all-In, list_any-In, holds, none_before}
use Rattle.world_core.proofs.HistoryFacts.{packet_at-left, IsLegal-refusal}
use Rattle.world_core.specs.WorldLaws.{log_of-In}
use Rattle.world_core.proofs.DeliveryLemmas.{sound_delivered}

-- the durable history of a sound world is legal
pub legal_history : (w : WorldState) → IsSound w → IsLegal w.history
legal_history w sound = IsLegal-prefix w.history (unwrap_or w.batch []) sound.legal

-- each piece is still of a reservation when the history grows
reserved_left : (history rest : List Entry) (piece : Sent) → IsReserved history piece → IsReserved (history ++ rest) piece
reserved_left history rest piece h = (h.0, packet_at-left history rest piece.reservation h.0 h.1, h.2, h.3, h.4)

-- the batch becomes durable
kept_whole : (w : WorldState) (up : Bool) → IsSound w → IsSound (record w { history = written w; batch = None; up = up })
kept_whole w up sound = record {
  legal = rw append-nil sound.legal;
  sent = λ piece i. reserved_left w.history (unwrap_or w.batch []) piece (sound.sent piece i);
  differ = sound.differ;
  cards = sound.cards;
  reserved = λ line i. (let found = sound.reserved line i in
      (found.0, found.1, found.2, found.3, In-left (Reserve found.0 found.1 line.keyset line.counter found.2 line.tar found.3 line.body) w.history (unwrap_or w.batch []) found.4));
  answers = sound.answers;
  own = sound.own;
  given = sound.given;
  reports = λ entry i. sound.reports entry (rw append-nil at i);
}

-- the batch is lost
lost : (w : WorldState) (up : Bool) → IsSound w → IsSound (record w { batch = None; up = up })
lost w up sound = record {
  legal = rw append-nil (legal_history w sound);
  sent = sound.sent;
  differ = sound.differ;
  cards = sound.cards;
  reserved = sound.reserved;
  answers = sound.answers;
  own = sound.own;
  given = sound.given;
  reports = λ entry i. sound.reports entry (In-left entry w.history (unwrap_or w.batch []) (rw append-nil at i));
}

sound_stopped : (w : WorldState) (kept : Bool) → IsSound w → IsSound (stopped w kept)
sound_stopped w true sound = kept_whole w false sound
sound_stopped w false sound = lost w false sound

-- the gateway starts
sound_started : (w : WorldState) → IsSound w → IsSound (started w)
sound_started w sound = record {
  legal = sound.legal;
  sent = sound.sent;
  differ = sound.differ;
  cards = sound.cards;
  reserved = sound.reserved;
  answers = sound.answers;
  own = sound.own;
  given = sound.given;
  reports = sound.reports;
}

-- an answer that is there and passes the test was made
passing : (test : Made → Bool) (made : List Made) (position : ℕ) (o : Option Made) → slice_get made position ≡ o → passes test o ≡ true
    → (m : Made) × In m made × (test m ≡ true)
passing test made position None is h = cc
passing test made position (Some m) is h = (m, slice_get-In made position m is, h)

-- an answer that was given and passes the test was made
given_made : (test : Made → Bool) (made : List Made) (given : List ℕ) → is_given test made given ≡ true → (m : Made) × In m made × (test m ≡ true)
given_made test made given h =
    let found = list_any-In (λ position. passes test (slice_get made position)) given h in
    passing test made found.0 (slice_get made found.0) refl found.2

-- what an answer with these values says
answer_is : (keyset : Keyset) (counter status : ℕ) (answer : List ℕ) (m : Made) → is_answer_with keyset counter status answer m ≡ true
    → (m.keyset ≡ keyset) × (m.counter ≡ counter) × (m.status ≡ status) × (m.answer ≡ answer)
answer_is keyset counter status answer m h =
    let a = and_parts (is_same_keyset m.keyset keyset && (m.counter == counter) && (m.status == status)) (bytes_eq m.answer answer) h in
    let b = and_parts (is_same_keyset m.keyset keyset && (m.counter == counter)) (m.status == status) a.0 in
    let d = and_parts (is_same_keyset m.keyset keyset) (m.counter == counter) b.0 in
    (is_same_keyset-true m.keyset keyset d.0, grind (arith, nat_tests, d.1), grind (arith, nat_tests, b.1), (bytes_eq-Decides m.answer answer).0 a.1)

-- a line is of the keyset, counter, status and answer of an answer that was made
finished_line : (w : WorldState) (keyset : Keyset) (counter status : ℕ) (answer : List ℕ) → IsSound w
    → (status ≡ 0x00) ⊎ (status ≡ 0x07) ⊎ (status ≡ 0x09) → is_given (is_answer_with keyset counter status answer) w.made w.given ≡ true
    → HasLine w.cards keyset counter (IsFinished status answer)
finished_line w keyset counter status answer sound settling h =
    let found = given_made (is_answer_with keyset counter status answer) w.made w.given h in
    let is = answer_is keyset counter status answer found.0 found.2 in
    let line = sound.answers found.0 found.1 (subst (λ (n : ℕ). (n ≡ 0x00) ⊎ (n ≡ 0x07) ⊎ (n ≡ 0x09)) (sym is.2) settling) in
    (line.0, subst (λ (k : Keyset). In line.0 (log_of w.cards k.card)) is.0 line.1, line.2 ∙ is.0, line.3 ∙ is.1, (line.4.0, line.4.1 ∙ is.2, line.4.2 ∙ is.3))

-- a settlement that is answered is true
answered_true : (w : WorldState) (entry : Entry) → IsSound w
    → ((by moment : ℕ) (keyset : Keyset) (counter status : ℕ) → entry ≡ Refused by moment keyset counter status → (status ≡ 0x07) ⊎ (status ≡ 0x09))
    → is_answered w.made w.given entry ≡ true → IsTrueReport w.cards entry
answered_true w (Open by moment keyset facts) sound legal h = tt
answered_true w (Reserve by moment keyset counter job tar name body) sound legal h = tt
answered_true w (Done by moment keyset counter answer) sound legal h = finished_line w keyset counter 0x00 answer sound (inl refl) h
answered_true w (Refused by moment keyset counter status) sound legal h =
    let settling = legal by moment keyset counter status refl in
    let line = finished_line w keyset counter status [] sound (inr settling) h in
    let found = log_of-In w.cards keyset.card line.0 line.1 in
    let unrun = ((sound.cards found.0 found.1).lines line.0 found.3).unrun (not_zero line.0.status status line.4.1 settling) in
    (line.0, line.1, line.2, line.3, (line.4.1, settling, unrun.0))
  where
    not_zero : (n status : ℕ) → n ≡ status → (status ≡ 0x07) ⊎ (status ≡ 0x09) → n ≢ 0x00
    not_zero n status is settling = elim settling [ inl e ↦ (λ z. omega arith) | inr e ↦ (λ z. omega arith) ]
answered_true w (Close by moment keyset) sound legal h = tt

-- a batch is begun
sound_begun : (w : WorldState) (batch : List Entry) → IsSound w → begin_refusal w batch ≡ None → IsSound (begun w batch)
sound_begun w batch sound allowed =
    let a = both_hold (refused_unless w.up refusal.Down) _ allowed in
    let b = both_hold (refused_unless (is_none w.batch) refusal.BatchOpen) _ a.1 in
    let d = both_hold (option_map refusal.Broken (broken_batch (reverse w.history) batch)) _ b.1 in
    let whole : broken_batch (reverse w.history) batch ≡ None = none_before refusal.Broken (broken_batch (reverse w.history) batch) d.0 in
    let answered : list_all (is_answered w.made w.given) batch ≡ true = holds (list_all (is_answered w.made w.given) batch) refusal.NoAnswer d.1 in
    let legal : IsLegal (w.history ++ batch) = IsLegal-batch w.history batch (legal_history w sound) whole in
    record {
      legal = legal;
      sent = sound.sent;
      differ = sound.differ;
      cards = sound.cards;
      reserved = sound.reserved;
      answers = sound.answers;
      own = sound.own;
      given = sound.given;
      reports = λ entry i. elim (In-cases entry w.history batch i) [
        | inl old ↦ sound.reports entry (In-left entry w.history (unwrap_or w.batch []) old)
        | inr new ↦ answered_true w entry sound
            (λ by moment keyset counter status is. IsLegal-refusal (w.history ++ batch) by moment keyset counter status legal (subst (λ (x : Entry). In x (w.history ++ batch)) is i))
            (list_all-In (is_answered w.made w.given) batch entry answered new)
      ];
    }

-- a piece leaves
sound_left : (w : WorldState) (reservation place : ℕ) → IsSound w → leave_refusal w reservation place ≡ None → IsSound (left w reservation place)
sound_left w reservation place sound allowed = record {
  legal = sound.legal;
  sent = λ piece i. elim (In-cases piece w.sent (option_to_list (option_map (piece_of reservation place) (packet_at w.history reservation))) i) [
    | inl old ↦ sound.sent piece old
    | inr new ↦ leaving (packet_at w.history reservation) refl there.1 piece new
  ];
  differ = sound.differ;
  cards = sound.cards;
  reserved = sound.reserved;
  answers = sound.answers;
  own = sound.own;
  given = sound.given;
  reports = sound.reports;
}
  where
    there : (refused_unless (is_none w.batch) refusal.BatchOpen ≡ None) × (place_refusal place (packet_at w.history reservation) ≡ None)
    there = both_hold (refused_unless (is_none w.batch) refusal.BatchOpen) (place_refusal place (packet_at w.history reservation))
        (both_hold (refused_unless w.up refusal.Down) _ allowed).1

    leaving : (o : Option Packet) → packet_at w.history reservation ≡ o → place_refusal place o ≡ None → (piece : Sent)
        → In piece (option_to_list (option_map (piece_of reservation place) o)) → IsReserved w.history piece
    leaving None is within piece h = absurd h
    leaving (Some packet) is within piece h =
        (let places : (nat_le 1 place && nat_le place (pieces_of packet)) ≡ true = holds (nat_le 1 place && nat_le place (pieces_of packet)) refusal.BadPlace within in
        let parts = and_parts (nat_le 1 place) (nat_le place (pieces_of packet)) places in
        elim h [
          | inl e ↦ rw e (packet, is, refl, grind (arith, nat_tests, parts.0), grind (arith, nat_tests, parts.1))
          | inr none ↦ absurd none
        ])

-- an answer reaches the gateway
sound_gave : (w : WorldState) (position : ℕ) → IsSound w → give_refusal w position ≡ None → IsSound (gave w position)
sound_gave w position sound allowed =
    let a = both_hold (refused_unless w.up refusal.Down) (refused_unless (nat_lt position (length w.made)) refusal.NoAnswer) allowed in
    let there : nat_lt position (length w.made) ≡ true = holds (nat_lt position (length w.made)) refusal.NoAnswer a.1 in
    let within : position < length w.made = grind (arith, nat_tests, there) in
    record {
      legal = sound.legal;
      sent = sound.sent;
      differ = sound.differ;
      cards = sound.cards;
      reserved = sound.reserved;
      answers = sound.answers;
      own = sound.own;
      reports = sound.reports;
      given = λ other i. elim (In-push_cases other w.given position i) [
        | inl old ↦ sound.given other old
        | inr new ↦ rw new within
      ];
    }

-- each event that is allowed keeps a world sound
pub IsSound-step : (w : WorldState) (happening : Event) → IsSound w → IsAllowed w happening → IsSound (world_step w happening)
IsSound-step w (event.Begin batch) sound allowed = sound_begun w batch sound allowed
IsSound-step w event.Seal sound allowed = kept_whole w w.up sound
IsSound-step w (event.Leave reservation place) sound allowed = sound_left w reservation place sound allowed
IsSound-step w (event.Deliver card pieces made) sound allowed = sound_delivered w card pieces made sound allowed
IsSound-step w (event.Give position) sound allowed = sound_gave w position sound allowed
IsSound-step w (event.Stop kept) sound allowed = sound_stopped w kept sound
IsSound-step w event.Start sound allowed = sound_started w sound
IsSound-step w (event.PowerCut card) sound allowed = sound

-- whatever an event answers, the world stays sound
pub sound_after : (w v : WorldState) (happening : Event) (result : Result (Unit {0}) NotAllowed) → IsSound w
    → Answers (refusal_of w happening) (may_want_memory happening) (world_step w happening) w v result → IsSound v
sound_after w v happening (Ok done) sound h = subst (λ (x : WorldState). IsSound x) (sym h.1) (IsSound-step w happening sound h.0)
sound_after w v happening (Err named) sound h = subst (λ (x : WorldState). IsSound x) (sym h.1) sound
