-- What a lane keeps when the message that its port gave was taken.
use Rattle.std.proofs.Common.{◌≡◌, inl, inr, ℕ, ◌≤◌, Option, Some, None, List, [], ◌∷◌, ◌++◌, length, drop, map, reverse, refl, sym, ◌∙◌, ap, subst, arith, append-nil, ⊎_elim}
use Rattle.std.proofs.lemmas.List.{append_cancel_left, drop-append-le, map-append, reverse-append}
use Rattle.disk_model.specs.Counts.{Counts}
use Rattle.disk_model.specs.Disk.{Meaning, DiskRun, image_now}
use Rattle.ota_core.specs.History.{broken_batch}
use Rattle.ota_core.specs.Keyset.{Keyset}
use Rattle.ota_core.specs.Questions.{last_moment}
use Rattle.ota_core.specs.declared.cards.CardId.{CardId}
use Rattle.ota_core.specs.declared.entries.Entry.{Entry}
use Rattle.counter_journal.specs.EntryRanges.{IsHistory}
use Rattle.counter_journal.specs.JournalReading.{Holds}
use Rattle.site_model.specs.Cards.{port_at, port_now}
use Rattle.site_model.specs.Port.{PortState}
use Rattle.sms_segments.specs.Assembled.{OfCard, answer_to, assembled, packet_in}
use Rattle.sms_segments.specs.declared.assembling.Push.TheVariants as push
use Rattle.world_core.specs.Members.{In}
use Rattle.world_core.specs.MemberLaws.{In-left, In-right, In-cases}
use Rattle.world_core.specs.declared.lines.Line.{Line}
use Rattle.lane_engine.specs.Kept.{KeptFair, IsFair, WasDue, WasGiven, IsByReceipt, AreGiven, AreRisen, IsSettled}
use Rattle.lane_engine.specs.Opening.{Opening}
use Rattle.lane_engine.specs.Polling.{settlements}
use Rattle.lane_engine.specs.Receipts.{RESPONSE, Response, due_in, message_of, past_of, response_at, settlement_of}
use Rattle.lane_engine.specs.Sound.{IsSoundState}
use Rattle.lane_engine.specs.Unforged.{made_as}
use Rattle.lane_engine.proofs.AddingLemmas.{state_held}
use Rattle.lane_engine.proofs.AppendLemmas.{IsWithBatch}
use Rattle.lane_engine.proofs.AskedLemmas.{KeptAsked}
use Rattle.lane_engine.proofs.DueLemmas.{IsDue, push_due, settlement_legal}
use Rattle.lane_engine.proofs.KeptLemmas.{response_more, sound_on, given_on, due_before, given_more, given_stands, sound_in, AreSoundIn}
use Rattle.lane_engine.proofs.SettledLemmas.{state_settled}

-- the past of one message more
pub past_of-push : (messages : List (CardId × List ℕ)) (message : CardId × List ℕ) → past_of (messages ++ message ∷ []) ≡ message_of message ∷ past_of messages
past_of-push messages message =
    ap (λ (l : List OfCard). reverse l) (map-append message_of messages (message ∷ [])) ∙ reverse-append (map message_of messages) (message_of message ∷ [])

-- what is due by the newest of these messages
abbrev due_with : List Entry → List OfCard → Option Response
due_with entries [] = None
due_with entries (message ∷ past) = due_in entries past message

-- what opens of a packet that the last message made whole was made by its card
pub made_given : {D B C : Type 0} (told : Meaning D B C) (counts : D → Counts) (port : B → PortState) (lines : C → ℕ → List Line) (opening : Opening) (site : D) (entries : List Entry)
    → opening.clock ≤ told.clock site → IsHistory opening.lane opening.lanes entries → ((image : List ℕ) → image_now told site image → Holds opening.lane opening.lanes entries image) → image_now told site (told.seen site)
    → (messages : List (CardId × List ℕ)) (message : CardId × List ℕ) → AreGiven told counts port lines opening site (told.clock site) (messages ++ message ∷ []) → IsFair told counts port lines opening site
    → (packet : List ℕ) → answer_to RESPONSE (past_of messages) (message_of message) ≡ push.Whole packet → (kvn : ℕ) (response : Response) → response_at entries message.0 packet kvn ≡ Some response
    → In (made_as message.0 response) (port_now told port lines site).made
made_given told counts port lines opening site entries later is held seen messages message given fair packet whole kvn response says =
    let of : OfCard = record { card = message.0; octets = packet } in
    let last : In of (packet_in message.0 (answer_to RESPONSE (past_of messages) (message_of message))) = rw whole (inl refl) in
    let among : In of (assembled RESPONSE (message_of message ∷ past_of messages)) = In-right of (assembled RESPONSE (past_of messages)) (packet_in message.0 (answer_to RESPONSE (past_of messages) (message_of message))) last in
    fair.unforged.answered (told.clock site) later (omega arith) (told.seen site) entries seen (inr (is, held (told.seen site) seen)) (messages ++ message ∷ []) given of kvn response
    (subst (λ (past : List OfCard). In of (assembled RESPONSE past)) (sym (past_of-push messages message)) among) says

module _ {D B C : Type 0} (told : Meaning D B C) (counts : D → Counts) (port : B → PortState) (lines : C → ℕ → List Line) (opening : Opening) (old new : D)
    (entries : List Entry) (by moment : ℕ) (messages : List (CardId × List ℕ)) (message : CardId × List ℕ) where
  -- the receipt that is due
  abbrev pub last_due : Option Response
  last_due = due_in entries (past_of messages) (message_of message)

  abbrev pub batch : List Entry
  batch = settlements by moment last_due

  module _ (run : DiskRun told old new (IsWithBatch opening.lane opening.lanes entries batch)) (later : opening.clock ≤ told.clock old)
      (given : AreGiven told counts port lines opening old (told.clock old) (messages ++ message ∷ [])) (asked : KeptAsked told counts port lines opening old entries) where
    -- a receipt that isn't settled yet is the one of the last message
    last_is : (response : Response) (was : WasDue told counts port lines opening old response) → AreGiven told counts port lines opening old (told.clock old) (was.before ++ was.message ∷ [])
        → due_in entries (past_of was.before) (message_of was.message) ≡ Some response → last_due ≡ Some response
    last_is response was also due =
        let same : messages ++ message ∷ [] ≡ was.before ++ was.message ∷ [] = append_cancel_left (port_at told port lines old opening.clock).given (messages ++ message ∷ []) (was.before ++ was.message ∷ []) (sym given ∙ also) in
        let pasts : message_of message ∷ past_of messages ≡ message_of was.message ∷ past_of was.before = sym (past_of-push messages message) ∙ ap (λ (l : List (CardId × List ℕ)). past_of l) same ∙ past_of-push was.before was.message in
        ap (due_with entries) pasts ∙ due

    -- it is settled by the batch
    settled_last : (o : Option Response) → last_due ≡ o → (response : Response) → o ≡ Some response → IsSettled (entries ++ batch) response
    settled_last None is response due = cc
    settled_last (Some other) is response due =
        let same : other ≡ response = cc in (
          by,
          moment,
          In-right (settlement_of by moment response) entries batch
              (subst (λ (o : Option Response). In (settlement_of by moment response) (settlements by moment o)) (sym is) (inl (ap (λ (r : Response). settlement_of by moment r) (sym same)))),
        )

    pub all_heard : (response : Response) → WasDue told counts port lines opening new response → IsSettled (entries ++ batch) response
    all_heard response was =
        let before = due_before told counts port lines opening old new run.past later (given_stands told counts port lines opening old new (IsWithBatch opening.lane opening.lanes entries batch) run later) response was in
        ⊎_elim
        (λ is. (is.0, is.1, In-left (settlement_of is.0 is.1 response) entries batch is.2))
        (λ last. settled_last last_due refl response (last_is response before.0 last.0 last.1))
        (asked.settled response before.0)

    -- the settlement is that of a receipt that was given
    by_receipt : (o : Option Response) → last_due ≡ o → (entry : Entry) → In entry (settlements by moment o) → IsByReceipt told counts port lines opening new (entries ++ batch) entry
    by_receipt None is entry i settles = absurd i
    by_receipt (Some response) is entry i settles =
        (let due : IsDue entries message.0 (answer_to RESPONSE (past_of messages) (message_of message)) response = push_due entries message.0 (answer_to RESPONSE (past_of messages) (message_of message)) response is in
        let kvn : due.kvn ≡ response.keyset.kvn = sym (ap (λ (k : Keyset). k.kvn) due.keyset) in (
          response,
          record {
            before = messages;
            message = message;
            after = [];
            given = given_on told counts port lines opening old new run.past later (given_stands told counts port lines opening old new (IsWithBatch opening.lane opening.lanes entries batch) run later) (messages ++ message ∷ []) given;
            packet = due.packet;
            whole = due.whole;
            opens = response_more entries batch message.0 due.packet response.keyset.kvn response (subst (λ (n : ℕ). response_at entries message.0 due.packet n ≡ Some response) kvn due.says);
            receipt = due.receipt;
          },
          (by, moment, first_in entry (settlement_of by moment response) i),
        ))
      where
        first_in : (x y : Entry) → In x (y ∷ []) → x ≡ y
        first_in x y (inl e) = e
        first_in x y (inr none) = absurd none

    pub fair_heard : length opening.entries ≤ length entries → AreSoundIn told counts port lines opening old new (IsWithBatch opening.lane opening.lanes entries batch) run later
        → KeptFair told counts port lines opening new (entries ++ batch)
    fair_heard long during = record {
      sound = sound_on told counts port lines opening old new run.past later asked.sound (sound_in told counts port lines opening old new (IsWithBatch opening.lane opening.lanes entries batch) run later during);
      settled = λ response was. inl (all_heard response was);
      settlements = λ entry i settles. ⊎_elim
          (λ old_one. (
          let found = asked.settlements entry old_one settles in
          (found.0, given_more told counts port lines opening old new run.past later (given_stands told counts port lines opening old new (IsWithBatch opening.lane opening.lanes entries batch) run later) entries batch found.0 found.1, found.2)))
          (λ new_one. by_receipt last_due refl entry new_one settles)
          (In-cases entry (drop (length opening.entries) entries) batch (subst (In entry) (drop-append-le (length opening.entries) entries batch long) i));
    }

    -- after a fault the receipt of the last message may be unsettled
    pub fair_stopped : AreRisen opening.counts (counts new) → AreSoundIn told counts port lines opening old new (IsWithBatch opening.lane opening.lanes entries batch) run later
        → KeptFair told counts port lines opening new entries
    fair_stopped risen during = record {
      sound = sound_on told counts port lines opening old new run.past later asked.sound (sound_in told counts port lines opening old new (IsWithBatch opening.lane opening.lanes entries batch) run later during);
      settled = λ response was. (
          let before = due_before told counts port lines opening old new run.past later (given_stands told counts port lines opening old new (IsWithBatch opening.lane opening.lanes entries batch) run later) response was in
          ⊎_elim
          (λ is. inl is)
          (λ last. inr (
            given_on told counts port lines opening old new run.past later (given_stands told counts port lines opening old new (IsWithBatch opening.lane opening.lanes entries batch) run later) (was.before ++ was.message ∷ [])
                (subst (λ (l : List (CardId × List ℕ)). AreGiven told counts port lines opening old (told.clock old) (l ++ was.message ∷ [])) before.1
                (subst (λ (m : CardId × List ℕ). AreGiven told counts port lines opening old (told.clock old) (before.0.before ++ m ∷ [])) before.2 last.0)),
            risen,
          ))
          (asked.settled response before.0));
      settlements = λ entry i settles. (
          let found = asked.settlements entry i settles in (
            found.0,
            subst (λ (l : List Entry). WasGiven told counts port lines opening new l found.0) (append-nil entries)
                (given_more told counts port lines opening old new run.past later (given_stands told counts port lines opening old new (IsWithBatch opening.lane opening.lanes entries batch) run later) entries [] found.0 found.1),
            found.2,
          ));
    }

    -- each state of the disk's call is sound
    module _ (is : IsHistory opening.lane opening.lanes entries) (held : (image : List ℕ) → image_now told old image → Holds opening.lane opening.lanes entries image) (seen : image_now told old (told.seen old))
        (more : IsHistory opening.lane opening.lanes (entries ++ batch)) (not_earlier : last_moment (reverse entries) ≤ moment) (fair : IsFair told counts port lines opening old) where
      state_seen : (choice : C) → told.choice_at old (told.clock old) choice → IsSoundState opening.lane opening.lanes (told.seen old) (port_now told port lines old) (lines choice)
      state_seen choice chosen = asked.sound (told.clock old) later (omega arith) (told.seen old) choice seen chosen

      with_batch : (o : Option Response) → last_due ≡ o → IsHistory opening.lane opening.lanes (entries ++ settlements by moment o) → (image : List ℕ) (choice : C) → Holds opening.lane opening.lanes (entries ++ settlements by moment o) image
          → told.choice_at old (told.clock old) choice → IsSoundState opening.lane opening.lanes image (port_now told port lines old) (lines choice)
      with_batch None due_is whole image choice holds chosen =
          state_held opening.lane opening.lanes entries (told.seen old) image (port_now told port lines old) (lines choice) is (held (told.seen old) seen) (state_seen choice chosen)
          (subst (λ (l : List Entry). Holds opening.lane opening.lanes l image) (append-nil entries) holds)
      with_batch (Some response) due_is whole image choice holds chosen =
          (let due : IsDue entries message.0 (answer_to RESPONSE (past_of messages) (message_of message)) response = push_due entries message.0 (answer_to RESPONSE (past_of messages) (message_of message)) response due_is in
          let was_made : In (made_as message.0 response) (port_now told port lines old).made = made_given told counts port lines opening old entries later is held seen messages message given fair due.packet due.whole due.kvn response due.says in
          let legal : broken_batch (reverse entries) (settlement_of by moment response ∷ []) ≡ None = rw (settlement_legal entries message.0 (answer_to RESPONSE (past_of messages) (message_of message)) by moment response due not_earlier) refl in
          state_settled opening.lane opening.lanes entries (told.seen old) image (port_now told port lines old) (lines choice) is (held (told.seen old) seen) message.0 (answer_to RESPONSE (past_of messages) (message_of message)) response due by moment not_earlier was_made legal whole
          (state_seen choice chosen) holds)

      pub sound_heard : AreSoundIn told counts port lines opening old new (IsWithBatch opening.lane opening.lanes entries batch) run later
      sound_heard image choice p chosen = ⊎_elim
          (λ holds. state_held opening.lane opening.lanes entries (told.seen old) image (port_now told port lines old) (lines choice) is (held (told.seen old) seen) (state_seen choice chosen) holds)
          (λ holds. with_batch last_due refl more image choice holds chosen) p
