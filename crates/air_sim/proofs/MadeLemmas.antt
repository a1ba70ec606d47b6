-- An answer that a card made is one of its log.
use Rattle.std.specs.Prelude.{◌≡◌, ◌≢◌, ◌⊎◌, ℕ, ◌+◌, ◌==◌, nat_le, nat_lt, Bool, true, false, cond, not, ◌&&◌, ◌||◌, is_none, Option, Some, None, List, [], ◌∷◌, ◌++◌, Result, Ok, Err, refl}
use Rattle.std.specs.Option.{option_map, option_map_or}
use Rattle.std.proofs.Common.{inl, inr, ⊎_elim, sym, ◌∙◌, ap, subst, arith}
use Rattle.aes_modes.specs.KeyPair.{KeyPair}
use Rattle.card_store.specs.Content.{Content, keyset_named, keyset_of, left_of, script_part, stored, took_for}
use Rattle.card_store.specs.Parts.{store_head}
use Rattle.card_store.specs.Replay.{Holds, IsContentOf}
use Rattle.card_store.specs.declared.scripts.Script.{Script}
use Rattle.command_packet.specs.Carried.{carries, kvn_in}
use Rattle.command_packet.specs.declared.opening.Command.{Command}
use Rattle.command_packet.specs.declared.opening.OpenErr.{OpenErr}
use Rattle.command_packet.specs.declared.opening.OpenErr.TheVariants.{Form, UnknownAlgorithm, CcWrong, Padding, Memory}
use Rattle.disk_model.specs.Disk.{Meaning, Tells, image_now}
use Rattle.gate_log.specs.Reading.{Reading, parts_of}
use Rattle.gate_log.specs.Reading.Reading.{Unformatted, NotALog, OtherHead, Damaged, Opened}
use Rattle.ota_core.specs.declared.cards.CardFacts.{CardFacts}
use Rattle.ota_core.specs.declared.cards.CardId.{CardId}
use Rattle.ota_core.specs.declared.keysets.KeysetFacts.{KeysetFacts}
use Rattle.receiving_entity.specs.Card.{CardValue, IsCard, is_passed_over, packet_by, packet_of, to_card}
use Rattle.receiving_entity.specs.Opening.{IsIssued}
use Rattle.receiving_entity.specs.Receiving.{Reaction, Reacts, reaction, reaction_by, reaction_to}
use Rattle.receiving_entity.specs.Receiving.Reaction.{Answers, TakesCommand}
use Rattle.receiving_entity.specs.Taking.{HasAnswered, HasTaken, line_by, line_of, taken}
use Rattle.receiving_entity.specs.Verdict.{is_below_level, keys_of, refusal_of, verdict, verdict_by, verdict_for, verdict_under, verdict_unless}
use Rattle.receiving_entity.specs.declared.verdicts.Verdict.{Verdict}
use Rattle.receiving_entity.specs.declared.verdicts.Verdict.TheVariants.{Unsecured, Refused, Takes}
use Rattle.script_engine.specs.Run.{runs}
use Rattle.script_engine.specs.declared.part.Part.{Part}
use Rattle.site_model.specs.Cards.{IsLineOf, IsTaken}
use Rattle.sms_segments.specs.Assembled.{OfCard, Pieces, answer_by, if_whole, no_pieces, pieces_after, with_piece}
use Rattle.sms_segments.specs.Header.{header_of, octets_behind}
use Rattle.sms_segments.specs.Kept.{kept_in}
use Rattle.sms_segments.specs.declared.assembling.Push.{Push}
use Rattle.sms_segments.specs.declared.concatenations.Concatenation.{Concatenation}
use Rattle.sms_segments.specs.declared.headers.Header.{Header}
use Rattle.sms_segments.specs.declared.headers.Header.TheVariants.{Only, Part as Piece}
use Rattle.world_core.specs.MemberLaws.{In-push}
use Rattle.world_core.specs.Members.{In}
use Rattle.world_core.specs.Receiving.{is_next}
use Rattle.world_core.specs.declared.answers.Made.{Made}
use Rattle.world_core.specs.declared.lines.Line.{Line}
use Rattle.air_sim.specs.Answers.{kept_by, last_of, made_by, made_by_packet, made_by_verdict, made_of_line, packet_with, push_by}
use Rattle.air_sim.specs.CardRuns.{AreLogged, IsLogged, IsStill}
use Rattle.air_sim.specs.Logged.{content_by, content_in, logged}
use Rattle.air_sim.proofs.LogLemmas.{holds_logged}
use Rattle.air_sim.proofs.MeetLemmas.{taken_log, card_seen}

-- ---- a refusal isn't a status of a counter that is used up

not_taken_0A : IsTaken 0x0A → ⊥
not_taken_0A (inl e) = cc
not_taken_0A (inr (inl e)) = cc
not_taken_0A (inr (inr e)) = cc

not_taken_04 : IsTaken 0x04 → ⊥
not_taken_04 (inl e) = cc
not_taken_04 (inr (inl e)) = cc
not_taken_04 (inr (inr e)) = cc

not_taken_02 : IsTaken 0x02 → ⊥
not_taken_02 (inl e) = cc
not_taken_02 (inr (inl e)) = cc
not_taken_02 (inr (inr e)) = cc

not_taken_03 : IsTaken 0x03 → ⊥
not_taken_03 (inl e) = cc
not_taken_03 (inr (inl e)) = cc
not_taken_03 (inr (inr e)) = cc

by_tests : (level blocked low high : Bool) (status : ℕ) → cond level (Some 0x0A) (cond blocked (Some 0x04) (cond low (Some 0x02) (cond high (Some 0x03) None))) ≡ Some status → IsTaken status → ⊥
by_tests true blocked low high status is taken_is = not_taken_0A (subst IsTaken (some_is is) taken_is)
  where
    some_is : Some 0x0A ≡ Some status → status ≡ 0x0A
    some_is e = cc
by_tests false true low high status is taken_is = not_taken_04 (subst IsTaken (some_is is) taken_is)
  where
    some_is : Some 0x04 ≡ Some status → status ≡ 0x04
    some_is e = cc
by_tests false false true high status is taken_is = not_taken_02 (subst IsTaken (some_is is) taken_is)
  where
    some_is : Some 0x02 ≡ Some status → status ≡ 0x02
    some_is e = cc
by_tests false false false true status is taken_is = not_taken_03 (subst IsTaken (some_is is) taken_is)
  where
    some_is : Some 0x03 ≡ Some status → status ≡ 0x03
    some_is e = cc
by_tests false false false false status is taken_is = absurd (none_is is)
  where
    none_is : None ≡ Some status → ⊥
    none_is e = cc

refusal_not_taken : (own : KeysetFacts) (at : ℕ) (command : Command) (status : ℕ) → refusal_of own at command ≡ Some status → IsTaken status → ⊥
refusal_not_taken own at command status is = by_tests (is_below_level own command.spi) (at == 0xFF_FFFF_FFFF) (nat_le command.counter at) (is_next command.spi.mode && nat_lt (at + 1) command.counter) status is

module _ (facts : CardFacts) (content : Content) (packet : List ℕ) (keys : KeyPair) (command : Command) (status : ℕ) where
  unless_not : (own_keys : KeyPair) (own : KeysetFacts) (at : ℕ) (opened : Command) (refusal : Option ℕ) → refusal_of own at opened ≡ refusal → verdict_unless own_keys opened refusal ≡ Refused keys command status → IsTaken status → ⊥
  unless_not own_keys own at opened None is e taken_is = absurd cc
  unless_not own_keys own at opened (Some refused) is e taken_is = refusal_not_taken own at opened refused is (subst IsTaken same taken_is)
    where
      same : status ≡ refused
      same = cc

  by_not : (own : KeysetFacts) (at : ℕ) (carried : Result Command OpenErr) → verdict_by own at packet carried ≡ Refused keys command status → IsTaken status → ⊥
  by_not own at (Ok opened) e taken_is = unless_not (keys_of own) own at opened (refusal_of own at opened) refl e taken_is
  by_not own at (Err CcWrong) e taken_is = absurd cc
  by_not own at (Err Form) e taken_is = absurd cc
  by_not own at (Err UnknownAlgorithm) e taken_is = absurd cc
  by_not own at (Err Padding) e taken_is = absurd cc
  by_not own at (Err Memory) e taken_is = absurd cc

  under_not : (kvn : ℕ) (own : Option KeysetFacts) → verdict_under facts content packet kvn own ≡ Refused keys command status → IsTaken status → ⊥
  under_not kvn None e taken_is = absurd cc
  under_not kvn (Some own) e taken_is = by_not own (stored facts content kvn) (carries (keys_of own) kvn packet) e taken_is

  for_not : (kvn : Option ℕ) → verdict_for facts content packet kvn ≡ Refused keys command status → IsTaken status → ⊥
  for_not None e taken_is = absurd cc
  for_not (Some kvn) e taken_is = under_not kvn (keyset_of facts content.card kvn) e taken_is

  refused_not_taken : verdict facts content packet ≡ Refused keys command status → IsTaken status → ⊥
  refused_not_taken e taken_is = for_not (kvn_in packet) e taken_is

-- ---- the packet

push_same : (kept : Concatenation → Pieces) (past : List OfCard) (card : CardId) (message : List ℕ) (header : Option Header) → ((of : Concatenation) → kept of ≡ pieces_after 0x70 past of)
    → push_by kept card message header ≡ answer_by 0x70 past (record { card = card; octets = message }) header
push_same kept past card message None same = refl
push_same kept past card message (Some Only) same = refl
push_same kept past card message (Some (Piece reference total place)) same =
    ap (λ (pieces : Pieces). if_whole total (with_piece place (octets_behind (Piece reference total place) message) pieces)) (same (record { card = card; reference = reference; total = total }))

last_behind : {X : Type 0} (xs : List X) (x : X) → last_of (xs ++ x ∷ []) ≡ Some x
last_behind [] x = refl
last_behind (y ∷ []) x = refl
last_behind (y ∷ z ∷ xs) x = last_behind (z ∷ xs) x

-- ---- the line

-- where no command of the script is left, its line is finished
finished_line : (facts : CardFacts) (content : Content) (command : Command) (count : ℕ) → (taken facts content command count).script ≡ None → (line_of facts content command count).finished ≡ true
finished_line facts content command count = by_part (script_part facts command.tar command.body)
  where
    ended : (part : Part) (next : Option ℕ) → left_of part command.body next ≡ None → is_none next ≡ true
    ended part None e = refl
    ended part (Some at) e = absurd cc

    by_part : (part : Option Part) → (took_for facts content command.kvn command.counter command.tar command.body count part).script ≡ None → (line_by facts content.card command count part).finished ≡ true
    by_part None e = refl
    by_part (Some part) e = ended part (runs content.card part command.body count).next e

line_keyset : (facts : CardFacts) (content : Content) (command : Command) (count : ℕ) → ((line_of facts content command count).keyset ≡ keyset_named facts command.kvn) × ((line_of facts content command count).counter ≡ command.counter)
line_keyset facts content command count = by_part (script_part facts command.tar command.body)
  where
    by_part : (part : Option Part) → ((line_by facts content.card command count part).keyset ≡ keyset_named facts command.kvn) × ((line_by facts content.card command count part).counter ≡ command.counter)
    by_part None = (refl, refl)
    by_part (Some part) = (refl, refl)

-- ---- the answer

module _ {D B C : Type 0} (told : Meaning D B C) (seen_is_image : (disk : D) → Tells told disk → image_now told disk (told.seen disk))
    (card after : CardValue D) (content : Content) (past : List OfCard) (message : List ℕ) (messages : List (List ℕ))
    (tells : Tells told card.store.disk) (told_after : Tells told after.store.disk) (is : IsCard told card content past)
    (reacts : Reacts told card.store after.store content (reaction card.store.facts content past message) after.off (Ok messages)) where
  abbrev facts : CardFacts
  facts = card.store.facts

  abbrev lines : List Line
  lines = logged facts (told.seen after.store.disk)

  -- the line of a command that was taken and answered
  answered_line : (keys : KeyPair) (command : Command) → HasAnswered told card.store after.store content command keys messages → (made : Made) → In made (option_map_or (made_of_line facts command) (last_of lines) []) → IsLogged told card after made
  answered_line keys command answered made there = record {
    of_card = ap (λ (m : Made). m.card) made_is;
    of_keyset = ap (λ (m : Made). m.keyset.card) made_is;
    stands = λ taken_is image now. (
      (line_of facts content command answered.executed),
      subst (In (line_of facts content command answered.executed)) (sym (log_is image now)) (In-push content.log (line_of facts content command answered.executed)),
      record {
        keyset = (line_keyset facts content command answered.executed).0 ∙ sym (ap (λ (m : Made). m.keyset) made_is);
        counter = (line_keyset facts content command answered.executed).1 ∙ sym (ap (λ (m : Made). m.counter) made_is);
        finished = finished_line facts content command answered.executed (ap (λ (c : Content). c.script) (sym answered.has_taken.is) ∙ answered.has_taken.ended);
        status = sym (ap (λ (m : Made). m.status) made_is);
        answer = sym (ap (λ (m : Made). m.answer) made_is);
      },
    );
  }
    where
      log_is : (image : List ℕ) → image_now told after.store.disk image → logged facts image ≡ content.log ++ (line_of facts content command answered.executed) ∷ []
      log_is image now =
          holds_logged facts answered.after image (answered.durable tells image now)
          ∙ ap (λ (c : Content). c.log) answered.has_taken.is ∙ taken_log facts content command answered.executed

      last_is : last_of lines ≡ Some (line_of facts content command answered.executed)
      last_is = ap last_of (log_is (told.seen after.store.disk) (seen_is_image after.store.disk told_after)) ∙ last_behind content.log (line_of facts content command answered.executed)

      only : (m x : Made) → In m (x ∷ []) → m ≡ x
      only m x (inl e) = e
      only m x (inr none) = absurd none

      made_is : made ≡ record { card = facts.card; keyset = keyset_named facts command.kvn; counter = command.counter; status = (line_of facts content command answered.executed).status; answer = (line_of facts content command answered.executed).answer }
      made_is = only made (record { card = facts.card; keyset = keyset_named facts command.kvn; counter = command.counter; status = (line_of facts content command answered.executed).status; answer = (line_of facts content command answered.executed).answer })
          (subst (λ (l : Option Line). In made (option_map_or (made_of_line facts command) l [])) last_is there)

  takes_answered : (keys : KeyPair) (command : Command) (off : Bool) → Reacts told card.store after.store content (TakesCommand keys command) off (Ok messages) → HasAnswered told card.store after.store content command keys messages
  takes_answered keys command false answered = answered
  takes_answered keys command true none = absurd none

  by_verdict : (packet : List ℕ) (found : Verdict) → verdict facts content packet ≡ found → Reacts told card.store after.store content (reaction_to found) after.off (Ok messages) → (made : Made) → In made (made_by_verdict facts lines found) → IsLogged told card after made
  by_verdict packet (Unsecured status tar counter) found reacted made there = absurd there
  by_verdict packet (Refused keys command status) found reacted made (inr none) = absurd none
  by_verdict packet (Refused keys command status) found reacted made (inl made_is) = record {
    of_card = ap (λ (m : Made). m.card) made_is;
    of_keyset = ap (λ (m : Made). m.keyset.card) made_is;
    stands = λ taken_is. absurd (refused_not_taken facts content packet keys command status found (subst IsTaken (ap (λ (m : Made). m.status) made_is) taken_is));
  }
  by_verdict packet (Takes keys command) found reacted made there = answered_line keys command (takes_answered keys command after.off reacted) made there

  by_packet : (packet : Option (List ℕ)) → Reacts told card.store after.store content (reaction_by facts content packet) after.off (Ok messages) → (made : Made) → In made (made_by_packet facts lines (Some content) packet) → IsLogged told card after made
  by_packet None reacted made there = absurd there
  by_packet (Some packet) reacted made there = by_verdict packet (verdict facts content packet) refl reacted made there

  -- the same of what the card was before it came back
  module _ (before : CardValue D) (still : IsStill told before card content past) where
    packet_same : packet_with (kept_by before) facts message ≡ packet_by facts past message
    packet_same = ap (λ (push : Push). cond (is_passed_over facts message) None (packet_of push)) (push_same (kept_by before) past facts.card message (header_of 0x70 message) still.kept)

    by_told : (tells_it : Bool) → (made : Made) → In made (cond tells_it (made_by_packet facts lines (content_in facts (told.seen before.store.disk)) (packet_with (kept_by before) facts message)) []) → IsLogged told card after made
    by_told false made there = absurd there
    by_told true made there =
        by_packet (packet_by facts past message) reacts made
        (subst (λ (p : Option (List ℕ)). In made (made_by_packet facts lines (Some content) p)) packet_same
        (subst (λ (c : Option Content). In made (made_by_packet facts lines c (packet_with (kept_by before) facts message))) still.opens there))

    pub answer_logged : AreLogged told before after message
    answer_logged made there =
        let logged_it = by_told (told.tells after.store.disk) made
        (subst (λ (own : CardFacts). In made (cond (told.tells after.store.disk) (made_by_packet own (logged own (told.seen after.store.disk)) (content_in own (told.seen before.store.disk)) (packet_with (kept_by before) own message)) [])) still.facts there) in
        record {
          of_card = logged_it.of_card ∙ ap (λ (own : CardFacts). own.card) (sym still.facts);
          of_keyset = logged_it.of_keyset ∙ ap (λ (own : CardFacts). own.card) (sym still.facts);
          stands = λ taken_is image now.
              let found = logged_it.stands taken_is image now in
              (found.0, subst (λ (own : CardFacts). In found.0 (logged own image)) (sym still.facts) found.1, found.2);
        }

-- ---- what a card was before

module _ {D B C : Type 0} (told : Meaning D B C) (seen_is_image : (disk : D) → Tells told disk → image_now told disk (told.seen disk)) where
  -- a card that isn't off
  pub still_same : (card : CardValue D) (content : Content) (past : List OfCard) → Tells told card.store.disk → IsCard told card content past → IsStill told card card content past
  still_same card content past tells is = record {
    facts = refl;
    opens = (let holds = card_seen told seen_is_image card content past tells is in ap (content_by card.store.facts) holds.opens.1 ∙ holds.replays);
    kept = λ of. ap (λ (off : Bool). cond off no_pieces (kept_in card.kept.pieces of)) is.on ∙ is.kept of;
  }

  -- one that was restarted
  pub still_restarted : (before card : CardValue D) → before.off ≡ true → card.store.facts ≡ before.store.facts → (issued_is : IsIssued told (told.seen before.store.disk) card) → IsStill told before card issued_is.content []
  still_restarted before card off facts issued_is = record {
    facts = sym facts;
    opens = by_reading card.store.facts (parts_of store_head (told.seen before.store.disk)) issued_is.content issued_is.was;
    kept = λ of. ap (λ (o : Bool). cond o no_pieces (kept_in before.kept.pieces of)) off;
  }
    where
      by_reading : (own : CardFacts) (reading : Reading) (content : Content) → IsContentOf own reading content → content_by own reading ≡ Some content
      by_reading own Unformatted content was = ap (λ (c : Content). Some c) (sym was)
      by_reading own NotALog content was = absurd was
      by_reading own (OtherHead rest) content was = absurd was
      by_reading own (Damaged parts) content was = absurd was
      by_reading own (Opened parts behind) content was = was
