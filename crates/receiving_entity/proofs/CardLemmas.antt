-- What a card's calls leave.
use Rattle.std.proofs.Common.{◌≡◌, inr, ℕ, ◌+◌, ◌-◌, ◌/◌, ◌%◌, ◌≤◌, nat_le, map, Bool, true, false, cond, is_some, Result, Ok, Err, Option, Some, None, List, [], ◌∷◌, length, refl, sym, ap, ◌∙◌, subst, arith}
use Rattle.std.specs.Prelude.{◌↔◌, IfOk, Vec}
use Rattle.std.proofs.lemmas.List.FromFn.{length-map-range_with_len}
use Rattle.arrayvec.specs.ArrayVec.{ArrayVec}
use Rattle.ota_core.specs.declared.references.Reference.TheVariants.{Short}
use Rattle.response_packet.specs.Response.{plain_octets, response_octets}
use Rattle.sms_segments.specs.Cut.{piece_of, pieces_count}
use Rattle.card_store.specs.Content.{Content}
use Rattle.card_store.specs.Parts.{store_head}
use Rattle.card_store.specs.Replay.{Holds, IsContentOf}
use Rattle.card_store.specs.Store.{StoreValue, StandsFor, IsOpenedStore}
use Rattle.disk_model.specs.Disk.{Meaning, Tells, DiskRun, image_now}
use Rattle.disk_model.specs.Runs.{at_once}
use Rattle.gate_log.specs.Reading.{Reading, parts_of}
use Rattle.gate_log.specs.Reading.Reading.{Opened}
use Rattle.ota_core.specs.declared.cards.CardFacts.{CardFacts}
use Rattle.sms_segments.specs.Assembled.{OfCard, answer_to}
use Rattle.sms_segments.specs.declared.assembling.Push.{Push}
use Rattle.sms_segments.specs.Kept.{Keeps, Pile}
use Rattle.receiving_entity.specs.Card.{CardValue, is_passed_over, packet_by, packet_of, past_with, to_card}
use Rattle.receiving_entity.specs.Receiving.{IsOnTheWay, KeepsAfter, Reaction, Reacts, octets_in, reaction, reaction_by, reaction_to}
use Rattle.receiving_entity.specs.Opening.{IsIssued}
use Rattle.receiving_entity.specs.Answer.{messages_of, octets_of}
use Rattle.receiving_entity.specs.Taking.{line_of}
use Rattle.receiving_entity.specs.Verdict.{verdict}
use Rattle.receiving_entity.specs.declared.verdicts.Verdict.{Verdict}
use Rattle.receiving_entity.specs.declared.verdicts.Verdict.TheVariants.{Unsecured, Refused, Takes}
use Rattle.receiving_entity.specs.declared.card_errors.CardErr.{CardErr}
use Rattle.receiving_entity.specs.declared.card_errors.CardErr.TheVariants as card_err
use Rattle.receiving_entity.specs.Receiving.Reaction.{Answers, TakesCommand}
use Rattle.receiving_entity.proofs.TakeLemmas.{holds_now}

module _ {D B C : Type 0} (told : Meaning D B C) (store : StoreValue D) (content : Content) (stands : StandsFor told store content) (ready : store.ready ≡ true) (tells : Tells told store.disk) where
  on_way : (reaction : Reaction) (image : List ℕ) → image_now told store.disk image → IsOnTheWay store.facts content reaction image
  on_way (Answers messages) image is = holds_now told store content stands ready tells image is
  on_way (TakesCommand keys command) image is = (0, holds_now told store content stands ready tells image is)

  -- a call without device calls is on the way
  pub stays : (reaction : Reaction) → DiskRun told store.disk store.disk (IsOnTheWay store.facts content reaction)
  stays reaction = at_once told store.disk (IsOnTheWay store.facts content reaction) (on_way reaction)

-- ---- what a message brings

module _ (facts : CardFacts) (past : List OfCard) (message : List ℕ) (taken : is_passed_over facts message ≡ false) where
  pub packet_is : (push : Push) → push ≡ answer_to 0x70 past (to_card facts message) → packet_by facts past message ≡ packet_of push
  packet_is push is = ap (λ b. cond b None (packet_of (answer_to 0x70 past (to_card facts message)))) taken ∙ ap packet_of (sym is)

  pub past_is : past_with facts past message ≡ to_card facts message ∷ past
  past_is = ap (λ b. cond b past (to_card facts message ∷ past)) taken

  whole_kept : {D T : Type 0} (new : CardValue D) (off : Bool) (result : Result T CardErr) → is_some (packet_by facts past message) ≡ true
      → Keeps 0x70 (past_with facts past message) new.kept.pieces → KeepsAfter facts past message new off result
  whole_kept new true result whole keeps = tt
  whole_kept new false (Ok value) whole keeps = keeps
  whole_kept new false (Err card_err.Memory) whole keeps = inr (whole, keeps)
  whole_kept new false (Err card_err.PowerCut) whole keeps = keeps
  whole_kept new false (Err (card_err.Full at need)) whole keeps = keeps
  whole_kept new false (Err card_err.Off) whole keeps = keeps

  module _ (inner : CardFacts) (same : facts ≡ inner) (element : ℕ) (is : element ≡ 0x70) (before after : Pile) (kept : Keeps 0x70 past before) (push : Push)
      (answer : Keeps element past before → push ≡ answer_to element past (record { card = inner.card; octets = message }))
      (keeps : Keeps element past before → Keeps element (record { card = inner.card; octets = message } ∷ past) after) where
    before_kept : Keeps element past before
    before_kept = subst (λ el. Keeps el past before) (sym is) kept

    pub push_is : packet_by facts past message ≡ packet_of push
    push_is =
        packet_is push (subst (λ (f : CardFacts). push ≡ answer_to 0x70 past (to_card f message)) (sym same)
        (subst (λ el. push ≡ answer_to el past (record { card = inner.card; octets = message })) is (answer before_kept)))

    pub after_kept : Keeps 0x70 (past_with facts past message) after
    after_kept =
        subst (λ ps. Keeps 0x70 ps after) (sym past_is)
        (subst (λ (f : CardFacts). Keeps 0x70 (to_card f message ∷ past) after) (sym same)
        (subst (λ el. Keeps el (record { card = inner.card; octets = message } ∷ past) after) is (keeps before_kept)))

    pub keeps_whole : {D T : Type 0} (new : CardValue D) (result : Result T CardErr) → new.kept.pieces ≡ after → is_some (packet_of push) ≡ true → KeepsAfter facts past message new new.off result
    keeps_whole new result left whole =
        whole_kept new new.off result (ap is_some push_is ∙ whole) (subst (λ a. Keeps 0x70 (past_with facts past message) a) (sym left) after_kept)

    -- a message that makes no packet whole is answered by nothing
    pub nothing_is : (content : Content) → packet_of push ≡ None → reaction facts content past message ≡ Answers []
    nothing_is content none = ap (reaction_by facts content) (push_is ∙ none)

-- ---- a restart

same_content : (a b : Content) → Some a ≡ Some b → a ≡ b
same_content a b e = cc

-- octets that hold a card stand for it alone
pub content_is : (facts : CardFacts) (octets : List ℕ) (content other : Content) → Holds facts content octets → IsContentOf facts (parts_of store_head octets) other → other ≡ content
content_is facts octets content other holds is =
    let read : IsContentOf facts (Opened holds.parts holds.opens.0) other = subst (λ (r : Reading). IsContentOf facts r other) holds.opens.1 is in
    same_content other content (sym read ∙ holds.replays)

-- ---- answers that are empty

some_count : (b : Bool) (n : ℕ) → 1 ≤ cond b 1 (1 + n)
some_count true n = omega arith
some_count false n = omega arith

some_messages : (packet : List ℕ) (counter : ℕ) → messages_of packet counter ≡ [] → ⊥
some_messages packet counter none =
    let f = piece_of packet 0x71 (Short (counter % 256)) in
    let few : 0 ≡ pieces_count (length packet) false = ap length (sym none) ∙ length-map-range_with_len f 1 (pieces_count (length packet) false) in
    absurd (omega (arith, few, some_count (nat_le (length packet) 137) ((length packet - 132 + 133) / 134)))

no_items : {X Y : Type 0} (f : X → Y) (xs : List X) → map f xs ≡ [] → xs ≡ []
no_items f [] e = refl
no_items f (x ∷ xs) e = cc

module _ {D B C : Type 0} (told : Meaning D B C) (old new : StoreValue D) (content : Content) (facts : CardFacts) where
  never_empty : (found : Verdict) (off : Bool) (made : List (List ℕ)) → Reacts told old new content (reaction_to found) off (Ok made) → made ≡ [] → ⊥
  never_empty (Unsecured status tar counter) false made reacts none = some_messages (plain_octets tar counter status) counter (sym reacts.0 ∙ none)
  never_empty (Unsecured status tar counter) true made reacts none = reacts
  never_empty (Refused keys command status) false made reacts none =
      some_messages (response_octets keys command.spi.answer_ciphered command.tar command.counter status []) command.counter (sym reacts.0 ∙ none)
  never_empty (Refused keys command status) true made reacts none = reacts
  never_empty (Takes keys command) false made reacts none =
      let line = line_of old.facts content command reacts.executed in
      some_messages (response_octets keys command.spi.answer_ciphered command.tar command.counter line.status line.answer) command.counter (sym reacts.answer ∙ none)
  never_empty (Takes keys command) true made reacts none = reacts

  empty_by : (o : Option (List ℕ)) (off : Bool) (messages : List (ArrayVec ℕ)) → Reacts told old new content (reaction_by facts content o) off (Ok (octets_of messages)) → (messages ≡ [] ↔ o ≡ None)
  empty_by None false messages reacts = (λ e. refl, λ e. no_items (λ m. m.items) messages reacts.0)
  empty_by None true messages reacts = absurd reacts
  empty_by (Some packet) off messages reacts =
      (λ e. absurd (never_empty (verdict facts content packet) off (octets_of messages) reacts (ap octets_of e)), λ e. cc)

  pub empty_is : {A : Type 0} (o : Option (List ℕ)) (off : Bool) (result : Result (Vec (ArrayVec ℕ) A) CardErr) → Reacts told old new content (reaction_by facts content o) off (octets_in result)
      → IfOk result (λ messages. messages.items ≡ [] ↔ o ≡ None)
  empty_is o off (Ok messages) reacts = empty_by o off messages.items reacts
  empty_is o off (Err error) reacts = tt

-- ---- a card that is issued or restarted

pub issued_is : {D B C : Type 0} (told : Meaning D B C) (octets : List ℕ) (card : CardValue D) → card.off ≡ false → card.store.ready ≡ true → Keeps 0x70 [] card.kept.pieces → IsOpenedStore told octets card.store → IsIssued told octets card
issued_is told octets card on ready keeps opened = record {
  content = opened.content;
  stands = record { on = on; ready = ready; store = opened.stands; kept = keeps };
  was = opened.was;
  left = opened.left;
}
