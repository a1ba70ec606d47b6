-- Pieces that are handed over one after the other.
use Rattle.std.specs.Prelude.{◌≡◌, ◌⊎◌, ◌≤◌, ◌<◌, ℕ, ◌+◌, Option, Some, None, List, [], ◌∷◌, ◌++◌, length, map, slice_get, Result, Ok, Err, refl}
use Rattle.std.specs.Option.{option_map}
use Rattle.std.proofs.Common.{inl, inr, arith, sym, ◌∙◌, ap, subst, length-append}
use Rattle.std.proofs.lemmas.List.{append-nil, length-map, map-append}
use Rattle.arrayvec.specs.ArrayVec.{ArrayVec}
use Rattle.disk_model.specs.Counts.{Counts}
use Rattle.disk_model.specs.Disk.{Meaning}
use Rattle.ota_core.specs.declared.cards.CardId.{CardId}
use Rattle.ota_core.specs.declared.wants.Memory.{Memory}
use Rattle.receiving_entity.specs.Answer.{octets_of}
use Rattle.receiving_entity.specs.Card.{CardValue}
use Rattle.site_model.specs.declared.departures.Departure.{Departure}
use Rattle.air_sim.specs.declared.parts.Parts.{Parts}
use Rattle.air_sim.specs.declared.schedules.Cut.{Cut}
use Rattle.air_sim.specs.Cards.{card_of}
use Rattle.air_sim.specs.Handing.{CardMeets, Handing, HandsMessage, HandsOver, HandsOverAll, HandsPiece, IsReplyOf, MeetsIn, PieceMeets, addressed_by, joined_by, messages_by, octets_with_cards}
use Rattle.air_sim.specs.Messages.{KeepsAnswer, Message, MessagesValue, with_answer}
use Rattle.air_sim.specs.Polls.{AreSilent, AreSilentButLast, EndsInWant, HaveReplies, InOrderFrom}

-- ---- one more of a list

pub order_more : (position : ℕ) (handings : List Handing) (handing : Handing) → InOrderFrom position handings → handing.position ≡ position + length handings → handing.cut ≡ None → InOrderFrom position (handings ++ handing ∷ [])
order_more position [] handing all at cut = (omega (arith, at), cut, tt)
order_more position (first ∷ handings) handing all at cut = (all.0, all.1, order_more (position + 1) handings handing all.2 (omega (arith, at)) cut)

pub silent_more : (handings : List Handing) (handing : Handing) → AreSilent handings → handing.reply ≡ Some [] → AreSilent (handings ++ handing ∷ [])
silent_more [] handing all one = (one, tt)
silent_more (first ∷ handings) handing all one = (all.0, silent_more handings handing all.1 one)

pub silent_last : (handings : List Handing) (handing : Handing) → AreSilent handings → AreSilentButLast (handings ++ handing ∷ [])
silent_last [] handing all = tt
silent_last (first ∷ []) handing all = (all.0, tt)
silent_last (first ∷ second ∷ handings) handing all = (all.0, silent_last (second ∷ handings) handing all.1)

pub silent_throughout : (handings : List Handing) → AreSilent handings → AreSilentButLast handings
silent_throughout [] all = tt
silent_throughout (first ∷ []) all = tt
silent_throughout (first ∷ second ∷ handings) all = (all.0, silent_throughout (second ∷ handings) all.1)

pub have_silent : (handings : List Handing) → AreSilent handings → HaveReplies handings
have_silent [] all = tt
have_silent (first ∷ handings) all = (([], all.0), have_silent handings all.1)

pub have_more : (handings : List Handing) (handing : Handing) → HaveReplies handings → (messages : List (List ℕ)) × (handing.reply ≡ Some messages) → HaveReplies (handings ++ handing ∷ [])
have_more [] handing all one = (one, tt)
have_more (first ∷ handings) handing all one = (all.0, have_more handings handing all.1 one)

pub want_last : (handings : List Handing) (handing : Handing) → handing.reply ≡ None → EndsInWant (handings ++ handing ∷ [])
want_last [] handing want = want
want_last (first ∷ []) handing want = want
want_last (first ∷ second ∷ handings) handing want = want_last (second ∷ handings) handing want

some_same : {X : Type 0} (a b : X) → Some a ≡ Some b → a ≡ b
some_same a b e = cc

empty_of : {X : Type 0} (xs : List X) → length xs ≤ 0 → xs ≡ []
empty_of [] le = refl
empty_of (x ∷ xs) le = absurd (omega (arith, le))

module _ {D B C : Type 0} (told : Meaning D B C) (counts : D → Counts) where
  pub hands_more : (before : Parts D B C) (handings : List Handing) (mid after : Parts D B C) (handing : Handing) → HandsOverAll told counts before handings mid → HandsOver told counts mid after handing → HandsOverAll told counts before (handings ++ handing ∷ []) after
  hands_more before [] mid after handing all one = (after, subst (λ (p : Parts D B C). HandsOver told counts p after handing) all one, refl)
  hands_more before (first ∷ handings) mid after handing all one = (all.0, all.1, hands_more all.0 handings mid after handing all.2 one)

  -- ---- how many messages the cards made

  module _ (before after : Parts D B C) (handing : Handing) (hands : HandsOver told counts before after handing) where
    abbrev addressed : Option (CardId × List ℕ)
    addressed = addressed_by (slice_get before.sent.items handing.position)

    made_more : length after.messages.items ≡ length before.messages.items + length (joined_by addressed handing.reply)
    made_more =
        omega (
          arith,
          ap (λ (l : List (CardId × List ℕ)). length l) hands.messages,
          length-append (octets_with_cards before.messages.items) (joined_by addressed handing.reply),
          length-map {B = CardId × List ℕ} after.messages.items (λ (message : Message). (message.0, message.1.items)),
          length-map {B = CardId × List ℕ} before.messages.items (λ (message : Message). (message.0, message.1.items)),
        )

    pub never_fewer : length before.messages.items ≤ length after.messages.items
    never_fewer = omega (arith, made_more)

    -- a piece behind which there are no more messages was answered by none
    pub silent_if : (messages : List (List ℕ)) → handing.reply ≡ Some messages → length after.messages.items ≤ length before.messages.items → handing.reply ≡ Some []
    silent_if messages is few = by_addressed addressed hands.meets (omega (arith, made_more, few))
      where
        by_addressed : (o : Option (CardId × List ℕ)) → PieceMeets told counts before.cards.items after.cards.items o handing.cut handing.reply → length (joined_by o handing.reply) ≤ 0 → handing.reply ≡ Some []
        by_addressed None meets none = meets.1
        by_addressed (Some it) meets none =
            let joined : length (messages_by it.0 (Some messages)) ≤ 0 = subst (λ (r : Option (List (List ℕ))). length (messages_by it.0 r) ≤ 0) is none in
            is ∙ ap (λ (l : List (List ℕ)). Some l) (empty_of messages (omega (arith, joined, length-map {B = CardId × List ℕ} messages (λ (message : List ℕ). (it.0, message)))))

  -- ---- one piece

  -- it isn't there, or no message carries it
  pub piece_dropped : (parts : Parts D B C) (position : ℕ) (cut : Option Cut) → addressed_by (slice_get parts.sent.items position) ≡ None → HandsPiece told counts parts parts position cut (Ok tt)
  piece_dropped parts position cut none = record {
    reply = Some [];
    is = ([], refl);
    hands = record {
      journal = refl;
      sent = refl;
      meets = subst (λ (o : Option (CardId × List ℕ)). PieceMeets told counts parts.cards.items parts.cards.items o cut (Some [])) (sym none) (refl, refl);
      messages = subst (λ (o : Option (CardId × List ℕ)). octets_with_cards parts.messages.items ≡ octets_with_cards parts.messages.items ++ joined_by o (Some [])) (sym none) (sym (append-nil (octets_with_cards parts.messages.items)));
      next = refl;
    };
  }

  pub piece_handed : (before after : Parts D B C) (position : ℕ) (cut : Option Cut) (result : Result (Unit {0}) Memory) (card : CardId) (message : List ℕ) → addressed_by (slice_get before.sent.items position) ≡ Some (card, message)
      → HandsMessage told counts before after card message cut result → after.journal ≡ before.journal → after.sent ≡ before.sent → after.messages.next ≡ before.messages.next → HandsPiece told counts before after position cut result
  piece_handed before after position cut result card message at hands journal sent next = record {
    reply = hands.reply;
    is = hands.is;
    hands = record {
      journal = journal;
      sent = sent;
      meets = subst (λ (o : Option (CardId × List ℕ)). PieceMeets told counts before.cards.items after.cards.items o cut hands.reply) (sym at) hands.meets;
      messages = subst (λ (o : Option (CardId × List ℕ)). octets_with_cards after.messages.items ≡ octets_with_cards before.messages.items ++ joined_by o hands.reply) (sym at) hands.messages;
      next = next;
    };
  }

  -- ---- one message

  -- its card isn't there
  pub message_dropped : (parts : Parts D B C) (card : CardId) (message : List ℕ) (cut : Option Cut) → card_of card.0 parts.cards.items ≡ None → HandsMessage told counts parts parts card message cut (Ok tt)
  message_dropped parts card message cut none = record {
    reply = Some [];
    is = ([], refl);
    meets = subst (λ (o : Option (CardValue D)). CardMeets told counts parts.cards.items parts.cards.items card message o cut (Some [])) (sym none) (refl, refl);
    messages = sym (append-nil (octets_with_cards parts.messages.items));
  }

  answer_octets : (card : CardId) (answer : List (ArrayVec ℕ)) → octets_with_cards (map (λ (message : ArrayVec ℕ). (card, message)) answer) ≡ map (λ (message : List ℕ). (card, message)) (octets_of answer)
  answer_octets card [] = refl
  answer_octets card (message ∷ answer) = ap (λ (l : List (CardId × List ℕ)). (card, message.items) ∷ l) (answer_octets card answer)

  module _ (before mid after : Parts D B C) (card : CardId) (message : List ℕ) (cut : Option Cut) (made : Option (List (List ℕ)))
      (meets : MeetsIn told counts before.cards.items mid.cards.items card.0 message cut made) (cards : after.cards.items ≡ mid.cards.items) (messages : mid.messages ≡ before.messages) where
    met : (reply : Option (List (List ℕ))) → (reply ≡ made) ⊎ (reply ≡ None) → CardMeets told counts before.cards.items after.cards.items card message (card_of card.0 before.cards.items) cut reply
    met reply is =
        subst (λ (l : List (CardValue D)). CardMeets told counts before.cards.items l card message (card_of card.0 before.cards.items) cut reply) (sym cards)
        (subst (λ (o : Option (CardValue D)). CardMeets told counts before.cards.items mid.cards.items card message o cut reply) (sym meets.found) (made, meets, is))

    -- memory was wanting, for the card or behind it
    pub message_wanting : (want : Memory) → after.messages ≡ mid.messages → HandsMessage told counts before after card message cut (Err want)
    message_wanting want same = record {
      reply = None;
      is = refl;
      meets = met None (inr refl);
      messages = ap (λ (m : MessagesValue). octets_with_cards m.items) (same ∙ messages) ∙ sym (append-nil (octets_with_cards before.messages.items));
    }

    pub message_handed : (answer : List (ArrayVec ℕ)) → made ≡ Some (octets_of answer) → after.messages ≡ record mid.messages { items = with_answer mid.messages.items card answer } → HandsMessage told counts before after card message cut (Ok tt)
    message_handed answer is kept = record {
      reply = Some (octets_of answer);
      is = (octets_of answer, refl);
      meets = met (Some (octets_of answer)) (inl (sym is));
      messages =
          ap (λ (m : MessagesValue). octets_with_cards m.items) kept
          ∙ ap (λ (m : MessagesValue). octets_with_cards (with_answer m.items card answer)) messages
          ∙ map-append (λ (message : Message). (message.0, message.1.items)) before.messages.items (map (λ (message : ArrayVec ℕ). (card, message)) answer)
          ∙ ap (λ (l : List (CardId × List ℕ)). octets_with_cards before.messages.items ++ l) (answer_octets card answer);
    }

    pub message_kept : (answer : List (ArrayVec ℕ)) → made ≡ Some (octets_of answer) → (result : Result (Unit {0}) Memory) → KeepsAnswer mid.messages after.messages card answer result → HandsMessage told counts before after card message cut result
    message_kept answer is (Ok done) kept = message_handed answer is kept
    message_kept answer is (Err want) kept = message_wanting want kept

pub addressed_none : (found : Option (CardId × ArrayVec ℕ)) (addressed : Option (CardId × List ℕ)) → option_map (λ it. (it.0, it.1.items)) found ≡ addressed → found ≡ None → addressed ≡ None
addressed_none None addressed is none = sym is
addressed_none (Some it) addressed is none = absurd cc

pub addressed_some : (found : Option (CardId × ArrayVec ℕ)) (addressed : Option (CardId × List ℕ)) (card : CardId) (message : ArrayVec ℕ) → option_map (λ it. (it.0, it.1.items)) found ≡ addressed → found ≡ Some (card, message) → addressed ≡ Some (card, message.items)
addressed_some found addressed card message is some = sym is ∙ ap (λ (o : Option (CardId × ArrayVec ℕ)). option_map (λ it. (it.0, it.1.items)) o) some
