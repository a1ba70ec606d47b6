-- How a delivery's steps make it whole.
use Rattle.std.specs.Prelude.{◌≡◌, ◌≢◌, ◌⊎◌, ℕ, Bool, true, false, Option, Some, None, List, [], Result, Ok, Err, IfOk, Vec, refl}
use Rattle.std.proofs.Common.{inl, inr, sym, ◌∙◌, ap, subst}
use Rattle.arrayvec.specs.ArrayVec.{ArrayVec}
use Rattle.card_store.specs.Content.{Content}
use Rattle.card_store.specs.declared.store_errors.StoreErr.{StoreErr}
use Rattle.disk_model.specs.Counts.{Counts}
use Rattle.disk_model.specs.Disk.{Meaning, Tells}
use Rattle.ota_core.specs.declared.cards.CardFacts.{CardFacts}
use Rattle.ota_core.specs.declared.wants.Memory.{Memory}
use Rattle.receiving_entity.specs.Card.{CardValue, IsCard}
use Rattle.receiving_entity.specs.Opening.{IsIssued}
use Rattle.receiving_entity.specs.Receiving.{KeepsAfter, Reacts, octets_in, reaction}
use Rattle.receiving_entity.specs.declared.card_errors.CardErr.{CardErr}
use Rattle.receiving_entity.specs.declared.card_errors.CardErr.TheVariants as card_err
use Rattle.sms_segments.specs.Assembled.{OfCard}
use Rattle.air_sim.specs.declared.schedules.Cut.{Cut}
use Rattle.air_sim.specs.CardRuns.{IsStill, reply_in}
use Rattle.air_sim.specs.Logged.{content_in}
use Rattle.air_sim.specs.Meeting.{IsArmedBy, IsRefusedBy, Meets, MeetsOn, MeetsRefused, MeetsRestarted, Restarts, TakesMessage, reply_of, reply_of_refusal}

-- what a card keeps goes by the kind of its answer alone
keeps_in : {D A : Type 0} (facts : CardFacts) (past : List OfCard) (message : List ℕ) (new : CardValue D) (off : Bool) (result : Result (Vec (ArrayVec ℕ) A) CardErr)
    → KeepsAfter facts past message new off result → KeepsAfter facts past message new off (octets_in result)
keeps_in facts past message new true result keeps = tt
keeps_in facts past message new false (Ok value) keeps = keeps
keeps_in facts past message new false (Err card_err.Memory) keeps = keeps
keeps_in facts past message new false (Err card_err.PowerCut) keeps = keeps
keeps_in facts past message new false (Err (card_err.Full length need)) keeps = keeps
keeps_in facts past message new false (Err card_err.Off) keeps = keeps

module _ {D B C A : Type 0} (told : Meaning D B C) (counts : D → Counts) where
  -- a message was taken
  pub takes : (armed after : CardValue D) (message : List ℕ) (result : Result (Vec (ArrayVec ℕ) A) CardErr) (reply : Option (List (List ℕ))) → reply ≡ reply_of (octets_in result)
      → ((content : Content) (past : List OfCard) → IsCard told armed content past → Reacts told armed.store after.store content (reaction armed.store.facts content past message) after.off (octets_in result))
      → ((content : Content) (past : List OfCard) → IsCard told armed content past → KeepsAfter armed.store.facts past message after after.off result)
      → after.store.facts ≡ armed.store.facts → TakesMessage told counts armed after message reply
  takes armed after message result reply is reacts keeps facts = record {
    result = octets_in result;
    is = is;
    reacts = reacts;
    keeps = λ content past it. keeps_in armed.store.facts past message after after.off result (keeps content past it);
    facts = facts;
  }

-- a restart was refused
pub restart_refused : {D B C : Type 0} (told : Meaning D B C) (card new : CardValue D) (error : StoreErr) (result : Result Bool Memory) → new.off ≡ true → new.store.shown ≡ card.store.shown → IsRefusedBy error result → Restarts told card new result
restart_refused told card new error (Ok true) off shown refused = absurd refused
restart_refused told card new error (Ok false) off shown refused = (off, shown, error, refused)
restart_refused told card new error (Err want) off shown refused = (off, shown, error, refused)

module _ {D B C : Type 0} (told : Meaning D B C) (counts : D → Counts) (card : CardValue D) (message : List ℕ) (cut : Option Cut) (off : card.off ≡ true) where
  -- it came back
  pub met_restarted : (mid after : CardValue D) (reply : Option (List (List ℕ))) → Restarts told card mid (Ok true) → mid.store.facts ≡ card.store.facts → MeetsOn told counts mid after message cut reply → Meets told counts card after message cut reply
  met_restarted mid after reply back facts meets = inr (inl (record { off = off; restarted = mid; issued = back.1; facts = facts; meets = meets }))

  -- it is off still
  pub met_refused : (after : CardValue D) → Restarts told card after (Ok false) → after.store.facts ≡ card.store.facts → Meets told counts card after message cut (Some [])
  met_refused after back facts = inr (inr (record { was_off = off; off = back.0; refusal = back.2; is = sym back.3; lent = back.1; facts = facts }))

  pub met_wanting : (after : CardValue D) (want : Memory) → Restarts told card after (Err want) → after.store.facts ≡ card.store.facts → Meets told counts card after message cut None
  met_wanting after want back facts = inr (inr (record { was_off = off; off = back.0; refusal = back.2; is = sym back.3; lent = back.1; facts = facts }))

-- no messages were given
pub none_given : {A : Type 0} (result : Result (Vec (ArrayVec ℕ) A) Memory) (P : Type 0) → IfOk result (λ messages. messages.items ≡ []) → IfOk result (λ messages. messages.items ≢ [] → P)
none_given (Ok messages) P none = λ some. absurd (some none)
none_given (Err want) P none = tt

-- what an armed card was before it came back
pub still_armed : {D B C : Type 0} (told : Meaning D B C) (before card armed : CardValue D) (content : Content) (past : List OfCard) → armed.store.facts ≡ card.store.facts → IsStill told before card content past → IsStill told before armed content past
still_armed told before card armed content past facts still = record {
  facts = still.facts ∙ sym facts;
  opens = subst (λ (own : CardFacts). content_in own (told.seen before.store.disk) ≡ Some content) (sym facts) still.opens;
  kept = still.kept;
}
