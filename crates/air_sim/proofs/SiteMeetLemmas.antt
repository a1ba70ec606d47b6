-- A message that comes to a card of a site.
use Rattle.std.specs.Prelude.{◌≡◌, ℕ, true, not, ◌==◌, Bool, Option, Some, None, List, [], ◌∷◌, ◌++◌, ◌≢◌, IfOk, Result, Ok, Err, Vec, get_or, length, set, refl}
use Rattle.std.proofs.Common.{arith, sym, ◌∙◌, ap, subst, append_assoc}
use Rattle.arrayvec.specs.ArrayVec.{ArrayVec}
use Rattle.disk_model.specs.Counts.{Counts}
use Rattle.disk_model.specs.Disk.{Meaning, Tells}
use Rattle.ota_core.specs.declared.cards.CardFacts.{CardFacts}
use Rattle.ota_core.specs.declared.cards.CardId.{CardId}
use Rattle.ota_core.specs.declared.wants.Memory.{Memory}
use Rattle.receiving_entity.specs.Card.{CardValue}
use Rattle.air_sim.specs.declared.notes.Delivery.{Delivery}
use Rattle.air_sim.specs.declared.notes.Note.TheVariants.{Quiet, AtWork}
use Rattle.air_sim.specs.declared.schedules.Cut.{Cut}
use Rattle.air_sim.specs.declared.sim_site.SimSite.{SimSite}
use Rattle.air_sim.specs.CardRuns.{AreLogged, LogGrows, is_answered}
use Rattle.air_sim.specs.Cards.{card_of, number_of, place_in, with_card}
use Rattle.air_sim.specs.Handing.{MeetsIn}
use Rattle.air_sim.specs.Meeting.{Meets}
use Rattle.air_sim.specs.Told.{Moment}
use Rattle.air_sim.specs.Working.{Works}
use Rattle.air_sim.proofs.FindLemmas.{found_number}
use Rattle.air_sim.proofs.PlaceLemmas.{found_at, set_there}
use Rattle.air_sim.proofs.WorkingLemmas.{works_delivery}

-- an answer with messages
pub answered_by : {A X : Type 0} (result : Result (Vec (ArrayVec ℕ) A) Memory) → is_answered result ≡ true → IfOk result (λ messages. messages.items ≢ [] → X) → X
answered_by (Ok messages) is then_x = then_x (λ none. absurd (no messages.items none is))
  where
    no : (items : List (ArrayVec ℕ)) → items ≡ [] → not (length items == 0) ≡ true → ⊥
    no [] none e = cc
    no (message ∷ items) none e = cc
answered_by (Err want) is then_x = absurd cc

module _ {D B C : Type 0} (told : Meaning D B C) (counts : D → Counts) (old new : SimSite D B C) (number : CardId) (place : ℕ) (at : place_in number.0 old.parts.cards.items ≡ Some place)
    (one after : CardValue D) (one_is : one ≡ get_or old.parts.cards.items place one) (set_is : new.parts.cards.items ≡ set old.parts.cards.items place after) (facts : after.store.facts ≡ one.store.facts) where
  abbrev cards : List (CardValue D)
  cards = old.parts.cards.items

  found : card_of number.0 cards ≡ Some one
  found = found_at number.0 cards place at one ∙ ap (λ (card : CardValue D). Some card) (sym one_is)

  same_number : number_of after ≡ number.0
  same_number = ap (λ (f : CardFacts). f.card.0) facts ∙ found_number number.0 one cards found

  stands : new.parts.cards.items ≡ with_card after cards
  stands = set_is ∙ set_there number.0 cards place at one after same_number

  pub site_meets : (message : List ℕ) (cut : Option Cut) (reply : Option (List (List ℕ))) → Meets told counts one after message cut reply → MeetsIn told counts cards new.parts.cards.items number.0 message cut reply
  site_meets message cut reply meets = record { card = one; after = after; found = found; meets = meets; stands = stands }

  pub site_works : (delivery : Delivery) (mid : List (Moment D B C)) → mid ≡ old.past.items ++ (old.parts, Quiet) ∷ [] → new.past.items ≡ mid ++ (new.parts, AtWork delivery) ∷ [] → new.parts.journal ≡ old.parts.journal → new.parts.sent.items ≡ old.parts.sent.items → delivery.card ≡ number
      → told.tells after.store.disk ≡ told.tells one.store.disk → (Tells told one.store.disk → LogGrows told one after) → (Tells told one.store.disk → delivery.answered ≡ true → AreLogged told one after delivery.message.items) → Works told old new
  site_works delivery mid first is journal sent delivered same_tells grows answers =
      works_delivery told old new delivery (is ∙ ap (λ (l : List (Moment D B C)). l ++ (new.parts, AtWork delivery) ∷ []) first ∙ append_assoc old.past.items ((old.parts, Quiet) ∷ []) ((new.parts, AtWork delivery) ∷ [])) journal sent one after
      (subst (λ (n : ℕ). card_of n cards ≡ Some one) (sym same_number) found) stands (ap (λ (c : CardId). c.0) delivered ∙ sym same_number) same_tells grows facts answers
