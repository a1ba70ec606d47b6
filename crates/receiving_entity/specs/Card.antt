-- What contracts see of a card, and what it stands for.
use Rattle.std.specs.Prelude.{◌≡◌, ℕ, Bool, true, false, not, ◌&&◌, ◌∷◌, if◌then◌else◌, Option, Some, None, List, refl}
use Rattle.std.specs.Coded.{Coded, code_by, coded×, coded_bool}
use Rattle.card_store.specs.Content.{Content}
use Rattle.card_store.specs.Store.{StoreValue, StandsFor}
use Rattle.disk_model.specs.Disk.{Meaning}
use Rattle.ota_core.specs.declared.cards.CardFacts.{CardFacts}
use Rattle.sms_segments.specs.Assembled.{OfCard, answer_to}
use Rattle.sms_segments.specs.Header.{is_wide}
use Rattle.sms_segments.specs.Kept.{Kept, Keeps}
use Rattle.sms_segments.specs.declared.assembling.Push.{Push}
use Rattle.sms_segments.specs.declared.assembling.Push.TheVariants.{Whole}

-- a card: its store, what it keeps of packets that aren't whole yet, and whether it is off
pub record CardValue (D : Type 0) : Type 0 where
  pub store : StoreValue D
  pub kept : Kept
  pub off : Bool

-- a card is stored as the tuple of its parts
abbrev pub card_code : {D : Type 0} → Coded (StoreValue D) → Coded Kept → Coded (CardValue D)
card_code {D = D} store kept =
    code_by (StoreValue D × (Kept × Bool)) (coded× store (coded× kept coded_bool))
    (λ c. (c.store, (c.kept, c.off))) (λ p. record { store = p.0; kept = p.1.0; off = p.1.1 }) (λ _. refl)

-- The card isn't off; its store is ready and stands for this content; and of packets that aren't whole yet it keeps what
-- these messages left, newest first: those that it took since it was issued or restarted.
pub record IsCard {D B C : Type 0} (told : Meaning D B C) (card : CardValue D) (content : Content) (past : List OfCard) : Type 0 where
  pub on : card.off ≡ false
  pub ready : card.store.ready ≡ true
  pub store : StandsFor told card.store content
  pub kept : Keeps 0x70 past card.kept.pieces

-- a card that isn't wide passes over a message with a reference of two octets (3GPP TS 23.040, 9.2.3.24.8)
abbrev pub is_passed_over : CardFacts → List ℕ → Bool
is_passed_over facts message = not facts.wide && is_wide message

-- a message to the card
abbrev pub to_card : CardFacts → List ℕ → OfCard
to_card facts message = record { card = facts.card; octets = message }

-- the messages that a card took, with one that it takes or passes over
abbrev pub past_with : CardFacts → List OfCard → List ℕ → List OfCard
past_with facts past message = if is_passed_over facts message then past else to_card facts message ∷ past

abbrev pub packet_of : Push → Option (List ℕ)
packet_of (Whole packet) = Some packet
packet_of _ = None

-- the command packet that the message makes whole, if it makes one (3GPP TS 23.040, 9.2.3.24.1; 3GPP TS 31.115, 4.2)
abbrev pub packet_by : CardFacts → List OfCard → List ℕ → Option (List ℕ)
packet_by facts past message = if is_passed_over facts message then None else packet_of (answer_to 0x70 past (to_card facts message))
