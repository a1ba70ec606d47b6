-- Keysets by their cards.
use Rattle.std.specs.Prelude.{◌≡◌, unwrap_or, List, []}
use Rattle.std.specs.BTreeMap.{BTreeMap, get}
use Rattle.std.specs.declared.cmp.Ordering.{Ordering}
use Rattle.ota_core.specs.Keyset.{Keyset}
use Rattle.ota_core.specs.declared.cards.CardId.{CardId}
use Rattle.ota_core.specs.declared.keysets.KeysetFacts.{KeysetFacts}
use Rattle.ota_core.specs.contracts.cards.CardIdOrd.TheImpl as card_ord
use Rattle.reports.specs.Cards.{keysets_of}

-- the order of cards
abbrev pub card_cmp : CardId → CardId → Ordering
card_cmp = (card_ord.ghosts).cmp

-- the keysets that a table has of a card
abbrev pub listed_in : BTreeMap CardId (List (Keyset × KeysetFacts)) → CardId → List (Keyset × KeysetFacts)
listed_in table card = unwrap_or (get card_cmp table card) []

-- the table has each card's keysets of the list, in order
abbrev pub ListsAll : List (Keyset × KeysetFacts) → BTreeMap CardId (List (Keyset × KeysetFacts)) → Type 0
ListsAll keysets table = (card : CardId) → listed_in table card ≡ keysets_of card keysets
