use Rattle.card_store.specs.CardLaws.{cards_are_sound}
use Rattle.card_store.proofs.laws.stores_hold_cards.Goals as goal

pub returns : goal.returns
returns c = cards_are_sound
