-- What a plan says.
use Rattle.std.specs.Prelude.{◌==◌, Bool, ◌&&◌}
use Rattle.ota_core.specs.Keyset.{Keyset}
use Rattle.ota_core.specs.KeysetList.{has_kvn}
use Rattle.ota_core.specs.declared.cards.CardFacts.{CardFacts}

-- the card is issued with the keyset
abbrev pub is_keyset_of : Keyset → CardFacts → Bool
is_keyset_of keyset card = (card.card.0 == keyset.card.0) && has_kvn keyset.kvn card.keysets
