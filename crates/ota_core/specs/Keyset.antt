use Rattle.std.specs.Prelude.{ℕ, Bool, ◌==◌, ◌&&◌}
use Rattle.ota_core.specs.declared.cards.CardId.{CardId}

-- a card and a key version number of it
pub record Keyset : Type 0 where
  pub card : CardId
  pub kvn : ℕ

-- the same card and the same key version number
abbrev pub is_same_keyset : Keyset → Keyset → Bool
is_same_keyset a b = (a.card.0 == b.card.0) && (a.kvn == b.kvn)
