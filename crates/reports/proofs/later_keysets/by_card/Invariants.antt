use Rattle.std.proofs.Common.{◌≡◌, take}
use Rattle.ota_core.specs.declared.cards.CardId.{CardId}
use Rattle.reports.specs.Cards.{keysets_of}
use Rattle.reports.specs.Later.{listed_in}
use Rattle.reports.proofs.later_keysets.by_card.Given as goal

abbrev pub invariant-loop-keyset : goal.invariant-loop-keyset
invariant-loop-keyset l = (card : CardId) → listed_in l.table card ≡ keysets_of card (take l.keyset-index l.keysets)
