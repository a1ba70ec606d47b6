-- The messages that a bare site is still to give.
use Rattle.std.specs.Prelude.{◌≡◌, ℕ, List, [], ◌∷◌, ◌++◌, reverse, Option, Some, None, Result, Ok, Err}
use Rattle.arrayvec.specs.ArrayVec.{ArrayVec}
use Rattle.ota_core.specs.declared.cards.CardId.{CardId}
use Rattle.ota_core.specs.declared.wants.Memory.{Memory}
use Rattle.site_model.specs.declared.bare_site.BareSite.{BareSite}
use Rattle.site_model.specs.declared.site_faults.SiteFault.{SiteFault}
use Rattle.site_model.specs.declared.moments.Moment.TheVariants.{Gave}

-- in their order
abbrev pub messages_of : {D : Type 0} → BareSite D → List (CardId × ArrayVec ℕ)
messages_of site = reverse site.waiting.items

-- the next message is taken, and the moments keep it; or there is none; or memory is wanting, and nothing changes
abbrev pub TakesNext : {D : Type 0} → BareSite D → BareSite D → Result (Option (CardId × ArrayVec ℕ)) Memory → Type 0
TakesNext old new (Ok (Some message)) =
    (messages_of old ≡ message ∷ messages_of new)
    × (new.moments.items ≡ old.moments.items ++ Gave (record { card = message.0; message = message.1.items }) ∷ [])
TakesNext old new (Ok None) = (messages_of old ≡ []) × (messages_of new ≡ []) × (new.moments.items ≡ old.moments.items)
TakesNext old new (Err error) = (messages_of new ≡ messages_of old) × (new.moments.items ≡ old.moments.items)

-- a poll gives the next message, or there is none; after a fault all are still to be given
abbrev pub GivesNext : {D : Type 0} → BareSite D → BareSite D → Result (Option (CardId × ArrayVec ℕ)) SiteFault → Type 0
GivesNext old new (Ok (Some message)) = messages_of old ≡ message ∷ messages_of new
GivesNext old new (Ok None) = (messages_of old ≡ []) × (messages_of new ≡ [])
GivesNext old new (Err fault) = messages_of new ≡ messages_of old
