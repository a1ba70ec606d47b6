-- What holds of the keysets of a plan that are put on its cards later.
use Rattle.std.specs.Prelude.{◌≡◌, true, false, IsTrue, List, [], ◌∷◌}
use Rattle.std.specs.List.{list_any}
use Rattle.ota_core.specs.Keyset.{Keyset}
use Rattle.ota_core.specs.declared.cards.CardFacts.{CardFacts}
use Rattle.ota_core.specs.declared.keysets.KeysetFacts.{KeysetFacts}
use Rattle.plan_reader.specs.Plan.{is_keyset_of}
use Rattle.plan_reader.specs.PlanTable.{has_number}
use Rattle.plan_reader.specs.declared.keyset_table.Listing.{Listing}
use Rattle.plan_reader.specs.declared.plans.Plan.{Plan}

-- the keyset begins at 0, its card is one of the plan's, and no card is issued with it
pub record IsLater (plan : Plan) (keyset : Keyset) (facts : KeysetFacts) : Type 0 where
  pub base : facts.base ≡ 0
  pub there : IsTrue (has_number keyset.card.0 plan.cards)
  pub unissued : list_any (is_keyset_of keyset) plan.cards ≡ false

-- each of the keysets is such
abbrev pub AreLater : Plan → List (Keyset × KeysetFacts) → Type 0
AreLater plan [] = Unit {0}
AreLater plan (later ∷ laters) = IsLater plan later.0 later.1 × AreLater plan laters

-- the keyset is of one of the cards, and begins at 0 where it is put later
pub record IsOfCards (cards : List CardFacts) (listing : Listing) : Type 0 where
  pub there : IsTrue (has_number listing.id.card.0 cards)
  pub base : listing.later ≡ true → listing.facts.base ≡ 0

-- each of the keysets is such
abbrev pub AreOfCards : List CardFacts → List Listing → Type 0
AreOfCards cards [] = Unit {0}
AreOfCards cards (listing ∷ listings) = IsOfCards cards listing × AreOfCards cards listings
