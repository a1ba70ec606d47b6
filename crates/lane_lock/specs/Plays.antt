-- What each kind of step tells its seat.
use Rattle.std.specs.Prelude.{◌≡◌, ◌≢◌, ℕ, [], ◌∷◌, Option, Some}
use Rattle.atomic_table.specs.Table.{Me, Step}
use Rattle.lane_lock.specs.declared.views.Key.{Key}
use Rattle.lane_lock.specs.declared.views.Stage.TheVariants.{Waiting}
use Rattle.lane_lock.specs.declared.views.View.{View}
use Rattle.lane_lock.specs.Numbers.{Each}
use Rattle.lane_lock.specs.Meaning.{Meaning, shown, IsNoEarlier}
use Rattle.lane_lock.specs.Views.{staged, taken, left}
use Rattle.lane_lock.specs.Grown.{IsFound}

module _ {L E X : Type 0} where
  -- a ticket was drawn where the word was as expected
  abbrev pub drawn : Step (Option L) → Me (Option L) (View L E X) → ℕ → Me (Option L) (View L E X) → Type 0
  drawn st me r after = (r ≡ st.first → after ≡ (staged (Waiting r) me.0, me.1)) × (r ≢ st.first → after ≡ me)

  -- the seat goes on to know what it knew, and what seats joined into it had seen is in what it has seen
  abbrev pub learned : Step (Option L) → Me (Option L) (View L E X) → ℕ → Me (Option L) (View L E X) → Type 0
  learned st me r after = (after ≡ me) × Each (λ a. IsNoEarlier a me.0.seen) me.0.also

module _ {L O E X : Type 0} (m : Meaning L O E X) where
  -- the turn has come, and with it the lane
  abbrev pub Took : ℕ → View L E X → Me (Option L) (View L E X) → Type 0
  Took t v after = (lane : L) × (after ≡ (taken t (shown m lane) v, (0, Some lane) ∷ [])) × ((k : Key L) → v.key ≡ Some k → IsFound m k v lane)

  -- the turn was looked at by a seat that waits with a ticket
  abbrev pub looked : Step (Option L) → Me (Option L) (View L E X) → ℕ → Me (Option L) (View L E X) → Type 0
  looked st me r after = (t : ℕ) → me.0.stage ≡ Waiting t → (r ≢ t → after ≡ me) × (r ≡ t → Took t me.0 after)

  -- the lane was put back, and the turn passed
  abbrev pub passed : Step (Option L) → Me (Option L) (View L E X) → ℕ → Me (Option L) (View L E X) → Type 0
  passed st me r after = (lane : L) → me.1 ≡ (0, Some lane) ∷ [] → after ≡ (left (shown m lane) me.0, [])
