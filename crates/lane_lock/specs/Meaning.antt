-- What a lane in the lock means.
use Rattle.std.specs.Prelude.{◌≡◌, ℕ, ◌==◌, List, filter, Option, Some}
use Rattle.lane_lock.specs.declared.views.Sight.{Sight}
use Rattle.lane_lock.specs.Numbers.{Begins}

-- of a lane: its opening, all its entries, its end, that it may lie in a lock of a pace, and that the second lane is later than the first;
-- of an entry: the number of who made it
pub record Meaning (L O E X : Type 0) : Type 1 where
  pub opening : L → O
  pub entries : L → List E
  pub number_of : E → ℕ
  pub ending : L → Option X
  pub at_home : ℕ → L → Type 0
  pub later : L → L → Type 0

module _ {L O E X : Type 0} where
  -- what the lane shows
  abbrev pub shown : Meaning L O E X → L → Sight E X
  shown m lane = record { entries = m.entries lane; ending = m.ending lane }

  -- the entries that were made under the number n
  abbrev pub own : Meaning L O E X → ℕ → List E → List E
  own m n entries = filter (λ e. m.number_of e == n) entries

module _ {E X : Type 0} where
  -- the second sight is no earlier than the first: it goes on where the first stops, and has its end where that has one
  abbrev pub IsNoEarlier : Sight E X → Sight E X → Type 0
  IsNoEarlier a b = Begins a.entries b.entries × ((x : X) → a.ending ≡ Some x → b.ending ≡ Some x)
