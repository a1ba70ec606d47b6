-- What is promised of the lane at each hold and at the end.
use Rattle.std.specs.Prelude.{◌≡◌, ℕ, suc, ◌<◌, ◌≤◌, ◌⊎◌, List, Some}
use Rattle.lane_lock.specs.declared.views.Key.{Key}
use Rattle.lane_lock.specs.declared.views.View.{View}
use Rattle.lane_lock.specs.Numbers.{within, total, Each, IsIn, behind, Begins}
use Rattle.lane_lock.specs.Meaning.{Meaning, shown, own, IsNoEarlier}
use Rattle.lane_lock.specs.Views.{numbered, weigh_parts}

module _ {L : Type 0} (key : Key L) where
  -- it is the number of a seat
  abbrev pub IsNumber : ℕ → Type 0
  IsNumber n = (1 ≤ n) × (n ≤ key.seats)

  -- the seat has each number of the lock
  abbrev pub HasAll : {E X : Type 0} → View L E X → Type 0
  HasAll v = (n : ℕ) → IsNumber n → 0 < numbered n v.parts

module _ {L O E X : Type 0} (m : Meaning L O E X) (key : Key L) where
  -- the entries behind those that the lane had when it was put in
  abbrev pub added_since : List E → List E
  added_since entries = behind (m.entries key.put.value) entries

  -- what a seat that knows v finds
  pub record IsFound (v : View L E X) (lane : L) : Type 0 where
    -- the lane is later than the one that was put in, and of its opening
    pub later : m.later key.put.value lane
    pub opening : m.opening lane ≡ m.opening key.put.value
    -- its entries are those that it was put in with, followed by entries of seats
    pub entries : Begins (m.entries key.put.value) (m.entries lane)
    pub seats : Each (λ e. IsNumber key (m.number_of e)) (added_since (m.entries lane))
    pub at_home : m.at_home key.pace lane
    -- it has all that this seat has seen
    pub seen : IsNoEarlier v.seen (shown m lane)
    -- what was added under each number of this seat is that number's list
    pub parts : Each (λ p. p.added ≡ own m p.number (added_since (m.entries lane))) v.parts
    -- the end that it was put in with is its end, and so is each that this seat has set
    pub kept : (x : X) → m.ending key.put.value ≡ Some x → m.ending lane ≡ Some x
    pub ends : Each (λ x. m.ending lane ≡ Some x) v.ends

  -- how a seat under the number n, which found what v has seen, may put the lane back
  pub record MayLeave (v : View L E X) (n : ℕ) (lane : L) : Type 0 where
    pub later : m.later key.put.value lane
    -- its entries are those found, followed by entries of this number
    pub entries : Begins v.seen.entries (m.entries lane)
    pub by_own : Each (λ e. m.number_of e ≡ n) (behind v.seen.entries (m.entries lane))
    -- its end is the one found, or any where none was found
    pub ending : (x : X) → v.seen.ending ≡ Some x → m.ending lane ≡ Some x
    pub at_home : m.at_home key.pace lane

  -- the lane is the one that was put in, grown by exactly what the seat v, which has all numbers, knows of
  pub record IsGrown (v : View L E X) (lane : L) : Type 0 where
    pub later : m.later key.put.value lane
    pub opening : m.opening lane ≡ m.opening key.put.value
    -- its entries are those that it was put in with, followed by entries of seats
    pub entries : Begins (m.entries key.put.value) (m.entries lane)
    pub seats : Each (λ e. IsNumber key (m.number_of e)) (added_since (m.entries lane))
    -- each number has one list, and its entries are that list, each once, in its order
    pub numbers : (n : ℕ) → numbered n v.parts ≡ within 1 (suc key.seats) n
    pub parts : Each (λ p. p.added ≡ own m p.number (added_since (m.entries lane))) v.parts
    pub at_home : m.at_home key.pace lane
    -- it has all that was seen
    pub seen : Begins v.seen.entries (m.entries lane)
    -- its end is the one that it was put in with, or else one that a seat set, and each that was found or set is its end
    pub kept : (x : X) → m.ending key.put.value ≡ Some x → m.ending lane ≡ Some x
    pub set : (x : X) → m.ending lane ≡ Some x → (m.ending key.put.value ≡ Some x) ⊎ IsIn x v.ends
    pub found : (x : X) → v.seen.ending ≡ Some x → m.ending lane ≡ Some x
    pub ends : Each (λ x. m.ending lane ≡ Some x) v.ends

  -- by any weight, what was added weighs what the lists of the seat weigh together
  abbrev pub IsAsHeavy : View L E X → L → Type 0
  IsAsHeavy v lane = (h : E → ℕ) → total h (added_since (m.entries lane)) ≡ weigh_parts h v.parts
