-- The rule of the lock: what holds of its two words, of its slot and of all views between any two steps.
use Rattle.std.specs.Prelude.{◌≡◌, ℕ, suc, ◌<◌, ◌≤◌, ◌⊎◌, List, [], ◌∷◌, Option, Some}
use mathlib.Core.Option.{none, some}
use lib.ListN.{get_elem?}
use Rattle.atomic_table.specs.Table.{State}
use Rattle.lane_lock.specs.declared.views.Key.{Key}
use Rattle.lane_lock.specs.declared.views.Sight.{Sight}
use Rattle.lane_lock.specs.declared.views.Stage.TheVariants.{Holding}
use Rattle.lane_lock.specs.declared.views.View.{View}
use Rattle.lane_lock.specs.Numbers.{within, total, Each, IsIn, Begins}
use Rattle.lane_lock.specs.Meaning.{Meaning, shown, own, IsNoEarlier}
use Rattle.lane_lock.specs.Views.{waits, has, numbered}
use Rattle.lane_lock.specs.Grown.{added_since, IsNumber}

module _ {L O E X : Type 0} (m : Meaning L O E X) (key : Key L) where
  -- what a view knows is so, where it is this turn, and the lane shows this now, or showed it to the seat that has it
  pub record Fits (turn : ℕ) (now : Sight E X) (v : View L E X) : Type 0 where
    -- every view names the lock's key, or none
    pub named : (k : Key L) → v.key ≡ Some k → k ≡ key
    pub seen : IsNoEarlier v.seen now
    pub also : Each (λ a. IsNoEarlier a v.seen) v.also
    -- the list of each number is what was added under it
    pub parts : Each (λ p. p.added ≡ own m p.number (added_since m key now.entries)) v.parts
    pub ends : Each (λ x. now.ending ≡ Some x) v.ends
    -- nothing was added under a number that is still to be given away
    pub spare : (n : ℕ) → 0 < within v.next v.past n → own m n (added_since m key now.entries) ≡ []
    -- who has the lane has it in this turn, and found it as it was
    pub holds : (t : ℕ) → v.stage ≡ Holding t → (t ≡ turn) × (v.seen ≡ now)
    -- a ticket is only with a view that has a number
    pub seated : (t : ℕ) → 0 < waits t v → (n : ℕ) × (0 < numbered n v.parts)

  -- what is so of each sight of the lane
  pub record Stands (now : Sight E X) : Type 0 where
    pub front : Begins (m.entries key.put.value) now.entries
    pub seats : Each (λ e. IsNumber key (m.number_of e)) (added_since m key now.entries)
    pub kept : (x : X) → m.ending key.put.value ≡ Some x → now.ending ≡ Some x

  -- the lane at home
  pub record IsAtHome (now : Sight E X) (lane : L) : Type 0 where
    pub shows : shown m lane ≡ now
    pub later : m.later key.put.value lane
    pub at_home : m.at_home key.pace lane

  -- no view has the lane
  abbrev pub NoneHolds : List (View L E X) → Type 0
  NoneHolds views = (j t : ℕ) (v : View L E X) → get_elem? views j ≡ some v → v.stage ≡ Holding t → ⊥

  -- the lane is at home and no view has it; or the slot is out, and one view has it in this turn
  pub data Slot (turn : ℕ) (now : Sight E X) (s : State (Option L) (View L E X)) : Type 0 where
    inside : (lane : L) → s.homes ≡ some (Some lane) ∷ [] → IsAtHome now lane → NoneHolds s.views → Slot turn now s
    outside : (j : ℕ) (v : View L E X) → s.homes ≡ none ∷ [] → get_elem? s.views j ≡ some v → v.stage ≡ Holding turn → Slot turn now s

  -- the end is the one that the lane was put in with, or one that a view with a number has set
  abbrev pub IsSetBy : List (View L E X) → X → Type 0
  IsSetBy views x =
      (m.ending key.put.value ≡ Some x)
      ⊎ ((j : ℕ) × (v : View L E X) × (n : ℕ) × (get_elem? views j ≡ some v) × (0 < numbered n v.parts) × IsIn x v.ends)

  pub record IsRuled (s : State (Option L) (View L E X)) : Type 0 where
    -- word 0 is the next ticket, word 1 the turn
    pub next : ℕ
    pub turn : ℕ
    pub now : Sight E X
    pub words : s.words ≡ next ∷ turn ∷ []
    pub fits : next < 18446744073709551616
    pub order : turn ≤ next
    -- the live tickets are those from the turn to below the next one, each once
    pub tickets : (t : ℕ) → total (waits t) s.views ≡ within turn next t
    -- the numbers are those from 1 to the count of seats, each once, had or still to be given away
    pub numbers : (n : ℕ) → total (has n) s.views ≡ within 1 (suc key.seats) n
    pub each : (j : ℕ) (v : View L E X) → get_elem? s.views j ≡ some v → Fits turn now v
    pub stands : Stands now
    pub set : (x : X) → now.ending ≡ Some x → IsSetBy s.views x
    pub slot : Slot turn now s
