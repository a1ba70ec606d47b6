-- The rule of the queue of work: what was put into it is what was taken out and what it holds, each piece as often.
use Rattle.std.specs.Prelude.{◌≡◌, ℕ, ◌+◌, List, []}
use mathlib.Core.Option.{some}
use lib.ListN.{get_elem?}
use Rattle.lane_lock.specs.Numbers.{total, Each, IsIn}
use Rattle.senders.specs.declared.benches.Hand.{Hand}
use Rattle.senders.specs.declared.pieces.Work.{Work}

abbrev pub hand : ℕ → List Work → List Work → Hand
hand parts put taken = record { parts = parts; put = put; taken = taken }

-- a pass with no part has put and taken nothing
abbrev pub IdleIsEmpty : List Hand → Type 0
IdleIsEmpty views = (port : ℕ) (v : Hand) → get_elem? views port ≡ some v → v.parts ≡ 0 → (v.put ≡ []) × (v.taken ≡ [])

-- what was put is what was taken and what the queue holds, however the pieces are weighed
abbrev pub Balanced : List Work → List Hand → Type 0
Balanced items views =
    (total (λ v. v.parts) views ≡ 1024)
    × ((h : Work → ℕ) → total (λ v. total h v.put) views ≡ total (λ v. total h v.taken) views + total h items)
    × IdleIsEmpty views

-- and each piece in it is one of those of the session
abbrev pub IsFair : List Work → List Work → List Hand → Type 0
IsFair works items views = Each (λ piece. IsIn piece works) items × Balanced items views

-- who has all parts knows the whole
abbrev pub Whole : Hand → List Work → Type 0
Whole v items = v.parts ≡ 1024 → (h : Work → ℕ) → total h v.put ≡ total h v.taken + total h items

-- who has all parts, and has found the queue empty, has taken what was put
abbrev pub KnowsAll : Hand → Type 0
KnowsAll v = v.parts ≡ 1024 → (h : Work → ℕ) → total h v.put ≡ total h v.taken
