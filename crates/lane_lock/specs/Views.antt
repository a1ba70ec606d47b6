-- What a seat knows, and how its knowledge changes.
use Rattle.std.specs.Prelude.{ℕ, suc, ◌+◌, Bool, true, false, leb, List, [], ◌∷◌, ◌++◌, length, if◌then◌else◌, Option, Some, None}
use Rattle.lane_lock.specs.declared.views.Key.{Key}
use Rattle.lane_lock.specs.declared.views.Part.{Part}
use Rattle.lane_lock.specs.declared.views.Sight.{Sight}
use Rattle.lane_lock.specs.declared.views.Stage.{Stage}
use Rattle.lane_lock.specs.declared.views.Stage.TheVariants.{Resting, Waiting, Holding}
use Rattle.lane_lock.specs.declared.views.View.{View}
use Rattle.lane_lock.specs.Numbers.{same, within, total, behind}
use Rattle.lane_lock.specs.Meaning.{Meaning, shown}

-- 1 where a seat at this stage has the ticket t
abbrev pub waits_at : ℕ → Stage → ℕ
waits_at t Resting = 0
waits_at t (Waiting u) = same t u
waits_at t (Holding u) = same t u

-- the seat has the lane
abbrev pub is_holding : Stage → Bool
is_holding Resting = false
is_holding (Waiting t) = false
is_holding (Holding t) = true

-- the ticket of a seat that has the lane
abbrev pub held_ticket : Stage → ℕ
held_ticket Resting = 0
held_ticket (Waiting t) = t
held_ticket (Holding t) = t

module _ {E : Type 0} where
  -- the number of the first list, the seat's own
  abbrev pub leader : List (Part E) → Option ℕ
  leader [] = None
  leader (p ∷ ps) = Some p.number

  -- how many of the lists are under the number n
  abbrev pub numbered : ℕ → List (Part E) → ℕ
  numbered n parts = total (λ p. same n p.number) parts

  -- the first list, longer by these entries
  abbrev pub added_to_first : List E → List (Part E) → List (Part E)
  added_to_first entries [] = []
  added_to_first entries (p ∷ ps) = record { number = p.number; added = p.added ++ entries } ∷ ps

  -- what the lists weigh together
  abbrev pub weigh_parts : (E → ℕ) → List (Part E) → ℕ
  weigh_parts h parts = total (λ p. total h p.added) parts

  -- the longer of two lists, the first where they are of one length
  abbrev pub longer : List E → List E → List E
  longer xs ys = if leb (length ys) (length xs) then xs else ys

module _ {X : Type 0} where
  -- the first end, or else the second
  abbrev pub either_end : Option X → Option X → Option X
  either_end (Some x) b = Some x
  either_end None b = b

  -- the end that was set between the two
  abbrev pub newly_set : Option X → Option X → List X
  newly_set (Some x) b = []
  newly_set None None = []
  newly_set None (Some x) = x ∷ []

module _ {E X : Type 0} where
  -- what was seen in either
  abbrev pub both_seen : Sight E X → Sight E X → Sight E X
  both_seen a b = record { entries = longer a.entries b.entries; ending = either_end a.ending b.ending }

module _ {L E X : Type 0} where
  -- how often the seat has the number n, as its own, as that of a seat that was joined into it, or to give it away
  abbrev pub has : ℕ → View L E X → ℕ
  has n v = numbered n v.parts + within v.next v.past n

  -- how often the seat has the ticket t
  abbrev pub waits : ℕ → View L E X → ℕ
  waits t v = waits_at t v.stage

  -- the seat at another stage
  abbrev pub staged : Stage → View L E X → View L E X
  staged stage v = record { key = v.key; stage = stage; parts = v.parts; next = v.next; past = v.past; seen = v.seen; also = v.also; ends = v.ends }

  -- the seat has its turn with the ticket t, and has found the lane as it shows now
  abbrev pub taken : ℕ → Sight E X → View L E X → View L E X
  taken t now v = record { key = v.key; stage = Holding t; parts = v.parts; next = v.next; past = v.past; seen = now; also = []; ends = v.ends }

  -- the seat has put the lane back as it shows now: its own list is longer by the entries behind those that it found,
  -- and the end that it set, where it set one, is among those that it has set
  abbrev pub left : Sight E X → View L E X → View L E X
  left now v = record {
    key = v.key;
    stage = Resting;
    parts = added_to_first (behind v.seen.entries now.entries) v.parts;
    next = v.next;
    past = v.past;
    seen = now;
    also = [];
    ends = v.ends ++ newly_set v.seen.ending now.ending;
  }

  -- the seat has given the least of its numbers away
  abbrev pub giving : View L E X → View L E X
  giving v = record { key = v.key; stage = v.stage; parts = v.parts; next = suc v.next; past = v.past; seen = v.seen; also = v.also; ends = v.ends }

  -- a new seat under the number n, which knows the lane as it shows now
  abbrev pub fresh : Option (Key L) → Sight E X → ℕ → View L E X
  fresh key now n = record { key = key; stage = Resting; parts = record { number = n; added = [] } ∷ []; next = 0; past = 0; seen = now; also = []; ends = [] }

  -- the seat to which that number was given
  abbrev pub given : View L E X → View L E X
  given v = fresh v.key v.seen v.next

  -- one seat of two, with the lists, the numbers and the ends of both, which has seen what either has
  abbrev pub joined : View L E X → View L E X → View L E X
  joined v w = record {
    key = v.key;
    stage = v.stage;
    parts = v.parts ++ w.parts;
    next = v.next;
    past = v.past;
    seen = both_seen v.seen w.seen;
    also = v.seen ∷ w.seen ∷ [];
    ends = v.ends ++ w.ends;
  }

  -- what is left of the other
  abbrev pub spent : View L E X
  spent = record { key = None; stage = Resting; parts = []; next = 0; past = 0; seen = record { entries = []; ending = None }; also = []; ends = [] }

module _ {L O E X : Type 0} where
  -- the first seat: it has all numbers to give away, and none of its own
  abbrev pub dealer : Meaning L O E X → Key L → View L E X
  dealer m key = record {
    key = Some key;
    stage = Resting;
    parts = [];
    next = 1;
    past = suc key.seats;
    seen = shown m key.put.value;
    also = [];
    ends = [];
  }
