-- What contracts say of a lock and of its seats.
use Rattle.std.specs.Prelude.{◌≡◌, ℕ, zero, suc, List, [], ◌∷◌, ◌++◌, Option, Some}
use Rattle.atomic_table.specs.declared.shared.Seat as inner
use Rattle.lane_lock.specs.declared.locks.LaneLock.{LaneLock}
use Rattle.lane_lock.specs.declared.seats.Held.{Held}
use Rattle.lane_lock.specs.declared.seats.Seat.{Seat}
use Rattle.lane_lock.specs.declared.views.Key.{Key}
use Rattle.lane_lock.specs.declared.views.View.{View}
use Rattle.lane_lock.specs.Meaning.{Meaning, shown}
use Rattle.lane_lock.specs.Views.{fresh}

module _ {L O E X : Type 0} where
  -- what the lock was made for
  abbrev pub key_of : LaneLock L O E X → Key L
  key_of lock = lock.table.shared.key

  -- what the seat knows
  abbrev pub view_of : {g : _} → Seat L O E X g → View L E X
  view_of seat = seat.inner.me.0

  abbrev pub view_held : {g : _} → Held L O E X g → View L E X
  view_held held = held.inner.me.0

  -- the seat's own number
  abbrev pub number_of : {g : _} → Seat L O E X g → ℕ
  number_of seat = seat.number

  abbrev pub number_held : {g : _} → Held L O E X g → ℕ
  number_held held = held.number

  -- it is at this lock's table, and names this lock's key
  abbrev pub IsAt : LaneLock L O E X → inner.Seat (Option L) (View L E X) → Type 0
  IsAt lock seat = (seat.table_id ≡ lock.table.shared.table_id) × (seat.me.0.key ≡ Some lock.table.shared.key)

  -- it is a seat of this lock
  abbrev pub IsOf : {g : _} → LaneLock L O E X → Seat L O E X g → Type 0
  IsOf lock seat = IsAt lock seat.inner

  abbrev pub IsHeldOf : {g : _} → LaneLock L O E X → Held L O E X g → Type 0
  IsHeldOf lock held = IsAt lock held.inner

  -- it is a seat of this lock with an empty list, which has set no end, and has seen the lane as it was put in
  abbrev pub IsFresh : {g : _} → Meaning L O E X → LaneLock L O E X → Seat L O E X g → Type 0
  IsFresh m lock seat = IsOf lock seat × (view_of seat ≡ fresh (Some (key_of lock)) (shown m (key_of lock).put.value) (number_of seat))

  -- the seat that gives the numbers away, after the first n
  abbrev pub dealt : Meaning L O E X → Key L → ℕ → View L E X
  dealt m key n = record {
    key = Some key;
    stage = Rattle.lane_lock.specs.declared.views.Stage.TheVariants.Resting;
    parts = [];
    next = suc n;
    past = suc key.seats;
    seen = shown m key.put.value;
    also = [];
    ends = [];
  }

module _ {L : Type 0} where
  -- it is the key of a lock into which this lane was put, at this pace and with so many seats
  abbrev pub IsKeyFor : L → ℕ → ℕ → Key L → Type 0
  IsKeyFor lane pace seats key = (key.put.value ≡ lane) × (key.pace ≡ pace) × (key.seats ≡ seats)

-- the numbers 1 to n, in order
abbrev pub first_numbers : ℕ → List ℕ
first_numbers zero = []
first_numbers (suc n) = first_numbers n ++ suc n ∷ []
