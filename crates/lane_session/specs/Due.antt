-- What is due to a row by the past of its lane.
use Rattle.std.specs.Prelude.{◌≡◌, ℕ, nat_le, not, ◌||◌, Bool, true, is_some, if◌then◌else◌, Option, Some, None, List, [], ◌∷◌}
use Rattle.std.specs.List.{list_any}
use Rattle.ota_core.specs.Keyset.{Keyset}
use Rattle.ota_core.specs.Entry.{is_open_of}
use Rattle.ota_core.specs.History.{LAST_COUNTER, last_reservation, broken_in_use, next_counter}
use Rattle.ota_core.specs.Questions.{last_moment}
use Rattle.ota_core.specs.declared.jobs.Job.{Job}
use Rattle.ota_core.specs.declared.keysets.KeysetFacts.{KeysetFacts}
use Rattle.ota_core.specs.declared.entries.Entry.{Entry}
use Rattle.ota_core.specs.declared.entries.Entry.TheVariants.{Open, Reserve}

-- no counter of the keyset can be reserved: it isn't in use, or none is left
abbrev pub is_out : List Entry → Keyset → Bool
is_out past keyset = is_some (broken_in_use keyset past) || not (nat_le (next_counter keyset past) LAST_COUNTER)

-- nothing is due to the row: its job has a reservation, or none can be made
abbrev pub is_served : List Entry → Job → Bool
is_served past job = is_some (last_reservation job.id past) || is_out past job.keyset

-- the counter that is due to the row
abbrev pub due_counter : List Entry → Job → Option ℕ
due_counter past job = if is_served past job then None else Some (next_counter job.keyset past)

-- the reservation of a counter for a row, by the session itself, at the moment of the entry before it and without a name
abbrev pub reservation_for : List Entry → Job → ℕ → Entry
reservation_for past job counter = Reserve 0 (last_moment past) job.keyset counter job.id job.tar [] job.body

-- the Open of a keyset, by the session itself, at the moment of the entry before it
abbrev pub open_for : List Entry → Keyset → KeysetFacts → Entry
open_for past keyset facts = Open 0 (last_moment past) keyset facts

-- an Open is due to the keyset
abbrev pub is_unopened : List Entry → Keyset → Bool
is_unopened past keyset = not (list_any (is_open_of keyset) past)

-- the batch that is due to the row: its reservation alone
abbrev pub IsBatchFor : List Entry → Job → Option (List Entry) → Type 0
IsBatchFor past job None = is_served past job ≡ true
IsBatchFor past job (Some batch) = (counter : ℕ) × (due_counter past job ≡ Some counter) × (batch ≡ reservation_for past job counter ∷ [])
