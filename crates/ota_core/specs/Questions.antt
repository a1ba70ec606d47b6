-- What a history says of a keyset or a job. Where a question speaks of the past, that is the history, newest first.
use Rattle.std.specs.Prelude.{ℕ, Bool, ◌==◌, ◌&&◌, if◌then◌else◌, Option, Some, None, List, [], ◌∷◌}
use Rattle.std.specs.List.{list_any}
use Rattle.ota_core.specs.Keyset.{Keyset, is_same_keyset}
use Rattle.ota_core.specs.Job.{is_same_job}
use Rattle.ota_core.specs.Entry.{Reservation, moment_of, facts_in, is_open_of, is_close_of}
use Rattle.ota_core.specs.History.{first_some}
use Rattle.ota_core.specs.declared.jobs.JobId.{JobId}
use Rattle.ota_core.specs.declared.keysets.KeysetFacts.{KeysetFacts}
use Rattle.ota_core.specs.declared.entries.Entry.{Entry}
use Rattle.ota_core.specs.declared.entries.Entry.TheVariants.{Reserve}
use Rattle.ota_core.specs.declared.questions.KeysetState.{KeysetState}
use Rattle.ota_core.specs.declared.questions.KeysetState.TheVariants as state

-- the facts with which the history opens the keyset
abbrev pub opened_facts : Keyset → List Entry → Option KeysetFacts
opened_facts keyset history = first_some (facts_in keyset) history

-- how the keyset stands: new where it has no Open, closed behind its Close, else open
abbrev pub state_of : Keyset → List Entry → KeysetState
state_of keyset past =
    if list_any (is_open_of keyset) past then (if list_any (is_close_of keyset) past then state.Closed else state.Open) else state.New

-- the moment of the last entry
abbrev pub last_moment : List Entry → ℕ
last_moment [] = 0
last_moment (last ∷ past) = moment_of last

-- what an entry reserves
pub record Reserved : Type 0 where
  pub keyset : Keyset
  pub counter : ℕ
  pub job : JobId
  pub moment : ℕ
  pub tar : List ℕ
  pub name : List ℕ
  pub body : List ℕ

-- the counter that it is reserved under
abbrev pub place_of : Reserved → Reservation
place_of reserved = record { keyset = reserved.keyset; counter = reserved.counter }

abbrev pub reserved_in : Entry → Option Reserved
reserved_in (Reserve by moment keyset counter job tar name body) =
    Some (record { keyset = keyset; counter = counter; job = job; moment = moment; tar = tar; name = name; body = body })
reserved_in _ = None

-- what the entry reserves for the job
abbrev pub reserved_for : JobId → Entry → Option Reserved
reserved_for job (Reserve by moment keyset counter reserved tar name body) =
    if is_same_job reserved job then Some (record { keyset = keyset; counter = counter; job = reserved; moment = moment; tar = tar; name = name; body = body }) else None
reserved_for job _ = None

-- what the entry reserves under the counter
abbrev pub reserved_at : Reservation → Entry → Option Reserved
reserved_at place (Reserve by moment keyset counter job tar name body) =
    if is_same_keyset keyset place.keyset && (counter == place.counter)
    then Some (record { keyset = keyset; counter = counter; job = job; moment = moment; tar = tar; name = name; body = body }) else None
reserved_at place _ = None

-- what is reserved for the job last
abbrev pub last_reserved : JobId → List Entry → Option Reserved
last_reserved job past = first_some (reserved_for job) past

-- what is reserved under the counter
abbrev pub reserved_under : Reservation → List Entry → Option Reserved
reserved_under place past = first_some (reserved_at place) past
