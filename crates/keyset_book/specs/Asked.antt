-- What the tables of a book answer.
use Rattle.std.specs.Prelude.{ℕ, ◌+◌, nat_le, if◌then◌else◌, Option, Some, None, Result, Ok, Err}
use Rattle.ota_core.specs.Entry.{Reservation}
use Rattle.ota_core.specs.History.{LAST_COUNTER}
use Rattle.ota_core.specs.declared.questions.KeysetState.{KeysetState}
use Rattle.ota_core.specs.declared.questions.KeysetState.TheVariants as state
use Rattle.keyset_book.specs.Tables.{standing_in}
use Rattle.keyset_book.specs.declared.answers.BookErr.{BookErr}
use Rattle.keyset_book.specs.declared.answers.BookErr.TheVariants.{UnknownKeyset, Closed, Exhausted}
use Rattle.keyset_book.specs.declared.answers.Looked.{Looked}
use Rattle.keyset_book.specs.declared.answers.Looked.TheVariants as looked
use Rattle.keyset_book.specs.declared.answers.Settled.{Settled}
use Rattle.keyset_book.specs.declared.answers.Settled.TheVariants as settled
use Rattle.keyset_book.specs.declared.keyset_table.Known.{Known}
use Rattle.keyset_book.specs.declared.counter_table.Standing.{Standing}
use Rattle.keyset_book.specs.declared.counter_table.Standing.TheVariants as standing
use Rattle.keyset_book.specs.declared.books.Book.{Book}

-- the next counter of a keyset of which this is known
abbrev pub next_after : Option Known → Result ℕ BookErr
next_after None = Err UnknownKeyset
next_after (Some known) =
    if known.closed then Err Closed else (if nat_le (known.last + 1) LAST_COUNTER then Ok (known.last + 1) else Err Exhausted)

-- how a keyset stands of which this is known
abbrev pub state_with : Option Known → KeysetState
state_with None = state.New
state_with (Some known) = if known.closed then state.Closed else state.Open

-- what has become of a counter that stands so
abbrev pub looked_at : Reservation → Option Standing → Looked
looked_at counter (Some standing.Done) = looked.Done counter.keyset counter.counter
looked_at counter (Some (standing.Refused status)) = looked.Refused counter.keyset counter.counter
looked_at counter _ = looked.Unsettled counter.keyset counter.counter

-- what has become of a job with this last reservation
abbrev pub looked_after : Book → Option Reservation → Looked
looked_after book None = looked.New
looked_after book (Some counter) = looked_at counter (standing_in book.counters counter)

-- how a counter is settled that stands so
abbrev pub settled_with : Option Standing → Option Settled
settled_with (Some standing.Done) = Some settled.Done
settled_with (Some (standing.Refused status)) = Some (settled.Refused status)
settled_with _ = None
