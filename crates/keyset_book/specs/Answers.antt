-- What a book answers, by its history.
use Rattle.std.specs.Prelude.{ℕ, nat_le, if◌then◌else◌, Option, Some, None, List, Result, Ok, Err}
use Rattle.ota_core.specs.Keyset.{Keyset}
use Rattle.ota_core.specs.History.{next_counter, LAST_COUNTER}
use Rattle.ota_core.specs.Questions.{state_of}
use Rattle.ota_core.specs.declared.entries.Entry.{Entry}
use Rattle.ota_core.specs.declared.entries.Entry.TheVariants as entry
use Rattle.ota_core.specs.declared.questions.KeysetState.{KeysetState}
use Rattle.ota_core.specs.declared.questions.KeysetState.TheVariants as state
use Rattle.ota_core.specs.declared.outcomes.Outcome.{Outcome}
use Rattle.ota_core.specs.declared.outcomes.Outcome.TheVariants as outcome
use Rattle.keyset_book.specs.declared.answers.BookErr.{BookErr}
use Rattle.keyset_book.specs.declared.answers.BookErr.TheVariants.{UnknownKeyset, Closed, Exhausted}
use Rattle.keyset_book.specs.declared.answers.Looked.{Looked}
use Rattle.keyset_book.specs.declared.answers.Looked.TheVariants as looked
use Rattle.keyset_book.specs.declared.answers.Settled.{Settled}
use Rattle.keyset_book.specs.declared.answers.Settled.TheVariants as settled

-- the counter that comes next, where the keyset stands so and none is above the last
abbrev pub next_where : KeysetState → ℕ → Result ℕ BookErr
next_where state.New next = Err UnknownKeyset
next_where state.Closed next = Err Closed
next_where state.Open next = if nat_le next LAST_COUNTER then Ok next else Err Exhausted

-- the keyset's next counter, or why it has none
abbrev pub next_by : Keyset → List Entry → Result ℕ BookErr
next_by keyset past = next_where (state_of keyset past) (next_counter keyset past)

-- an outcome without the card's answer
abbrev pub looked_of : Outcome → Looked
looked_of outcome.New = looked.New
looked_of (outcome.Unsettled keyset counter) = looked.Unsettled keyset counter
looked_of (outcome.Done keyset counter answer) = looked.Done keyset counter
looked_of (outcome.Refused keyset counter status) = looked.Refused keyset counter

-- how the entry settles
abbrev pub settled_in : Option Entry → Option Settled
settled_in (Some (entry.Done by moment keyset counter answer)) = Some settled.Done
settled_in (Some (entry.Refused by moment keyset counter status)) = Some (settled.Refused status)
settled_in _ = None
