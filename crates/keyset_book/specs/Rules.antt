-- The rules of a history, asked of the tables of a book.
use Rattle.std.specs.Prelude.{ℕ, ◌+◌, Bool, true, false, nat_le, not, Option, Some, None, is_none}
use Rattle.std.specs.Option.{option_or}
use Rattle.ota_core.specs.Entry.{Reservation, moment_of}
use Rattle.ota_core.specs.History.{unless, broken_counter, broken_status}
use Rattle.ota_core.specs.declared.entries.Entry.{Entry}
use Rattle.ota_core.specs.declared.entries.Entry.TheVariants as entry
use Rattle.ota_core.specs.declared.entries.Illegal.{Illegal}
use Rattle.ota_core.specs.declared.entries.Illegal.TheVariants.{NotOpened, OpenedTwice, Closed, JobTaken, NotReserved, AlreadySettled, Earlier}
use Rattle.keyset_book.specs.Tables.{known_in, reserved_in, standing_in}
use Rattle.keyset_book.specs.declared.keyset_table.Known.{Known}
use Rattle.keyset_book.specs.declared.counter_table.Standing.{Standing}
use Rattle.keyset_book.specs.declared.counter_table.Standing.TheVariants.{Unsettled, Refused}
use Rattle.keyset_book.specs.declared.books.Book.{Book}

-- the keyset is in use
abbrev pub rule_in_use : Option Known → Option Illegal
rule_in_use None = Some NotOpened
rule_in_use (Some known) = unless (not known.closed) Closed

-- the counter that is next to the last one, or 1 where there is none
abbrev pub next_to : Option Known → ℕ
next_to None = 0 + 1
next_to (Some known) = known.last + 1

-- the counter is refused
abbrev pub is_refused : Option Standing → Bool
is_refused (Some (Refused status)) = true
is_refused _ = false

-- the job is free
abbrev pub rule_job : Book → Option Reservation → Option Illegal
rule_job book None = None
rule_job book (Some last) = unless (is_refused (standing_in book.counters last)) (JobTaken last.counter)

-- the counter waits for its settlement
abbrev pub rule_settlement : Option Standing → Option Illegal
rule_settlement None = Some NotReserved
rule_settlement (Some Unsettled) = None
rule_settlement (Some _) = Some AlreadySettled

-- the first rule of keysets, counters and jobs that is broken
abbrev pub rule_in_order : Book → Entry → Option Illegal
rule_in_order book (entry.Open by moment keyset facts) = unless (is_none (known_in book.keysets keyset)) OpenedTwice
rule_in_order book (entry.Reserve by moment keyset counter job tar name body) =
    option_or (rule_in_use (known_in book.keysets keyset))
    (option_or (broken_counter counter (next_to (known_in book.keysets keyset))) (rule_job book (reserved_in book.jobs job)))
rule_in_order book (entry.Done by moment keyset counter answer) =
    option_or (rule_in_use (known_in book.keysets keyset)) (rule_settlement (standing_in book.counters (record { keyset = keyset; counter = counter })))
rule_in_order book (entry.Refused by moment keyset counter status) =
    option_or (rule_in_use (known_in book.keysets keyset))
    (option_or (rule_settlement (standing_in book.counters (record { keyset = keyset; counter = counter }))) (broken_status status))
rule_in_order book (entry.Close by moment keyset) = rule_in_use (known_in book.keysets keyset)

-- the entry isn't earlier than the last one
abbrev pub rule_moment : Book → ℕ → Option Illegal
rule_moment book moment = unless (nat_le book.moment moment) (Earlier book.moment)

-- the first rule that is broken
abbrev pub first_rule : Book → Entry → Option Illegal
first_rule book entry = option_or (rule_in_order book entry) (rule_moment book (moment_of entry))
