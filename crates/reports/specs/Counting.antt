-- The counts of all keysets of a lane, kept entry by entry.
use Rattle.std.specs.Prelude.{◌≡◌, ◌+◌, ◌<◌, ◌^◌, if◌then◌else◌, Option, Some, None, unwrap_or, List}
use Rattle.std.specs.BTreeMap.{BTreeMap, get}
use Rattle.ota_core.specs.Keyset.{Keyset, is_same_keyset}
use Rattle.ota_core.specs.declared.entries.Entry.{Entry}
use Rattle.ota_core.specs.declared.entries.Entry.TheVariants.{Reserve}
use Rattle.keyset_book.specs.Tables.{keyset_cmp}
use Rattle.keyset_book.specs.declared.answers.Settled.{Settled}
use Rattle.keyset_book.specs.declared.answers.Settled.TheVariants.{Done, Refused}
use Rattle.reports.specs.Cards.{settlement_in, counts_of}
use Rattle.reports.specs.declared.keyset_counts.Counts.{Counts}

-- nothing is counted
abbrev pub no_counts : Counts
no_counts = record { reserved = 0; done = 0; refused = 0; unsettled = 0 }

-- the counts with one counter more, which is settled so
abbrev pub counted : Option Settled → Counts → Counts
counted None counts = record { reserved = counts.reserved + 1; done = counts.done; refused = counts.refused; unsettled = counts.unsettled + 1 }
counted (Some Done) counts = record { reserved = counts.reserved + 1; done = counts.done + 1; refused = counts.refused; unsettled = counts.unsettled }
counted (Some (Refused status)) counts = record { reserved = counts.reserved + 1; done = counts.done; refused = counts.refused + 1; unsettled = counts.unsettled }

-- the counts of a keyset with one entry more, by the past of the lane
abbrev pub counted_entry : List Entry → Keyset → Entry → Counts → Counts
counted_entry past keyset (Reserve by moment reserved counter job tar name body) counts =
    if is_same_keyset reserved keyset then counted (settlement_in past (record { keyset = reserved; counter = counter })) counts else counts
counted_entry past keyset _ counts = counts

-- one more may be counted
pub record MayCount (counts : Counts) : Type 0 where
  pub reserved : counts.reserved + 1 < 2 ^ 64
  pub done : counts.done + 1 < 2 ^ 64
  pub refused : counts.refused + 1 < 2 ^ 64
  pub unsettled : counts.unsettled + 1 < 2 ^ 64

-- the counts of a keyset in a table
abbrev pub counts_in : BTreeMap Keyset Counts → Keyset → Counts
counts_in table keyset = unwrap_or (get keyset_cmp table keyset) no_counts

-- the table has the counts of each keyset in a history
abbrev pub CountsAll : List Entry → BTreeMap Keyset Counts → Type 0
CountsAll history table = (keyset : Keyset) → counts_in table keyset ≡ counts_of keyset history
