-- What is asked of one book for a difference.
use Rattle.std.specs.Prelude.{not, ◌&&◌, Bool, true, false, Option, Some, None}
use Rattle.std.specs.Str.{bytes_eq}
use Rattle.ota_core.specs.Keyset.{is_same_keyset}
use Rattle.ota_core.specs.declared.jobs.Job.{Job}
use Rattle.ota_core.specs.declared.keysets.KeysetFacts.{KeysetFacts}
use Rattle.ota_core.specs.declared.entries.Entry.{Entry}
use Rattle.ota_core.specs.declared.entries.Entry.TheVariants.{Reserve}
use Rattle.keyset_book.specs.declared.answers.Settled.{Settled}
use Rattle.keyset_book.specs.declared.answers.Settled.TheVariants as settled
use Rattle.campaigns.specs.Differences.{are_same_facts}

-- the keyset is opened, with other facts
abbrev pub unlike_facts : KeysetFacts → Option KeysetFacts → Bool
unlike_facts facts None = false
unlike_facts facts (Some opened) = not (are_same_facts opened facts)

-- the entry reserves what the row says
abbrev pub is_said_by : Job → Entry → Bool
is_said_by job (Reserve by moment keyset counter id tar name body) = is_same_keyset keyset job.keyset && bytes_eq tar job.tar && bytes_eq body job.body
is_said_by job _ = false

-- the counter is settled as refused
abbrev pub is_refusal : Option Settled → Bool
is_refusal (Some (settled.Refused status)) = true
is_refusal _ = false
