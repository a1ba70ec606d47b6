-- The text of each fault, without the end of its line.
use Rattle.std.specs.Prelude.{List, ℕ, ◌++◌, codes}
use Rattle.std.specs.Fmt.{decimal}
use Rattle.ota_core.specs.Keyset.{Keyset}
use Rattle.reports.specs.Report.{counter_text}
use Rattle.plan_reader.specs.Words.{table_word, field_word, column_word}
use Rattle.expanded_scripts.specs.declared.reading.TemplateErr.{TemplateErr}
use Rattle.expanded_scripts.specs.declared.reading.TemplateErr.TheVariants as template_err
use Rattle.ota_commands.specs.declared.faults.Which.{Which}
use Rattle.ota_commands.specs.declared.faults.Which.TheVariants.{Plan, Jobs}
use Rattle.ota_commands.specs.declared.faults.Fault.{Fault}
use Rattle.ota_commands.specs.declared.faults.Fault.TheVariants.{Usage, PlanRefused, JobsRefused, InputTooLong, JobDiffers, KeysetDiffers, KeysetClosed, KeysetUnknown, ScriptRefused, SourceFault, SinkFault, SiteFault, NotAJournal, WrongLane, Damaged, Full, Unformatted, Memory}

-- an input's name
abbrev pub which_word : Which → List ℕ
which_word Plan = codes "plan"
which_word Jobs = codes "jobs"

-- what is so with a keyset
abbrev pub keyset_text : List ℕ → Keyset → List ℕ
keyset_text how keyset = codes "keyset " ++ how ++ codes ": card " ++ decimal keyset.card.0 ++ codes " kvn " ++ decimal keyset.kvn

-- why a script is refused, with the place from 0 on
abbrev pub refusal_text : TemplateErr → List ℕ
refusal_text template_err.Tag = codes "script refused: tag"
refusal_text (template_err.Length place) = codes "script refused: length " ++ decimal place
refusal_text (template_err.Child place) = codes "script refused: child " ++ decimal place
refusal_text (template_err.Command place) = codes "script refused: command " ++ decimal place
refusal_text template_err.Memory = codes "script refused: out of memory"

-- the text of a fault
abbrev pub text_of : Fault → List ℕ
text_of Usage = codes "usage: ota format, reserve, send, report, close, cards, packet, drill"
text_of (PlanRefused table row field) = codes "plan refused: " ++ table_word table ++ codes " " ++ decimal row ++ codes " " ++ field_word field
text_of (JobsRefused row column) = codes "jobs refused: row " ++ decimal row ++ codes " " ++ column_word column
text_of (InputTooLong which) = codes "input too long: " ++ which_word which
text_of (JobDiffers row counter) = codes "job differs: row " ++ decimal row ++ codes " counter " ++ counter_text counter
text_of (KeysetDiffers keyset) = keyset_text (codes "differs") keyset
text_of (KeysetClosed keyset) = keyset_text (codes "closed") keyset
text_of (KeysetUnknown keyset) = keyset_text (codes "unknown") keyset
text_of (ScriptRefused error) = refusal_text error
text_of (SourceFault which) = codes "read fault: " ++ which_word which
text_of SinkFault = codes "write fault"
text_of (SiteFault lane) = codes "site fault: lane " ++ decimal lane
text_of (NotAJournal lane) = codes "not a journal: lane " ++ decimal lane
text_of (WrongLane place lane lanes) = codes "wrong lane: place " ++ decimal place ++ codes " holds " ++ decimal lane ++ codes " of " ++ decimal lanes
text_of (Damaged lane number) = codes "damaged journal: lane " ++ decimal lane ++ codes " record " ++ decimal number
text_of (Full lane len need) = codes "journal full: lane " ++ decimal lane ++ codes " length " ++ decimal len ++ codes " need " ++ decimal need
text_of (Unformatted lane) = codes "not formatted: lane " ++ decimal lane
text_of Memory = codes "out of memory"
