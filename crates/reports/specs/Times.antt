-- When the jobs were reserved and settled: a line for the columns, and then a line for each job, in order of the jobs.
use Rattle.std.specs.Prelude.{ℕ, nat_le, Bool, ◌==◌, ◌&&◌, ◌||◌, if◌then◌else◌, Option, Some, None, List, [], ◌++◌, map, reverse, find, codes}
use Rattle.std.specs.List.{flat_map}
use Rattle.std.specs.Fmt.{decimal}
use Rattle.ota_core.specs.Entry.{is_settlement_of, moment_of}
use Rattle.ota_core.specs.Questions.{Reserved, place_of, last_reserved}
use Rattle.ota_core.specs.declared.jobs.Job.{Job}
use Rattle.ota_core.specs.declared.jobs.JobId.{JobId}
use Rattle.ota_core.specs.declared.entries.Entry.{Entry}
use Rattle.reports.specs.Report.{history_of}

-- the line of the columns
unfoldable pub times_header : List ℕ
times_header = codes "job,name,reserved,settled\n"

-- the columns of a job without a reservation
unfoldable pub no_times : List ℕ
no_times = codes "-,-,-"

-- the octet is an ASCII digit, letter or underscore
abbrev pub is_word_octet : ℕ → Bool
is_word_octet octet =
    (nat_le 48 octet && nat_le octet 57) || (nat_le 65 octet && nat_le octet 90) || (nat_le 97 octet && nat_le octet 122) || (octet == 95)

-- an octet of a name as it is printed: any other is a question mark
abbrev pub printed : ℕ → ℕ
printed octet = if is_word_octet octet then octet else 63

-- the name of a campaign, or a dash where it is empty
abbrev pub name_text : List ℕ → List ℕ
name_text [] = codes "-"
name_text name = map printed name

-- the moment of a settlement, or a dash where there is none
abbrev pub settled_text : Option Entry → List ℕ
settled_text None = codes "-"
settled_text (Some entry) = decimal (moment_of entry)

-- name, moment of the reservation and moment of the settlement
abbrev pub times_columns : List Entry → Option Reserved → List ℕ
times_columns past None = no_times
times_columns past (Some reserved) =
    name_text reserved.name ++ codes "," ++ decimal reserved.moment ++ codes "," ++ settled_text (find (is_settlement_of (place_of reserved)) past)

-- the line of a job, by its last reservation in the history of its keyset's lane
abbrev pub times_row : List Entry → JobId → List ℕ
times_row history id =
    decimal id.job ++ codes "," ++ times_columns (reverse history) (last_reserved id (reverse history)) ++ codes "\n"

-- the times of the jobs by the histories of the lanes
abbrev pub times_of : List Job → List (List Entry) → List ℕ
times_of jobs histories = times_header ++ flat_map (λ job. times_row (history_of histories job.keyset.card) job.id) jobs
