-- The list of jobs as the records of a CSV text: the columns, what they must be, and the jobs that the rows say.
use Rattle.std.specs.Prelude.{◌≡◌, ℕ, ◌≤◌, ◌<◌, IsTrue, ◌+◌, ◌/◌, nat_lt, nat_le, ◌==◌, ◌&&◌, ◌||◌, not, Bool, true, false, if◌then◌else◌, Option, Some, None, is_none, option_map, unwrap_or, Result, Err, List, [], ◌∷◌, ◌++◌, length, map, find, codes, bytes_eq}
use Rattle.std.specs.Option.{option_or}
use Rattle.std.specs.List.{list_any}
use Rattle.csv.specs.Reading.{default_config, records, strip_bom}
use Rattle.csv.specs.Records.{field_at}
use Rattle.ota_core.specs.Keyset.{Keyset, is_same_keyset}
use Rattle.ota_core.specs.KeysetList.{has_kvn}
use Rattle.ota_core.specs.declared.cards.CardFacts.{CardFacts}
use Rattle.ota_core.specs.declared.jobs.Job.{Job}
use Rattle.plan_reader.specs.Check.{Check, first_wrong, is_wrong, says, outcome}
use Rattle.plan_reader.specs.Text.{◌>>=◌, only_if}
use Rattle.plan_reader.specs.Hexadecimal.{octets_of}
use Rattle.plan_reader.specs.Number.{number_of}
use Rattle.plan_reader.specs.declared.plans.Plan.{Plan}
use Rattle.plan_reader.specs.declared.columns.Column.{Column}
use Rattle.plan_reader.specs.declared.columns.Column.TheVariants as column
use Rattle.plan_reader.specs.declared.job_lists.JobsErr.{JobsErr}
use Rattle.plan_reader.specs.declared.job_lists.JobsErr.TheVariants.{Refused, Memory}

-- a record: its fields
abbrev pub Row : Type 0
Row = List (List ℕ)

-- the field at a place from 0; empty where the record has fewer
abbrev pub cell : ℕ → Row → List ℕ
cell place row = unwrap_or (field_at row place) []

-- the first record: these five fields
unfoldable pub is_header : Row → Bool
is_header row =
    (length row == 5)
    && (bytes_eq (cell 0 row) (codes "job")
    && (bytes_eq (cell 1 row) (codes "card")
    && (bytes_eq (cell 2 row) (codes "kvn")
    && (bytes_eq (cell 3 row) (codes "tar")
    && bytes_eq (cell 4 row) (codes "script")))))

-- the card of the plan with this number
abbrev pub card_in : Plan → ℕ → Option CardFacts
card_in plan number = find (λ card. card.card.0 == number) plan.cards

-- the keyset is one of a card of the plan, issued or put later
abbrev pub is_listed : Plan → Keyset → Bool
is_listed plan keyset =
    list_any (λ card. (card.card.0 == keyset.card.0) && has_kvn keyset.kvn card.keysets) plan.cards
    || list_any (λ later. is_same_keyset later.0 keyset) plan.later

-- the columns

unfoldable pub job_number_of : Row → Option ℕ
job_number_of row = number_of 10 4294967295 (cell 0 row)

unfoldable pub card_number_of : Row → Option ℕ
card_number_of row = number_of 18 999999999999999999 (cell 1 row)

-- a key version number is 1 to 15
unfoldable pub kvn_in : Row → Option ℕ
kvn_in row = number_of 2 15 (cell 2 row) >>= (λ kvn. only_if (nat_lt 0 kvn) kvn)

unfoldable pub tar_of : Row → Option (List ℕ)
tar_of row = octets_of 3 (cell 3 row)

-- a script: at least one octet, in hexadecimal
unfoldable pub script_in : Row → Option (List ℕ)
script_in row = let len = length (cell 4 row) / 2 in if nat_lt 0 len then octets_of len (cell 4 row) else None

-- the greatest number of octets in a script for a card
abbrev pub longest_script : Bool → ℕ
longest_script true = 4096
longest_script false = 1024

-- the card takes messages with a reference of two octets
abbrev pub takes_wide : Plan → Row → Bool
takes_wide plan row = says (λ number. says (λ card. card.wide) (card_in plan number)) (card_number_of row)

-- the job that a row says, where nothing is wrong with it
unfoldable pub job_said : Plan → Row → Job
job_said plan row =
    record {
      id = record { campaign = plan.campaign; job = unwrap_or (job_number_of row) 0 };
      keyset = record { card = record { 0 = unwrap_or (card_number_of row) 0 }; kvn = unwrap_or (kvn_in row) 0 };
      tar = unwrap_or (tar_of row) [];
      body = unwrap_or (script_in row) [];
    }

-- one of these jobs has this number
abbrev pub has_job_number : ℕ → List Job → Bool
has_job_number number jobs = list_any (λ job. job.id.job == number) jobs

-- what is asked of a row, with the jobs in front of it
abbrev pub row_checks : Plan → List Job → Row → List (Check Column)
row_checks plan before row =
    (not (length row == 5), column.Shape)
    ∷ (nat_le 100000 (length before), column.TooMany)
    ∷ (is_wrong (λ number. has_job_number number before) (job_number_of row), column.Job)
    ∷ (is_wrong (λ number. is_none (card_in plan number)) (card_number_of row), column.Card)
    ∷ (is_wrong (λ _. not (is_listed plan (job_said plan row).keyset)) (kvn_in row), column.Kvn)
    ∷ (is_none (tar_of row), column.Tar)
    ∷ (is_wrong (λ script. nat_lt (longest_script (takes_wide plan row)) (length script)) (script_in row), column.Script)
    ∷ []

-- the row, from 0 for the first record, and what is wrong there
abbrev pub JobsFault : Type 0
JobsFault = ℕ × Column

-- the first fault of rows, each asked with the jobs of those in front of it
abbrev pub first_of_rows : Plan → List Job → List Row → Option JobsFault
first_of_rows plan before [] = None
first_of_rows plan before (row ∷ rows) =
    option_or (option_map (λ wrong. (length before + 1, wrong)) (first_wrong (row_checks plan before row)))
    (first_of_rows plan (before ++ job_said plan row ∷ []) rows)

-- the jobs that records say, or their first fault
abbrev pub jobs_of_records : Plan → List Row → Result (List Job) JobsFault
jobs_of_records plan [] = Err (0, column.Header)
jobs_of_records plan (row ∷ rows) =
    if is_header row then outcome (map (job_said plan) rows) (first_of_rows plan [] rows) else Err (0, column.Header)

-- the records of the octets: fields between commas, also in double quotes; a byte order mark at the front is passed over
unfoldable pub records_of : List ℕ → List Row
records_of octets = records default_config (strip_bom octets)

-- the jobs that octets list, or their first fault
unfoldable pub jobs_of : Plan → List ℕ → Result (List Job) JobsFault
jobs_of plan octets = jobs_of_records plan (records_of octets)

-- an error names this fault, or is want of memory
abbrev pub NamesRow : Option JobsFault → JobsErr → Type 0
NamesRow fault (Refused row wrong) = fault ≡ Some (row, wrong)
NamesRow fault Memory = Unit {0}

-- when an error comes, by the reading of the octets: a refusal exactly with their first fault, want of memory with any
abbrev pub RefusesJobs : Result (List Job) JobsFault → JobsErr → Type 0
RefusesJobs reading (Refused row wrong) = reading ≡ Err (row, wrong)
RefusesJobs reading Memory = Unit {0}

-- a job that the plan allows: of its campaign, on one of its keysets, with a script of 1 to 4,096 octets, and of at most
-- 1,024 where the card takes no messages with a reference of two octets
pub record IsListed (plan : Plan) (job : Job) : Type 0 where
  pub campaign : job.id.campaign ≡ plan.campaign
  pub keyset : IsTrue (is_listed plan job.keyset)
  pub filled : 1 ≤ length job.body
  pub short : length job.body ≤ 4096
  pub wide : 1024 < length job.body → IsTrue (says (λ card. card.wide) (card_in plan job.keyset.card.0))

-- each job of the list is one that the plan allows
abbrev pub AreListed : Plan → List Job → Type 0
AreListed plan [] = Unit {0}
AreListed plan (job ∷ jobs) = IsListed plan job × AreListed plan jobs
