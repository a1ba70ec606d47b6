-- The report: a line for its columns, and then a line for each job, in order of the jobs.
use Rattle.std.specs.Prelude.{ℕ, ◌%◌, nat_le, if◌then◌else◌, List, [], ◌∷◌, ◌++◌, length, reverse, codes, slice_index_or}
use Rattle.std.specs.List.{flat_map}
use Rattle.std.specs.Fmt.{decimal}
use Rattle.std.specs.Int.{bytes_high_first}
use Rattle.hex.specs.Hex.{encode_lower}
use Rattle.ota_core.specs.Keyset.{Keyset}
use Rattle.ota_core.specs.History.{next_counter, LAST_COUNTER}
use Rattle.ota_core.specs.Questions.{state_of}
use Rattle.ota_core.specs.HistoryValue.{HistoryValue}
use Rattle.ota_core.specs.Outcome.{outcome_of}
use Rattle.ota_core.specs.declared.cards.CardId.{CardId}
use Rattle.ota_core.specs.declared.jobs.Job.{Job}
use Rattle.ota_core.specs.declared.entries.Entry.{Entry}
use Rattle.ota_core.specs.declared.questions.KeysetState.{KeysetState}
use Rattle.ota_core.specs.declared.questions.KeysetState.TheVariants as state
use Rattle.ota_core.specs.declared.outcomes.Outcome.{Outcome}
use Rattle.ota_core.specs.declared.outcomes.Outcome.TheVariants.{New, Unsettled, Done, Refused}

-- the line of the columns
unfoldable pub header : List ℕ
header = codes "job,card,kvn,outcome,counter,note\n"

-- the outcome and the counter of a job without a reservation
unfoldable pub unreserved : List ℕ
unreserved = codes "unsettled,-,"

-- a counter: ten lower case hexadecimal digits
unfoldable pub counter_text : ℕ → List ℕ
counter_text counter = encode_lower (bytes_high_first 5 counter)

-- the octets of an answer, or a dash where there are none
abbrev pub answer_text : List ℕ → List ℕ
answer_text [] = codes "-"
answer_text octets = encode_lower octets

-- the note where a keyset is open: a dash where a counter is left
abbrev pub open_note : ℕ → List ℕ
open_note next = if nat_le next LAST_COUNTER then codes "-" else codes "exhausted"

-- why no counter of the keyset is reserved, and a dash where one may be
abbrev pub note_for : KeysetState → ℕ → List ℕ
note_for state.New next = codes "new"
note_for state.Closed next = codes "closed"
note_for state.Open next = open_note next

-- the note of a job that has no reservation, by the past of its lane
abbrev pub note_of : Keyset → List Entry → List ℕ
note_of keyset past = note_for (state_of keyset past) (next_counter keyset past)

-- the last three columns: outcome, counter and note
abbrev pub outcome_text : List ℕ → Outcome → List ℕ
outcome_text note New = unreserved ++ note
outcome_text note (Unsettled keyset counter) = codes "unsettled," ++ counter_text counter ++ codes ",-"
outcome_text note (Done keyset counter answer) = codes "done," ++ counter_text counter ++ codes "," ++ answer_text answer
outcome_text note (Refused keyset counter status) = codes "refused," ++ counter_text counter ++ codes "," ++ encode_lower (status ∷ [])

-- the first three columns: the numbers of the job, the card and the keyset
abbrev pub job_text : Job → List ℕ
job_text job = decimal job.id.job ++ codes "," ++ decimal job.keyset.card.0 ++ codes "," ++ decimal job.keyset.kvn ++ codes ","

-- the line of a job, by the history of its keyset's lane
abbrev pub row_of : List Entry → Job → List ℕ
row_of history job = job_text job ++ outcome_text (note_of job.keyset (reverse history)) (outcome_of history job.id) ++ codes "\n"

-- the entries of a history
abbrev pub entries_in : HistoryValue → List Entry
entries_in history = history.entries

-- the history of a card's lane: the card's number modulo the number of lanes
abbrev pub history_of : List (List Entry) → CardId → List Entry
history_of histories card = slice_index_or histories (card.0 % length histories) []

-- the report of the jobs by the histories of the lanes
abbrev pub report_of : List Job → List (List Entry) → List ℕ
report_of jobs histories =
    header ++ flat_map (λ job. row_of (history_of histories job.keyset.card) job) jobs
