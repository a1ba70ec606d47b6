-- The rows of a list of jobs: what a plan has of their keysets, and where a history holds them otherwise.
use Rattle.std.specs.Prelude.{◌≡◌, ℕ, ◌<◌, nat_eq, ◌&&◌, Bool, if◌then◌else◌, Option, Some, None, option_map, find, List, length, reverse, slice_index_or, All}
use Rattle.std.specs.Option.{option_and_then}
use Rattle.std.specs.List.{list_any}
use Rattle.std.specs.Str.{bytes_eq}
use Rattle.ota_core.specs.Keyset.{Keyset, is_same_keyset}
use Rattle.ota_core.specs.Entry.{is_refusal_of}
use Rattle.ota_core.specs.Questions.{Reserved, last_reserved}
use Rattle.ota_core.specs.declared.cards.CardFacts.{CardFacts}
use Rattle.ota_core.specs.declared.jobs.Job.{Job}
use Rattle.ota_core.specs.declared.keysets.KeysetFacts.{KeysetFacts}
use Rattle.ota_core.specs.declared.entries.Entry.{Entry}
use Rattle.plan_reader.specs.declared.plans.Plan.{Plan}

-- the card of this number
abbrev pub card_of : ℕ → List CardFacts → Option CardFacts
card_of number cards = find (λ card. nat_eq card.card.0 number) cards

-- the facts of the keyset with this key version number
abbrev pub facts_in : ℕ → List (ℕ × KeysetFacts) → Option KeysetFacts
facts_in kvn keysets = option_map (λ keyset. keyset.1) (find (λ keyset. nat_eq keyset.0 kvn) keysets)

-- the facts that a plan has of a keyset
abbrev pub facts_of : Plan → Keyset → Option KeysetFacts
facts_of plan keyset = option_and_then (λ card. facts_in keyset.kvn card.keysets) (card_of keyset.card.0 plan.cards)

-- the job is one of the list
abbrev pub Among : Job → List Job → Type 0
Among job jobs = (i : ℕ) × (i < length jobs) × (slice_index_or jobs i job ≡ job)

-- a row is on the keyset
pub record NamesKeyset (jobs : List Job) (keyset : Keyset) : Type 0 where
  pub job : Job
  pub row : Among job jobs
  pub on : job.keyset ≡ keyset

-- it is what the row says
abbrev pub is_as_said : Job → Reserved → Bool
is_as_said job reserved = is_same_keyset reserved.keyset job.keyset && bytes_eq reserved.tar job.tar && bytes_eq reserved.body job.body

-- its counter, where it isn't refused and another than the row says
abbrev pub counter_unlike : List Entry → Job → Reserved → Option ℕ
counter_unlike past job reserved =
    if list_any (is_refusal_of (record { keyset = reserved.keyset; counter = reserved.counter })) past then None
    else (if is_as_said job reserved then None else Some reserved.counter)

-- the counter of the job's last reservation in the history, where that isn't refused and another than the row says
abbrev pub differs_in : List Entry → Job → Option ℕ
differs_in history job = option_and_then (counter_unlike (reverse history) job) (last_reserved job.id (reverse history))

-- no row differs from the histories of the lanes
abbrev pub NoneDiffers : List Job → List (List Entry) → Type 0
NoneDiffers jobs histories = All (λ job. All (λ history. differs_in history job ≡ None) histories) jobs
