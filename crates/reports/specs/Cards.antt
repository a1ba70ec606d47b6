-- The keysets of a plan: a line for the columns, and then a line for each keyset, card by card.
use Rattle.std.specs.Prelude.{ℕ, ◌%◌, Bool, true, false, ◌==◌, Option, Some, None, unwrap_or, List, ◌++◌, length, map, reverse, find, codes}
use Rattle.std.specs.List.{flat_map, filter, filter_map, count_by}
use Rattle.std.specs.Fmt.{decimal}
use Rattle.ota_core.specs.Keyset.{Keyset, is_same_keyset}
use Rattle.ota_core.specs.Entry.{Reservation, counter_in, reserved_by, is_settlement_of}
use Rattle.ota_core.specs.History.{first_some}
use Rattle.ota_core.specs.Questions.{state_of}
use Rattle.ota_core.specs.declared.cards.CardId.{CardId}
use Rattle.ota_core.specs.declared.cards.CardFacts.{CardFacts}
use Rattle.ota_core.specs.declared.keysets.KeysetFacts.{KeysetFacts}
use Rattle.ota_core.specs.declared.entries.Entry.{Entry}
use Rattle.ota_core.specs.declared.questions.KeysetState.{KeysetState}
use Rattle.ota_core.specs.declared.questions.KeysetState.TheVariants as state
use Rattle.keyset_book.specs.Answers.{settled_in}
use Rattle.keyset_book.specs.declared.answers.Settled.{Settled}
use Rattle.keyset_book.specs.declared.answers.Settled.TheVariants.{Done, Refused}
use Rattle.plan_reader.specs.declared.plans.Plan.{Plan}
use Rattle.reports.specs.Report.{counter_text, history_of}
use Rattle.reports.specs.declared.keyset_counts.Counts.{Counts}

-- the line of the columns
unfoldable pub cards_header : List ℕ
cards_header = codes "card,kvn,lane,state,last,reserved,done,refused,unsettled\n"

-- how a keyset stands
abbrev pub state_text : KeysetState → List ℕ
state_text state.New = codes "new"
state_text state.Open = codes "open"
state_text state.Closed = codes "closed"

-- the counter is settled as done
abbrev pub is_done : Option Settled → Bool
is_done (Some Done) = true
is_done _ = false

-- the counter is settled as refused
abbrev pub is_refused : Option Settled → Bool
is_refused (Some (Refused status)) = true
is_refused _ = false

-- the counter isn't settled
abbrev pub is_unsettled : Option Settled → Bool
is_unsettled None = true
is_unsettled _ = false

-- how a counter is settled, by the past of its lane
abbrev pub settlement_in : List Entry → Reservation → Option Settled
settlement_in past counter = settled_in (find (is_settlement_of counter) past)

-- the counters of a keyset that the entries reserve
abbrev pub reserved_counters : Keyset → List Entry → List Reservation
reserved_counters keyset entries = filter (λ counter. is_same_keyset counter.keyset keyset) (filter_map reserved_by entries)

-- the counts of these counters, by the past of their lane
abbrev pub counts_among : List Entry → List Reservation → Counts
counts_among past counters = record {
  reserved = length counters;
  done = count_by (λ counter. is_done (settlement_in past counter)) counters;
  refused = count_by (λ counter. is_refused (settlement_in past counter)) counters;
  unsettled = count_by (λ counter. is_unsettled (settlement_in past counter)) counters;
}

-- the counts of a keyset in a history
abbrev pub counts_of : Keyset → List Entry → Counts
counts_of keyset history = counts_among (reverse history) (reserved_counters keyset history)

-- the last four columns
abbrev pub counts_text : Counts → List ℕ
counts_text counts =
    decimal counts.reserved ++ codes "," ++ decimal counts.done ++ codes "," ++ decimal counts.refused ++ codes "," ++ decimal counts.unsettled

-- the last counter of the keyset that is used up: the last reserved one, or the base
abbrev pub last_used : Keyset → KeysetFacts → List Entry → ℕ
last_used keyset facts past = unwrap_or (first_some (counter_in keyset) past) facts.base

-- the line of a keyset, by its lane and the history of it
abbrev pub keyset_row : ℕ → List Entry → Keyset × KeysetFacts → List ℕ
keyset_row lane history listed =
    decimal listed.0.card.0 ++ codes "," ++ decimal listed.0.kvn ++ codes "," ++ decimal lane ++ codes ","
    ++ state_text (state_of listed.0 (reverse history)) ++ codes "," ++ counter_text (last_used listed.0 listed.1 (reverse history)) ++ codes ","
    ++ counts_text (counts_of listed.0 history) ++ codes "\n"

-- a keyset of a card, by its key version number
abbrev pub issued_keyset : CardId → ℕ × KeysetFacts → Keyset × KeysetFacts
issued_keyset card keyset = (record { card = card; kvn = keyset.0 }, keyset.1)

-- the keysets that a card is issued with
abbrev pub issued_keysets : CardFacts → List (Keyset × KeysetFacts)
issued_keysets card = map (issued_keyset card.card) card.keysets

-- those of the keysets that are of the card
abbrev pub keysets_of : CardId → List (Keyset × KeysetFacts) → List (Keyset × KeysetFacts)
keysets_of card keysets = filter (λ listed. listed.0.card.0 == card.0) keysets

-- the keysets of a card: those that it is issued with, and behind them those that it is to be given later
abbrev pub listed_keysets : List (Keyset × KeysetFacts) → CardFacts → List (Keyset × KeysetFacts)
listed_keysets later card = issued_keysets card ++ keysets_of card.card later

-- the lines of a card
abbrev pub card_rows : List (List Entry) → List (Keyset × KeysetFacts) → CardFacts → List ℕ
card_rows histories later card =
    flat_map (keyset_row (card.card.0 % length histories) (history_of histories card.card)) (listed_keysets later card)

-- the text of the keysets of a plan, by the histories of the lanes
abbrev pub cards_of : Plan → List (List Entry) → List ℕ
cards_of plan histories = cards_header ++ flat_map (card_rows histories plan.later) plan.cards
