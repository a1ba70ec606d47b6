-- Where the histories of the lanes differ from a plan or from the rows of a list of jobs.
use Rattle.std.specs.Prelude.{ℕ, suc, ◌==◌, ◌&&◌, not, Bool, true, false, if◌then◌else◌, Option, Some, None, option_map, List, [], ◌∷◌}
use Rattle.std.specs.Option.{option_or}
use Rattle.std.specs.List.{list_any}
use Rattle.std.specs.Str.{bytes_eq}
use Rattle.ota_core.specs.Keyset.{Keyset, is_same_keyset}
use Rattle.ota_core.specs.History.{first_some}
use Rattle.ota_core.specs.declared.cards.CardFacts.{CardFacts}
use Rattle.ota_core.specs.declared.jobs.Job.{Job}
use Rattle.ota_core.specs.declared.keysets.KeysetFacts.{KeysetFacts}
use Rattle.ota_core.specs.declared.keysets.Mode.{Mode}
use Rattle.ota_core.specs.declared.keysets.Mode.TheVariants.{Higher, Next}
use Rattle.ota_core.specs.declared.entries.Entry.{Entry}
use Rattle.ota_core.specs.declared.entries.Entry.TheVariants.{Open}
use Rattle.plan_reader.specs.declared.plans.Plan.{Plan}
use Rattle.campaigns.specs.Rows.{differs_in}

abbrev pub is_same_mode : Mode → Mode → Bool
is_same_mode Higher Higher = true
is_same_mode Next Next = true
is_same_mode _ _ = false

abbrev pub is_same_flag : Bool → Bool → Bool
is_same_flag true b = b
is_same_flag false b = not b

-- the keysets are opened with the same facts
abbrev pub are_same_facts : KeysetFacts → KeysetFacts → Bool
are_same_facts a b = (a.base == b.base) && is_same_mode a.mode b.mode && is_same_flag a.ciphered b.ciphered && bytes_eq a.kic b.kic && bytes_eq a.kid b.kid

-- the entry opens the keyset with other facts
abbrev pub opens_otherwise : Keyset → KeysetFacts → Entry → Bool
opens_otherwise keyset facts (Open by moment opened other) = is_same_keyset opened keyset && not (are_same_facts other facts)
opens_otherwise keyset facts _ = false

-- a lane has opened the keyset with other facts
abbrev pub is_opened_otherwise : List (List Entry) → Keyset → KeysetFacts → Bool
is_opened_otherwise histories keyset facts = list_any (λ history. list_any (opens_otherwise keyset facts) history) histories

-- the keyset of this card, where a lane has opened it with other facts
abbrev pub keyset_otherwise : List (List Entry) → CardFacts → ℕ × KeysetFacts → Option Keyset
keyset_otherwise histories card keyset =
    if is_opened_otherwise histories (record { card = card.card; kvn = keyset.0 }) keyset.1 then Some (record { card = card.card; kvn = keyset.0 }) else None

-- the first keyset of the card that a lane has opened with other facts
abbrev pub keyset_of_card : List (List Entry) → CardFacts → Option Keyset
keyset_of_card histories card = first_some (keyset_otherwise histories card) card.keysets

-- the keyset, where a lane has opened it with other facts
abbrev pub later_otherwise : List (List Entry) → Keyset × KeysetFacts → Option Keyset
later_otherwise histories later = if is_opened_otherwise histories later.0 later.1 then Some later.0 else None

-- the first keyset with which a card is issued that a lane has opened with other facts: cards in their order, and on a
-- card its keysets
abbrev pub issued_difference : List CardFacts → List (List Entry) → Option Keyset
issued_difference cards histories = first_some (keyset_of_card histories) cards

-- the first of the keysets that are put later which a lane has opened with other facts
abbrev pub later_difference : List (Keyset × KeysetFacts) → List (List Entry) → Option Keyset
later_difference later histories = first_some (later_otherwise histories) later

-- the first keyset of the plan that a lane has opened with other facts: those that are put later behind all others
abbrev pub keyset_difference : Plan → List (List Entry) → Option Keyset
keyset_difference plan histories = option_or (issued_difference plan.cards histories) (later_difference plan.later histories)

-- the counter that the first lane holds for the row's job otherwise than the row says
abbrev pub counter_otherwise : List (List Entry) → Job → Option ℕ
counter_otherwise histories job = first_some (λ history. differs_in history job) histories

-- The first of the rows that a lane holds otherwise: its number, where the first has this one, and the counter.
abbrev pub job_difference_from : ℕ → List Job → List (List Entry) → Option (ℕ × ℕ)
job_difference_from row [] histories = None
job_difference_from row (job ∷ jobs) histories =
    option_or (option_map (λ counter. (row, counter)) (counter_otherwise histories job)) (job_difference_from (suc row) jobs histories)

-- the same of all rows, numbered from 1
abbrev pub job_difference : List Job → List (List Entry) → Option (ℕ × ℕ)
job_difference jobs histories = job_difference_from 1 jobs histories
