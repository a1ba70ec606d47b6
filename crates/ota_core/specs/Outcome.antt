-- What has become of a job, by a history.
use Rattle.std.specs.Prelude.{Option, Some, None, List, reverse, find}
use Rattle.ota_core.specs.Entry.{Reservation, is_settlement_of}
use Rattle.ota_core.specs.History.{last_reservation}
use Rattle.ota_core.specs.declared.jobs.JobId.{JobId}
use Rattle.ota_core.specs.declared.entries.Entry.{Entry}
use Rattle.ota_core.specs.declared.entries.Entry.TheVariants.{Done, Refused}
use Rattle.ota_core.specs.declared.outcomes.Outcome.{Outcome}
use Rattle.ota_core.specs.declared.outcomes.Outcome.TheVariants as outcome

-- how a reservation stands by its settlement
abbrev pub settled_by : Reservation → Option Entry → Outcome
settled_by place (Some (Done by moment keyset counter answer)) = outcome.Done place.keyset place.counter answer
settled_by place (Some (Refused by moment keyset counter status)) = outcome.Refused place.keyset place.counter status
settled_by place _ = outcome.Unsettled place.keyset place.counter

-- what has become of a reservation
abbrev pub outcome_of_reservation : List Entry → Option Reservation → Outcome
outcome_of_reservation past None = outcome.New
outcome_of_reservation past (Some place) = settled_by place (find (is_settlement_of place) past)

-- what has become of the job: of its last reservation
abbrev pub outcome_of : List Entry → JobId → Outcome
outcome_of history job = outcome_of_reservation (reverse history) (last_reservation job (reverse history))
