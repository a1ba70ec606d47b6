-- Which jobs wait for their cards. A past is the entries so far, newest first.
use Rattle.std.specs.Prelude.{Option, Some, None, List}
use Rattle.std.specs.Option.{option_and_then}
use Rattle.ota_core.specs.Entry.{Reservation}
use Rattle.ota_core.specs.History.{last_reservation}
use Rattle.ota_core.specs.declared.entries.Entry.{Entry}
use Rattle.ota_core.specs.declared.jobs.JobId.{JobId}
use Rattle.lane_engine.specs.Reserving.{resend_refusal}
use Rattle.lane_engine.specs.declared.answers.LaneErr.{LaneErr}

-- the reservation, unless something refuses that it is sent again
abbrev pub unless_refused : Option LaneErr → Reservation → Option Reservation
unless_refused None place = Some place
unless_refused (Some refusal) place = None

-- the reservation, where its keyset is open and it is not settled
abbrev pub if_unsettled : List Entry → Reservation → Option Reservation
if_unsettled past place = unless_refused (resend_refusal past place) place

-- the last reservation of the job, where its keyset is open and it is not settled
abbrev pub unsettled_in : List Entry → JobId → Option Reservation
unsettled_in past job = option_and_then (if_unsettled past) (last_reservation job past)
