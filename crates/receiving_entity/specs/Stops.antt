-- How a packet ends that isn't answered.
use Rattle.std.specs.Prelude.{Bool, true, false, Result, Ok, Err}
use Rattle.card_store.specs.declared.store_errors.StoreErr.{StoreErr}
use Rattle.card_store.specs.declared.store_errors.StoreErr.TheVariants as store_err
use Rattle.disk_model.specs.declared.faults.DiskFault.TheVariants as fault
use Rattle.receiving_entity.specs.declared.card_errors.CardErr.{CardErr}
use Rattle.receiving_entity.specs.declared.card_errors.CardErr.TheVariants as card_err
use Rattle.receiving_entity.specs.declared.stops.Stop.{Stop}
use Rattle.receiving_entity.specs.declared.stops.Stop.TheVariants.{Dropped, Cut}

-- the answers of a store to an addition that it doesn't do
abbrev pub IsOfAddition : StoreErr → Type 0
IsOfAddition store_err.Memory = Unit {0}
IsOfAddition (store_err.DiskFault fault) = Unit {0}
IsOfAddition (store_err.Full length need) = Unit {0}
IsOfAddition error = ⊥

-- a fault of the disk is a cut of the card's power, but for want of memory
abbrev pub card_error_of : StoreErr → CardErr
card_error_of (store_err.DiskFault fault.Failed) = card_err.PowerCut
card_error_of (store_err.Full length need) = card_err.Full length need
card_error_of error = card_err.Memory

-- a fault of the disk leaves the card off; all else comes before the first device call
abbrev pub stop_by : StoreErr → Stop
stop_by (store_err.DiskFault fault) = Cut (card_error_of (store_err.DiskFault fault))
stop_by error = Dropped (card_error_of error)

-- the card is off then
abbrev pub is_cut : Stop → Bool
is_cut (Dropped error) = false
is_cut (Cut error) = true

abbrev pub is_off_after : {T : Type 0} → Result T Stop → Bool
is_off_after (Ok value) = false
is_off_after (Err stop) = is_cut stop

-- what the card answers then
abbrev pub error_of : Stop → CardErr
error_of (Dropped error) = error
error_of (Cut error) = error

abbrev pub answer_of : {T : Type 0} → Result T Stop → Result T CardErr
answer_of (Ok value) = Ok value
answer_of (Err stop) = Err (error_of stop)
