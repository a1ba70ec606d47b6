-- A refusal of the log, as the store answers it.
use Rattle.gate_log.specs.declared.log_errors.LogErr.{LogErr}
use Rattle.gate_log.specs.declared.log_errors.LogErr.TheVariants as log_err
use Rattle.card_store.specs.declared.store_errors.StoreErr.{StoreErr}
use Rattle.card_store.specs.declared.store_errors.StoreErr.TheVariants as store_err

abbrev pub store_error_of : LogErr → StoreErr
store_error_of log_err.Memory = store_err.Memory
store_error_of (log_err.DiskFault fault) = store_err.DiskFault fault
store_error_of log_err.Unformatted = store_err.NotALog
store_error_of log_err.NotALog = store_err.NotALog
store_error_of (log_err.OtherHead rest) = store_err.OtherHead rest
store_error_of (log_err.Damaged number) = store_err.Damaged number
store_error_of (log_err.Full length need) = store_err.Full length need
