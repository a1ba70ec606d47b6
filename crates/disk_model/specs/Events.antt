-- What an event stands for.
use Rattle.disk_model.specs.Effects.{Effect, Nothing, Writes, Cuts, Settles}
use Rattle.disk_model.specs.declared.call_log.Event.{Event}
use Rattle.disk_model.specs.declared.call_log.Event.TheVariants.{Nothing as NoEvent, Write, Cut, Settle}

abbrev pub effect_of : Event → Effect
effect_of NoEvent = Nothing
effect_of (Write at octets) = Writes at octets.items
effect_of (Cut len) = Cuts len
effect_of (Settle image) = Settles image
