-- The acts of a schedule.
use Rattle.std.specs.Prelude.{List, []}
use Rattle.air_sim.specs.declared.schedules.Act.{Act}
use Rattle.air_sim.specs.declared.schedules.Schedule.{Schedule}
use Rattle.air_sim.specs.declared.schedules.Schedule.TheVariants.{Orderly, Listed}

abbrev pub acts_of : Schedule → List Act
acts_of Orderly = []
acts_of (Listed acts) = acts.items
