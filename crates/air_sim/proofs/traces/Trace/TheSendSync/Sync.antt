-- A record owns nothing, so threads may share it: all of it names no thread.
use denote.RattleType.{RattleType}
use denote.Param.Send.{IsSync, cell_keyless, sendable, struct_send}
use denote.Memory.{raw_all, part_of}
use denote.Struct.Owning.{shape, to}
use Rattle.air_sim.specs.contracts.traces.Trace.{the_row, the_type}

pub sync : (A B : RattleType) → IsSync A → IsSync B → IsSync (the_row A B)
unfolding part_of
sync A B a b = record { shared = λ d c o κ q vs. (cell_keyless q (raw_all (the_row A B).mir) vs c o, ((struct_send (shape (the_type A B)) (search sendable, tt)).owned (to (the_type A B) d) vs, tt)) }
