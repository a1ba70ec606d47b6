use Rattle.std.specs.HashMap.{IsReordered}
use Rattle.sms_segments.specs.contracts.kept_pieces.PlacePartialEq.TheImpl as place_eq
use Rattle.sms_segments.proofs.KeptLemmas.{kept-same, fits-same}
use Rattle.sms_segments.proofs.kept_pieces.KeptPieces.make_room.Goals as goal

pub returns-clause-pieces : goal.returns-clause-pieces
returns-clause-pieces c =
    let reordered : IsReordered place_eq.ghosts.eq c.self.inside.pieces c.reserve.new.self = c.reserve.ensures.entries in
    rw (← c.self.view_is) (kept-same c.self.inside.pieces c.reserve.new.self reordered.2)

pub invariant_of-self-2 : goal.invariant_of-self-2
invariant_of-self-2 c =
    let reordered : IsReordered place_eq.ghosts.eq c.self.inside.pieces c.reserve.new.self = c.reserve.ensures.entries in
    fits-same c.self.inside.pieces.entries c.reserve.new.self.entries (kept-same c.self.inside.pieces c.reserve.new.self reordered.2) c.self.invariant
