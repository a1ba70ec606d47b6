use Rattle.std.proofs.Common.{◌≡◌, rules, Some}
use Rattle.std.specs.HashMap.{Updates}
use Rattle.sms_segments.specs.contracts.kept_pieces.PlacePartialEq.TheImpl as place_eq
use Rattle.sms_segments.proofs.KeptLemmas.{at_most-134, kept-put, fits-put}
use Rattle.sms_segments.proofs.kept_pieces.KeptPieces.keep.Goals as goal
use Rattle.sms_segments.proofs.kept_pieces.KeptPieces.keep.Goals.{in-Ok, in-Err}

-- what is kept once the piece is in the map
pub returns-clause-ok : goal.returns-clause-ok
returns-clause-ok c = elim c.match-insert.branch [
  | in-Ok w ↦
      let updates : Updates place_eq.ghosts.eq c.self.inside.pieces c.insert.new.self c.args.arrival (Some c.try_extend_from_slice.new.self) = search rules in
      let puts = kept-put c.self.inside.pieces c.insert.new.self c.args.arrival c.try_extend_from_slice.new.self updates.0 in
      let short = at_most-134 c.args.arrival.place in
      let octets : c.try_extend_from_slice.new.self.items ≡ c.args.octets.now = search rules in
      rw (w.result-is, ← c.self.view_is, ← octets) puts
  | in-Err w ↦ search rules
]

pub invariant_of-self : goal.invariant_of-self
invariant_of-self c = elim c.match-insert.branch [
  | in-Ok w ↦
      let updates : Updates place_eq.ghosts.eq c.self.inside.pieces c.insert.new.self c.args.arrival (Some c.try_extend_from_slice.new.self) = search rules in
      let puts = kept-put c.self.inside.pieces c.insert.new.self c.args.arrival c.try_extend_from_slice.new.self updates.0 in
      let short = at_most-134 c.args.arrival.place in
      let octets : c.try_extend_from_slice.new.self.items ≡ c.args.octets.now = search rules in
      fits-put c.self.inside.pieces.entries c.insert.new.self.entries c.args.arrival.of c.args.arrival.place c.try_extend_from_slice.new.self.items puts (rw octets c.requires) c.self.invariant
  | in-Err w ↦ search rules
]
