use Rattle.std.proofs.Common.{◌≡◌, ◌+◌, ◌&&◌, nat_lt, nat_le, ap, ◌∙◌}
use Rattle.std.specs.FinMap as map
use Rattle.card_files.specs.State.{room_of}
use Rattle.card_files.proofs.RoomLemmas.{room-test}
use Rattle.card_files.proofs.tree.Tree.has_room.Goals as goal

pub returns : goal.returns
returns c =
    let more : c.from.result ≡ c.args.size = c.from.ensures in
    c.fit.ensures ∙ room-test c.self.inside.files.entries c.args.self.now c.len.result c.self.inside.taken c.from.result c.self.view_is c.len.ensures.ordered c.len.ensures.len c.self.invariant.0
    ∙ ap (λ n. nat_lt (map.len c.args.self.now) 256 && nat_le (room_of c.args.self.now + n) 32768) more
