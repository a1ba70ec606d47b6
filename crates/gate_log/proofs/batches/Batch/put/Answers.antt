use Rattle.std.proofs.Common.{ℕ, ◌-◌, ◌≤◌, length, vec_capacity, ap, ◌∙◌, arith}
use Rattle.gate_log.specs.Batches.{BatchState, kept_put, kept_more, same_state}
use Rattle.std.proofs.Common.{List, ◌++◌, ◌∷◌, []}
use Rattle.gate_log.proofs.batches.Batch.put.Goals as goal

pub invariant_of-self : goal.invariant_of-self
invariant_of-self c =
    let parts_room = ap (λ (s : BatchState). s.parts_room) c.self.view_is in
    let octets_room = ap (λ (s : BatchState). s.octets_room) c.self.view_is in
    let some : 1 ≤ c.self.inside.parts_room = omega (arith, parts_room, c.requires.some) in
    let room : length c.args.part.now ≤ c.self.inside.octets_room = omega (arith, octets_room, c.requires.room) in
    let kept = kept_put c.self.inside.octets.items c.add_part.new.octets.items c.args.part.now (vec_capacity c.self.inside.octets) _ _ _ c.self.invariant some room c.add_part.ensures.items in
    kept_more _ _ _ _ _ _ kept.0 c.add_part.ensures.capacity

pub returns : goal.returns
returns c =
    let parts = ap (λ (s : BatchState). s.parts) c.self.view_is in
    let parts_room = ap (λ (s : BatchState). s.parts_room) c.self.view_is in
    let octets_room = ap (λ (s : BatchState). s.octets_room) c.self.view_is in
    let some : 1 ≤ c.self.inside.parts_room = omega (arith, parts_room, c.requires.some) in
    let room : length c.args.part.now ≤ c.self.inside.octets_room = omega (arith, octets_room, c.requires.room) in
    let kept = kept_put c.self.inside.octets.items c.add_part.new.octets.items c.args.part.now (vec_capacity c.self.inside.octets) _ _ _ c.self.invariant some room c.add_part.ensures.items in
    same_state _ _ _ _ _ _ (kept.1 ∙ ap (λ (l : List (List ℕ)). l ++ c.args.part.now ∷ []) parts) (ap (λ (n : ℕ). n - 1) parts_room) (ap (λ (n : ℕ). n - length c.args.part.now) octets_room)
