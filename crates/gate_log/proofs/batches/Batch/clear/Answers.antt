use Rattle.std.proofs.Common.{◌≡◌, ℕ, List, length, ◌++◌, ◌∷◌, [], vec_capacity, ap, ◌∙◌, sym, arith}
use Rattle.gate_log.specs.Batches.{BatchState, octets_in, framed, kept_empty, same_state, none_framed, framed-none}
use Rattle.gate_log.proofs.batches.Batch.clear.Goals as goal

pub invariant_of-self : goal.invariant_of-self
invariant_of-self c =
    let is : c.put.new.octets.items ≡ framed [] = c.put.ensures.items ∙ ap (λ (l : List ℕ). l ++ 0 ∷ 0 ∷ 0 ∷ 0 ∷ 0 ∷ []) c.truncate.ensures.items ∙ sym framed-none in
    let kept = c.self.invariant in
    let long : c.len.result ≡ length c.self.inside.octets.items = omega (arith, c.len.ensures, c.self.inside.octets.ok.0) in
    kept_empty c.put.new.octets.items (vec_capacity c.put.new.octets) _ _ is (omega (arith, kept.few)) (omega (arith, kept.short, kept.long, long))
    (omega (arith, kept.fits, kept.long, long, c.put.ensures.capacity, c.truncate.ensures.capacity))

pub returns : goal.returns
returns c =
    let is : c.put.new.octets.items ≡ framed [] = c.put.ensures.items ∙ ap (λ (l : List ℕ). l ++ 0 ∷ 0 ∷ 0 ∷ 0 ∷ 0 ∷ []) c.truncate.ensures.items ∙ sym framed-none in
    let kept = c.self.invariant in
    let long : c.len.result ≡ length c.self.inside.octets.items = omega (arith, c.len.ensures, c.self.inside.octets.ok.0) in
    let parts = ap (λ (s : BatchState). s.parts) c.self.view_is in
    let parts_room = ap (λ (s : BatchState). s.parts_room) c.self.view_is in
    let octets_room = ap (λ (s : BatchState). s.octets_room) c.self.view_is in
    same_state _ _ _ _ _ _ (none_framed c.put.new.octets.items is)
    (omega (arith, parts_room, kept.held_is, ap length parts)) (omega (arith, octets_room, kept.long, long, ap octets_in parts))
