use Rattle.std.proofs.Common.{◌≡◌, ℕ, ◌+◌, ◌*◌, ◌≤◌, List, ◌++◌, ◌∷◌, [], vec_capacity, refl, ap, ◌∙◌, sym, arith}
use Rattle.gate_log.specs.Batches.{framed, kept_empty, same_state, none_framed, framed-none}
use Rattle.gate_log.proofs.batches.Batch.room.Goals as goal

pub invariant_of-result : goal.invariant_of-result
invariant_of-result c =
    let is : c.put.new.octets.items ≡ framed [] = c.put.ensures.items ∙ ap (λ (l : List ℕ). l ++ 0 ∷ 0 ∷ 0 ∷ 0 ∷ 0 ∷ []) c.in_ok-framed.ensures.items ∙ sym framed-none in
    let fits : 5 + 4 * c.args.parts + c.args.octets ≤ vec_capacity c.put.new.octets = omega (arith, c.put.ensures.capacity, c.in_ok-framed.ensures.exact) in
    kept_empty c.put.new.octets.items (vec_capacity c.put.new.octets) c.args.parts c.args.octets is c.requires.few c.requires.short fits

pub returns : goal.returns
returns c =
    let is : c.put.new.octets.items ≡ framed [] = c.put.ensures.items ∙ ap (λ (l : List ℕ). l ++ 0 ∷ 0 ∷ 0 ∷ 0 ∷ 0 ∷ []) c.in_ok-framed.ensures.items ∙ sym framed-none in
    same_state _ _ _ _ _ _ (none_framed c.put.new.octets.items is) refl refl
