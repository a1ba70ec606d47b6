use Rattle.std.proofs.Common.{rules, ◌≡◌, inr, ℕ, ◌-◌, List, [], length, take, drop, refl, subst, arith, length-drop}
use Rattle.std.proofs.lemmas.List.{take_all}
use Rattle.expanded_scripts.specs.Template.{HasValue}
use Rattle.expanded_scripts.proofs.reading.children_in.Goals as goal

pub returns-in-None-clause-refused : goal.returns-in-None-clause-refused
returns-in-None-clause-refused c =
    let octets = c.args.octets.now in
    let all : take (length octets - 1) (drop 1 octets) ≡ drop 1 octets = take_all (length octets - 1) (drop 1 octets) (omega (arith, length-drop 1 octets)) in
    let P : List ℕ → Type 0 = λ r. (children : List ℕ) → HasValue r children [] → ⊥ in
    (refl, record { rest = drop 1 c.args.octets.now; tagged = search rules; wrong = inr (subst P all c.in-None.ensures.none) })
