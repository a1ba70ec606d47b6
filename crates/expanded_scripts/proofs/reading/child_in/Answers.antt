use Rattle.std.proofs.Common.{rules, ◌≡◌, ℕ, ◌-◌, List, length, take, drop, subst, arith, length-drop}
use Rattle.std.proofs.lemmas.List.{take_all}
use Rattle.expanded_scripts.specs.Template.{HasValue}
use Rattle.expanded_scripts.proofs.reading.child_in.Goals as goal

pub returns-in-Some-2-clause-child : goal.returns-in-Some-2-clause-child
returns-in-Some-2-clause-child c =
    let left = c.args.left.now in
    let all : take (length left - 1) (drop 1 left) ≡ drop 1 left = take_all (length left - 1) (drop 1 left) (omega (arith, length-drop 1 left)) in
    let P : List ℕ → Type 0 = λ r. HasValue r c.in-Some.found.0.now c.in-Some.found.1.now in
    let command = rw c.in-Some-2.is at c.in_ok-plain.ensures.command in record {
      value = c.in-Some.found.0.now;
      rest = drop 1 c.args.left.now;
      tagged = search rules;
      holds = subst P all c.in-Some.ensures.found;
      command = command;
    }
