use Rattle.std.proofs.Common.{◌≡◌, ℕ, Bool, true, false, List, Option, Some, None, sym, subst}
use Rattle.card_store.specs.Kept.{IsTaken}
use Rattle.card_store.specs.Opening.{IsReplayedSoFar}
use Rattle.card_store.proofs.Taken.{replayed_on, stops_here, stops_on, shown_on}
use Rattle.card_store.proofs.openings.take_part.Goals as goal

pub returns-then-taken-clause-replayed : goal.returns-then-taken-clause-replayed
returns-then-taken-clause-replayed c = λ parts so_far place.
    replayed_on c.args.facts.now parts c.args.kept.now c.take_part.new.self c.args.part.now (subst (λ (b : Option ℕ). IsReplayedSoFar c.args.facts.now parts c.args.kept.now b) c.in-None.is so_far)
    (λ content shows. subst (λ (b : Bool). IsTaken c.args.facts.now content c.args.part.now b c.take_part.new.self) c.if-taken.true (c.in_ok-taken-in-None.ensures content shows))

pub returns-else-taken-clause-replayed : goal.returns-else-taken-clause-replayed
returns-else-taken-clause-replayed c = λ parts so_far place.
    stops_here c.args.facts.now parts c.args.kept.now c.take_part.new.self c.args.part.now c.args.number (subst (λ (b : Option ℕ). IsReplayedSoFar c.args.facts.now parts c.args.kept.now b) c.in-None.is so_far)
    (λ content shows. subst (λ (b : Bool). IsTaken c.args.facts.now content c.args.part.now b c.take_part.new.self) c.if-taken.false (c.in_ok-taken-in-None.ensures content shows)) place

pub returns-in-Some-clause-replayed : goal.returns-in-Some-clause-replayed
returns-in-Some-clause-replayed c = λ parts so_far place.
    stops_on c.args.facts.now parts c.in-Some.first c.args.part.now (subst (λ (b : Option ℕ). IsReplayedSoFar c.args.facts.now parts c.args.kept.now b) c.in-Some.is so_far)

pub returns-then-taken-clause-shown : goal.returns-then-taken-clause-shown
returns-then-taken-clause-shown c = shown_on c.args.facts.now c.args.part.now c.take_part.new.self c.in_ok-taken-in-None.taken c.requires.0 (c.in_ok-taken-in-None.ensures c.requires.0 c.requires.1)

pub returns-else-taken-clause-shown : goal.returns-else-taken-clause-shown
returns-else-taken-clause-shown c = shown_on c.args.facts.now c.args.part.now c.take_part.new.self c.in_ok-taken-in-None.taken c.requires.0 (c.in_ok-taken-in-None.ensures c.requires.0 c.requires.1)
