use Rattle.std.proofs.Common.{◌≡◌, ℕ, Bool, true, false, List, Option, Some, None, sym, subst}
use Rattle.counter_journal.specs.HistoryReading.{IsTaken, IsReadSoFar}
use Rattle.counter_journal.proofs.HistoryLaws.{read_more, kept_on, stops_here, stops_on}
use Rattle.counter_journal.proofs.openings.take_part.Goals as goal

pub returns-then-taken-clause-read : goal.returns-then-taken-clause-read
returns-then-taken-clause-read c = λ parts read place.
    let taken = subst (λ (b : Bool). IsTaken c.args.lane c.args.lanes c.args.past.now c.args.part.now b c.take.new.self) c.if-taken.true c.in_ok-taken-in-None.ensures.taken in
    read_more c.args.lane c.args.lanes parts c.args.past.now c.take.new.self c.args.part.now
    (subst (λ (w : Option ℕ). IsReadSoFar c.args.lane c.args.lanes parts c.args.past.now w) c.in-None.is read) taken c.in_ok-taken-in-None.ensures.stands

pub returns-then-taken-clause-kept : goal.returns-then-taken-clause-kept
returns-then-taken-clause-kept c =
    let taken = subst (λ (b : Bool). IsTaken c.args.lane c.args.lanes c.args.past.now c.args.part.now b c.take.new.self) c.if-taken.true c.in_ok-taken-in-None.ensures.taken in
    kept_on c.args.lane c.args.lanes c.args.past.now c.take.new.self c.args.part.now c.requires.kept taken c.in_ok-taken-in-None.ensures.stands

pub returns-in-Some-clause-read : goal.returns-in-Some-clause-read
returns-in-Some-clause-read c = λ parts read place.
    stops_on c.args.lane c.args.lanes parts c.in-Some.first c.args.part.now (subst (λ (w : Option ℕ). IsReadSoFar c.args.lane c.args.lanes parts c.args.past.now w) c.in-Some.is read)
