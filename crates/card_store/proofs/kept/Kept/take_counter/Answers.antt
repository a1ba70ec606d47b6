use Rattle.card_store.proofs.Taken.{counter_taken}
use Rattle.card_store.proofs.kept.Kept.take_counter.Goals as goal

pub returns-in_ok-store_counter-in-Some : goal.returns-in_ok-store_counter-in-Some
returns-in_ok-store_counter-in-Some c = λ content shows.
    counter_taken c.args.facts.now content c.in-Some.keyset c.args.part.now.kvn c.args.part.now.counter c.args.part.now.tar c.args.part.now.body.now c.store_counter.new.self
    (c.in-Some.ensures.keyset content shows) (c.in_ok-store_counter-in-Some.ensures.stored content shows)
