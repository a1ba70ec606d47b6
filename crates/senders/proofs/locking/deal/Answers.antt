use Rattle.std.proofs.Common.{◌≡◌, ◌∷◌, ◌++◌, [], Some, ◌∙◌, subst, sym, arith}
use Rattle.std.specs.Prelude.{vec_capacity}
use Rattle.senders.proofs.LockingLemmas.{dealt_at}
use Rattle.senders.proofs.locking.deal.Goals as goal

pub loop-seat-preserved : goal.loop-seat-preserved
loop-seat-preserved g c = dealt_at (λ old seat new. (vec_capacity new ≡ vec_capacity old) × (new.items ≡ old.items ++ Some seat ∷ [])) c.args.rows.now c.args.seats.items c.loop-seat.seats.len c.pop.new.self.len
    c.len.result c.loop-seat.rows c.loop-seat.seats.items c.pop.new.self.items c.in-Some.seat c.index-rows-len.result c.push_reserved.new.self c.pop.new.self.ok.0 (c.len.ensures ∙ c.pop.new.self.ok.0)
    c.loop-seat.invariant c.in-Some.ensures.items c.index-rows-len.is
    (subst (λ old. (vec_capacity c.push_reserved.new.self ≡ vec_capacity old) × (c.push_reserved.new.self.items ≡ old.items ++ Some c.in-Some.seat ∷ [])) (sym c.index-rows-len.is)
    (c.push_reserved.ensures.capacity, c.push_reserved.ensures.items))

pub returns-clause-dealt : goal.returns-clause-dealt
returns-clause-dealt g c = λ place row seat lt. let end = c.in_default.ensures.cases.0 in c.loop-seat.invariant.done place row seat (omega (arith, end)) lt
