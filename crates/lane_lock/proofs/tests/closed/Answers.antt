use Rattle.std.proofs.Common.{rules, arith}
use Rattle.lane_lock.specs.Views.{numbered}
use Rattle.lane_lock.specs.Locks.{view_of}
use Rattle.lane_lock.proofs.Counting.{Each_map}
use Rattle.lane_lock.proofs.Trials.{all_from_each, all_there, fresh_number}
use Rattle.lane_lock.proofs.tests.closed.Goals as goal

pub all_add-requires : goal.all_add-requires
all_add-requires g c = (search rules, all_from_each _ _ (Each_map _ _ _ (λ s h. h.0) c.in-Ok.ensures.fresh))

pub close-requires-clause-all : goal.close-requires-clause-all
close-requires-clause-all g c = λ κs n number.
    let made = c.in-Ok.made.1 in
    let a = made.ok.0 in
    let b = c.in_ok-seats.seats.ok.0 in
    let same_len = c.in_ok-seats.ensures.len in
    all_there n c.args.seats _ (λ s. numbered n (view_of s).parts) (λ s. s.number) made.items c.in_ok-seats.seats.items _ c.in-Some.first _
    (c.gather-seat.ensures.numbers n) c.in-Some.ensures.items (omega arith) (λ i d h. c.in_ok-seats.ensures.numbers n i d (omega arith))
    (Each_map _ _ _ (λ s h. fresh_number n _ _ _ _ h.1) c.in-Ok.ensures.fresh) c.in-Ok.ensures.numbers c.in-Ok.ensures.key.2 number.0 number.1
