use Rattle.std.proofs.Common.{◌++◌, ◌∷◌, [], All, length, ap, subst, sym, ◌∙◌, arith, append-nil, length-append}
use Rattle.crossbeam_queue.specs.Passes.{view, IsPassOf}
use Rattle.lane_lock.specs.Numbers.{same, total}
use Rattle.lane_lock.proofs.Trials.{all_front}
use Rattle.lane_lock.proofs.Counting.{total_append}
use Rattle.senders.specs.Desks.{IsDesk, IsReady}
use Rattle.senders.specs.declared.benches.Hand.{Hand}
use Rattle.senders.specs.declared.pieces.Work.{Work}
use Rattle.senders.proofs.HeldLemmas.{all_last, desk_seated, numbers_first}
use Rattle.senders.proofs.sharing.join_all.Goals as goal

pub join_rest-requires-clause-pass : goal.join_rest-requires-clause-pass
join_rest-requires-clause-pass g c = λ κs lives.
    let last = all_last (λ desk. IsPassOf c.args.bench.now desk.pass × IsReady g.P.Terms.works c.args.locks.now desk.number (view {T = Work} {V = Hand} desk.pass) desk.row.items desk.refused) c.pop.new.self.items c.args.desks.items c.in-Some.first c.in-Some.ensures.items c.requires.desks in
    let one = last.1.0 in
    let parts = ap (λ (h : Hand). h.parts) c.unite.ensures.1 in
    (c.unite.ensures.0, omega (arith, one, parts))

pub join_rest-requires-clause-seated : goal.join_rest-requires-clause-seated
join_rest-requires-clause-seated g c = λ κs lives. let last = all_last (λ desk. IsPassOf c.args.bench.now desk.pass × IsReady g.P.Terms.works c.args.locks.now desk.number (view {T = Work} {V = Hand} desk.pass) desk.row.items desk.refused) c.pop.new.self.items c.args.desks.items c.in-Some.first c.in-Some.ensures.items c.requires.desks in desk_seated _ _ _ _ _ _ last.1.2

pub join_rest-requires-clause-desks : goal.join_rest-requires-clause-desks
join_rest-requires-clause-desks g c = λ κs lives. all_front (λ desk. IsPassOf c.args.bench.now desk.pass × IsReady g.P.Terms.works c.args.locks.now desk.number (view {T = Work} {V = Hand} desk.pass) desk.row.items desk.refused) c.pop.new.self.items _ (subst (λ l. All (λ desk. IsPassOf c.args.bench.now desk.pass × IsReady g.P.Terms.works c.args.locks.now desk.number (view {T = Work} {V = Hand} desk.pass) desk.row.items desk.refused) l) c.in-Some.ensures.items c.requires.desks)

pub unite-requires : goal.unite-requires
unite-requires g c =
    let last = all_last (λ desk. IsPassOf c.args.bench.now desk.pass × IsReady g.P.Terms.works c.args.locks.now desk.number (view {T = Work} {V = Hand} desk.pass) desk.row.items desk.refused) c.pop.new.self.items c.args.desks.items c.in-Some.first c.in-Some.ensures.items c.requires.desks in
    let one = last.1.0 in
    record { pass = (last.0, c.requires.pass.0, omega (arith, one)) }

pub returns-clause-pass : goal.returns-clause-pass
returns-clause-pass g c =
    let last = all_last (λ desk. IsPassOf c.args.bench.now desk.pass × IsReady g.P.Terms.works c.args.locks.now desk.number (view {T = Work} {V = Hand} desk.pass) desk.row.items desk.refused) c.pop.new.self.items c.args.desks.items c.in-Some.first c.in-Some.ensures.items c.requires.desks in
    let one = last.1.0 in
    let parts = ap (λ (h : Hand). h.parts) c.unite.ensures.1 in
    let sum = c.join_rest.ensures.pass.1 in
    let long = ap length c.in-Some.ensures.items in
    let more = length-append c.pop.new.self.items (c.in-Some.first ∷ []) in
    (c.join_rest.ensures.pass.0, omega (arith, one, parts, sum, long, more))

pub returns-clause-put : goal.returns-clause-put
returns-clause-put g c = λ h.
    let last = all_last (λ desk. IsPassOf c.args.bench.now desk.pass × IsReady g.P.Terms.works c.args.locks.now desk.number (view {T = Work} {V = Hand} desk.pass) desk.row.items desk.refused) c.pop.new.self.items c.args.desks.items c.in-Some.first c.in-Some.ensures.items c.requires.desks in
    let a = c.join_rest.ensures.put h in
    let b = ap (λ (w : Hand). total h w.put) c.unite.ensures.1 in
    let d = total_append h (view {T = Work} {V = Hand} c.in-Some.first.pass).put (view {T = Work} {V = Hand} c.args.pass).put in
    let e = ap (total h) last.1.1 in
    omega (arith, a, b, d, e)

pub returns-clause-desk : goal.returns-clause-desk
returns-clause-desk g c = λ numbers sums.
    let last = all_last (λ desk. IsPassOf c.args.bench.now desk.pass × IsReady g.P.Terms.works c.args.locks.now desk.number (view {T = Work} {V = Hand} desk.pass) desk.row.items desk.refused) c.pop.new.self.items c.args.desks.items c.in-Some.first c.in-Some.ensures.items c.requires.desks in
    let had = (view {T = Work} {V = Hand} c.in-Some.first.pass).taken in
    c.join_rest.ensures.desk (λ n. same n c.in-Some.first.number) numbers
    (subst (λ l. IsDesk g.P.Terms.works (λ n. same n c.in-Some.first.number) l c.args.locks.now c.in-Some.first.row.items c.in-Some.first.refused)
    (sym (ap (λ (h : Hand). h.taken) c.unite.ensures.1 ∙ (ap (λ l. had ++ l) c.requires.pass.1 ∙ append-nil had))) last.1.2)
    (λ n. numbers_first (same n) (λ desk. desk.number) c.pop.new.self.items c.args.desks.items c.in-Some.first (numbers n) c.in-Some.ensures.items (sums n))
