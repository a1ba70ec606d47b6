use Rattle.std.proofs.Common.{◌+◌, ◌∷◌, [], All, length, ap, refl, subst, sym, ◌∙◌, arith, length-append}
use Rattle.crossbeam_queue.specs.Passes.{view, IsPassOf}
use Rattle.lane_lock.specs.Numbers.{same, total}
use Rattle.lane_lock.proofs.Trials.{all_front}
use Rattle.lane_lock.proofs.Counting.{total_append}
use Rattle.senders.specs.Desks.{IsReady}
use Rattle.senders.specs.declared.benches.Hand.{Hand}
use Rattle.senders.specs.declared.pieces.Work.{Work}
use Rattle.senders.proofs.HeldLemmas.{all_last, none_more, desk_numbers, desk_seated, numbers_more}
use Rattle.senders.proofs.sharing.join_rest.Goals as goal

pub loop-desk-init : goal.loop-desk-init
loop-desk-init g c = record {
  of = c.requires.pass.0;
  some = c.requires.pass.1;
  seated = c.requires.seated;
  ready = c.requires.desks;
  parts = refl;
  put = λ h. refl;
  desk = λ numbers start. (numbers, start, λ n. refl);
}

pub join-requires-clause-passes : goal.join-requires-clause-passes
join-requires-clause-passes g c = λ κs lives.
    let inv = c.loop-desk.invariant in
    let last = all_last (λ desk. IsPassOf c.args.bench.now desk.pass × IsReady g.P.Terms.works c.args.locks.now desk.number (view {T = Work} {V = Hand} desk.pass) desk.row.items desk.refused) c.pop.new.self.items c.loop-desk.rest.items c.in-Some.desk c.in-Some.ensures.items inv.ready in
    (inv.of, last.0, inv.some)

pub join-requires-clause-seated : goal.join-requires-clause-seated
join-requires-clause-seated g c = λ κs lives.
    let inv = c.loop-desk.invariant in
    let last = all_last (λ desk. IsPassOf c.args.bench.now desk.pass × IsReady g.P.Terms.works c.args.locks.now desk.number (view {T = Work} {V = Hand} desk.pass) desk.row.items desk.refused) c.pop.new.self.items c.loop-desk.rest.items c.in-Some.desk c.in-Some.ensures.items inv.ready in
    (inv.seated, desk_seated _ _ _ _ _ _ last.1.2)

pub loop-desk-preserved : goal.loop-desk-preserved
loop-desk-preserved g c =
    let inv = c.loop-desk.invariant in
    let items = c.in-Some.ensures.items in
    let last = all_last (λ desk. IsPassOf c.args.bench.now desk.pass × IsReady g.P.Terms.works c.args.locks.now desk.number (view {T = Work} {V = Hand} desk.pass) desk.row.items desk.refused) c.pop.new.self.items c.loop-desk.rest.items c.in-Some.desk items inv.ready in
    let joined = c.join.ensures.pass.1 in
    let parts = ap (λ (h : Hand). h.parts) joined in
    let one = last.1.0 in
    let some = inv.some in
    let sum = inv.parts in
    let long = ap length items in
    let more = length-append c.pop.new.self.items (c.in-Some.desk ∷ []) in
    record {
      of = c.join.ensures.pass.0;
      some = omega (arith, parts, some);
      seated = c.join.ensures.seated;
      ready = all_front (λ desk. IsPassOf c.args.bench.now desk.pass × IsReady g.P.Terms.works c.args.locks.now desk.number (view {T = Work} {V = Hand} desk.pass) desk.row.items desk.refused) c.pop.new.self.items _ (subst (λ l. All (λ desk. IsPassOf c.args.bench.now desk.pass × IsReady g.P.Terms.works c.args.locks.now desk.number (view {T = Work} {V = Hand} desk.pass) desk.row.items desk.refused) l) items inv.ready);
      parts = omega (arith, parts, one, sum, long, more);
      put = λ h.
          let a = ap (λ (w : Hand). total h w.put) joined in
          let b = total_append h (view {T = Work} {V = Hand} c.loop-desk.all.pass).put (view {T = Work} {V = Hand} c.in-Some.desk.pass).put in
          let d = ap (total h) last.1.1 in
          let e = inv.put h in
          omega (arith, a, b, d, e);
      desk = λ numbers start.
          let before = inv.desk numbers start in (
            (λ n. before.0 n + same n c.in-Some.desk.number),
            c.join.ensures.joined before.0 (λ n. same n c.in-Some.desk.number) before.1 last.1.2,
            λ n. numbers_more (same n) (λ desk. desk.number) c.pop.new.self.items c.loop-desk.rest.items c.in-Some.desk (before.0 n) _ items (before.2 n),
          );
    }

pub returns-clause-desk : goal.returns-clause-desk
returns-clause-desk g c = λ numbers others start sums.
    let last = c.loop-desk.invariant.desk numbers start in
    let none = sym c.loop-desk.rest.ok.0 ∙ c.in_default.ensures.cases.0 in
    desk_numbers _ last.0 others _ _ _ _ (λ n. none_more (last.0 n) (same n) (λ desk. desk.number) c.loop-desk.rest.items _ _ none (last.2 n) (sums n)) last.1
