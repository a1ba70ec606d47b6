use Rattle.std.proofs.Common.{◌+◌, All, add-one, length, drop, map, ap, subst, sym, ◌∙◌, arith}
use Rattle.crossbeam_queue.specs.Passes.{view, IsPassOf}
use Rattle.lane_lock.specs.Numbers.{same, total, within}
use Rattle.lane_lock.proofs.Trials.{numbers_to}
use Rattle.senders.specs.Desks.{IsReady}
use Rattle.senders.specs.declared.benches.Hand.{Hand}
use Rattle.senders.specs.declared.pieces.Work.{Work}
use Rattle.senders.proofs.HeldLemmas.{map_same, written}
use Rattle.senders.proofs.sharing.share.Goals as goal

pub join_all-all-requires-clause-desks : goal.join_all-all-requires-clause-desks
join_all-all-requires-clause-desks g c = λ κs lives. subst (λ l. All (λ desk. IsPassOf c.args.bench.now desk.pass × IsReady g.P.Terms.works c.args.locks.now desk.number (view {T = Work} {V = Hand} desk.pass) desk.row.items desk.refused) l) (sym (written c.args.desks.len c.run.new.desks _ (c.run.auto.desks ∙ (ap length c.as_mut_slice.ensures.value ∙ sym c.args.desks.ok.0)))) c.run.ensures.desks

pub serve_all-requires-clause-pass : goal.serve_all-requires-clause-pass
serve_all-requires-clause-pass g c = λ κs lives.
    let sum = c.join_all-all.ensures.pass.1 in
    let parts = ap (λ (h : Hand). h.parts) c.requires.pass.1 in
    let few = c.requires.senders.1 in
    (c.join_all-all.ensures.pass.0, omega (arith, sum, parts, few))

pub returns-clause-desk : goal.returns-clause-desk
returns-clause-desk g c = c.serve_all.ensures.desk (within 1 (c.args.desks.len + 1)) (c.join_all-all.ensures.desk (within 1 (c.args.desks.len + 1)) (λ n. ap (λ l. total (same n) (map (λ desk. desk.number) l)) (written c.args.desks.len c.run.new.desks _ (c.run.auto.desks ∙ (ap length c.as_mut_slice.ensures.value ∙ sym c.args.desks.ok.0))) ∙ (ap (total (same n)) (map_same (λ desk. desk.number) c.as_mut_slice.result.now c.run.new.desks c.run.auto.desks c.run.ensures.numbers ∙ (ap (map (λ desk. desk.number)) c.as_mut_slice.ensures.value ∙ c.requires.numbers)) ∙ (numbers_to n c.args.desks.len ∙ ap (λ m. within 1 m n) (sym (add-one c.args.desks.len))))))

pub returns-clause-whole : goal.returns-clause-whole
returns-clause-whole g c = λ h.
    let sum = c.join_all-all.ensures.pass.1 in
    let parts = ap (λ (w : Hand). w.parts) c.requires.pass.1 in
    let few = c.requires.senders.1 in
    let long = ap length (written c.args.desks.len c.run.new.desks (drop (length c.run.new.desks) c.args.desks.items) (c.run.auto.desks ∙ (ap length c.as_mut_slice.ensures.value ∙ sym c.args.desks.ok.0))) in
    let same_length = c.run.auto.desks ∙ ap length c.as_mut_slice.ensures.value in
    let len = c.args.desks.ok.0 in
    let kept = c.serve_all.ensures.pass.1 in
    let a = c.serve_all.ensures.empty (omega (arith, sum, parts, few, long, same_length, len, kept)) h in
    let b = ap (total h) c.serve_all.ensures.pass.2 in
    let d = c.join_all-all.ensures.put h in
    let e = ap (λ (w : Hand). total h w.put) c.requires.pass.1 in
    omega (arith, a, b, d, e)
