use Rattle.std.proofs.Common.{List, ap, sym, subst, ◌∙◌}
use Rattle.crossbeam_queue.specs.Passes.{view, IsPassOf}
use Rattle.senders.specs.Desks.{IsDesk}
use Rattle.senders.specs.declared.benches.Hand.{Hand}
use Rattle.senders.specs.declared.pieces.Work.{Work}
use Rattle.senders.proofs.sharing.serve_all.Goals as goal

pub loop-preserved : goal.loop-preserved
loop-preserved g c =
    let same = c.serve_piece.ensures.same in
    let took = c.in-Some-take.ensures.taken in
    let inv = c.loop.invariant in
    record {
      of = subst (λ p. IsPassOf c.args.bench.now p) (sym same.1) c.take.ensures.pass;
      parts = ap (λ p. (view {T = Work} {V = Hand} p).parts) same.1 ∙ (ap (λ (h : Hand). h.parts) took.0 ∙ inv.parts);
      put = ap (λ p. (view {T = Work} {V = Hand} p).put) same.1 ∙ (ap (λ (h : Hand). h.put) took.0 ∙ inv.put);
      number = same.0 ∙ inv.number;
      seated = c.serve_piece.ensures.seated;
      desk = λ numbers start.
          subst (λ (l : List Work). IsDesk g.P.Terms.works numbers l c.args.locks.now c.serve_piece.new.desk.row.items c.serve_piece.new.desk.refused)
          (sym (ap (λ p. (view {T = Work} {V = Hand} p).taken) same.1 ∙ ap (λ (h : Hand). h.taken) took.0))
          (c.serve_piece.ensures.desk numbers (view c.loop.desk.pass).taken (inv.desk numbers start));
    }
