use Rattle.std.proofs.Common.{◌≡◌, ◌+◌, ◌-◌, None, [], add-one, drop, length, length-append, take, ap, refl, suc, sym, subst, ◌∙◌, arith}
use Rattle.std.specs.Prelude.{vec_len}
use Rattle.std.specs.Vec.Iter.{into_iter_items}
use Rattle.crossbeam_queue.specs.Passes.{view, IsPassOf}
use Rattle.senders.specs.Bench.{hand}
use Rattle.senders.specs.Pieces.{EachBeside}
use Rattle.senders.specs.declared.benches.Hand.{Hand}
use Rattle.senders.specs.declared.pieces.Work.{Work}
use Rattle.senders.proofs.RowLemmas.{drop_head}
use Rattle.senders.proofs.SeatingLemmas.{all_taken, beside_more}
use Rattle.senders.proofs.sharing.seat_all.Goals as goal

pub loop-row-init : goal.loop-row-init
loop-row-init g c =
    let parts = ap (λ (h : Hand). h.parts) c.requires.pass.1 in
    record {
      of = c.requires.pass.0;
      parts = omega (arith, parts);
      put = ap (λ (h : Hand). h.put) c.requires.pass.1;
      taken = ap (λ (h : Hand). h.taken) c.requires.pass.1;
      left = c.into_iter-left.ensures.rest;
      rest = let len = c.into_iter-left.ensures.len in let ok = c.args.rows.ok.0 in omega (arith, len, ok);
      within = omega arith;
      count = ap length c.requires.room.0;
      room = c.requires.room.1;
      made = subst (λ l. EachBeside (λ place row desk. (desk.number ≡ place + 1) × (desk.row ≡ row) × (desk.refused ≡ None) × IsPassOf c.args.bench.now desk.pass × (view {T = Work} {V = Hand} desk.pass ≡ hand 1 [] [])) 0 (take 0 c.args.rows.items) l) (sym c.requires.room.0) tt;
    }

pub overflow_add-number : goal.overflow_add-number
overflow_add-number g c =
    let within = c.loop-row.invariant.within in
    let few = c.requires.few in
    let len = c.args.rows.ok.0 in
    omega (arith, within, few, len)

pub split-requires : goal.split-requires
split-requires g c =
    let inv = c.loop-row.invariant in
    let parts = inv.parts in
    let within = inv.within in
    let few = c.requires.few in
    let len = c.args.rows.ok.0 in
    record { pass = (inv.of, omega (arith, parts, within, few, len)) }

pub loop-row-preserved : goal.loop-row-preserved
loop-row-preserved g c =
    let inv = c.loop-row.invariant in
    let first = sym inv.left ∙ c.in-Some.ensures.items in
    let d = drop_head c.args.rows.items c.loop-row.number c.in-Some.row (into_iter_items c.next.new.self) first in
    let lt = d.0 in
    let was = inv.parts in
    let parts = c.split.ensures.pass.3 in
    let kept = c.push_reserved.ensures.capacity in
    let room = inv.room in
    let n = inv.count in
    let long = ap length c.push_reserved.ensures.items in
    record {
      of = c.split.ensures.pass.0;
      parts = omega (arith, was, parts);
      put = c.split.ensures.pass.1 ∙ inv.put;
      taken = c.split.ensures.pass.2 ∙ inv.taken;
      left = sym d.2 ∙ ap (λ m. drop m c.args.rows.items) (sym (add-one c.loop-row.number));
      rest = let left = inv.rest in let one = c.in-Some.ensures.cases.1 in omega (arith, left, one);
      within = omega (arith, lt);
      count = long ∙ (length-append c.loop-row.desks.items _ ∙ omega (arith, n));
      room = omega (arith, room, kept);
      made = subst (λ m. EachBeside (λ place row desk. (desk.number ≡ place + 1) × (desk.row ≡ row) × (desk.refused ≡ None) × IsPassOf c.args.bench.now desk.pass × (view {T = Work} {V = Hand} desk.pass ≡ hand 1 [] [])) 0 (take m c.args.rows.items) c.push_reserved.new.self.items) (sym (add-one c.loop-row.number))
          (subst (λ l. EachBeside (λ place row desk. (desk.number ≡ place + 1) × (desk.row ≡ row) × (desk.refused ≡ None) × IsPassOf c.args.bench.now desk.pass × (view {T = Work} {V = Hand} desk.pass ≡ hand 1 [] [])) 0 (take (suc c.loop-row.number) c.args.rows.items) l) (sym c.push_reserved.ensures.items)
          (beside_more (λ place row desk. (desk.number ≡ place + 1) × (desk.row ≡ row) × (desk.refused ≡ None) × IsPassOf c.args.bench.now desk.pass × (view {T = Work} {V = Hand} desk.pass ≡ hand 1 [] [])) 0 c.loop-row.number c.args.rows.items c.loop-row.desks.items c.in-Some.row (into_iter_items c.next.new.self) _ first inv.made
          (omega arith, refl, refl, c.split.ensures.other.0, c.split.ensures.other.1)));
    }

pub returns-clause-pass : goal.returns-clause-pass
returns-clause-pass g c =
    let inv = c.loop-row.invariant in
    let left = inv.rest in
    let end = c.in_default.ensures.cases.0 in
    let parts = inv.parts in
    let within = inv.within in
    let len = c.args.rows.ok.0 in (
      inv.of,
      ap (λ n. hand n (view {T = Work} {V = Hand} c.loop-row.pass).put (view {T = Work} {V = Hand} c.loop-row.pass).taken) (omega (arith, left, end, parts, within, len))
          ∙ (ap (λ l. hand (1024 - vec_len c.args.rows) l (view {T = Work} {V = Hand} c.loop-row.pass).taken) inv.put
          ∙ ap (λ l. hand (1024 - vec_len c.args.rows) g.P.Terms.works l) inv.taken),
    )

pub returns-clause-desks : goal.returns-clause-desks
returns-clause-desks g c =
    let inv = c.loop-row.invariant in
    subst (λ l. EachBeside (λ place row desk. (desk.number ≡ place + 1) × (desk.row ≡ row) × (desk.refused ≡ None) × IsPassOf c.args.bench.now desk.pass × (view {T = Work} {V = Hand} desk.pass ≡ hand 1 [] [])) 0 l c.loop-row.desks.items)
    (all_taken c.loop-row.number c.args.rows.items (let left = inv.rest in let end = c.in_default.ensures.cases.0 in omega (arith, left, end))) inv.made
