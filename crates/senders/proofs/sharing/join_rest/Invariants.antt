use Rattle.std.proofs.Common.{◌≡◌, ◌+◌, ◌<◌, ℕ, All, length, map}
use Rattle.crossbeam_queue.specs.Passes.{view, IsPassOf}
use Rattle.lane_lock.specs.Numbers.{same, total}
use Rattle.senders.specs.Desks.{IsDesk, IsReady, IsSeated}
use Rattle.senders.specs.declared.pieces.Work.{Work}
use Rattle.senders.proofs.sharing.join_rest.Given as goal

abbrev pub invariant-loop-desk : goal.invariant-loop-desk
invariant-loop-desk g l = record {
  of : IsPassOf l.bench l.all.pass;
  some : 0 < (view l.all.pass).parts;
  seated : IsSeated l.locks l.all.row.items;
  ready : All (λ desk. IsPassOf l.bench desk.pass × IsReady g.P.Terms.works l.locks desk.number (view desk.pass) desk.row.items desk.refused) l.rest.items;
  parts : (view l.all.pass).parts + length l.rest.items ≡ (view l.initial.all.pass).parts + length l.initial.rest.items;
  put : (h : Work → ℕ) → total h (view l.all.pass).put ≡ total h (view l.initial.all.pass).put;
  desk : (numbers : ℕ → ℕ) → IsDesk g.P.Terms.works numbers (view l.initial.all.pass).taken l.locks l.initial.all.row.items l.initial.all.refused
      → (mine : ℕ → ℕ) × IsDesk g.P.Terms.works mine (view l.all.pass).taken l.locks l.all.row.items l.all.refused
      × ((n : ℕ) → mine n + total (same n) (map (λ desk. desk.number) l.rest.items) ≡ numbers n + total (same n) (map (λ desk. desk.number) l.initial.rest.items));
}

abbrev pub decreases-loop-desk : goal.decreases-loop-desk
decreases-loop-desk g l = length l.rest.items
