use Rattle.std.proofs.Common.{◌≡◌, ℕ}
use Rattle.crossbeam_queue.specs.Passes.{view, IsPassOf}
use Rattle.senders.specs.Desks.{IsDesk, IsSeated}
use Rattle.senders.proofs.sharing.serve_all.Given as goal

abbrev pub invariant-loop : goal.invariant-loop
invariant-loop g l = record {
  of : IsPassOf l.bench l.desk.pass;
  parts : (view l.desk.pass).parts ≡ (view l.initial.desk.pass).parts;
  put : (view l.desk.pass).put ≡ (view l.initial.desk.pass).put;
  number : l.desk.number ≡ l.initial.desk.number;
  seated : IsSeated l.locks l.desk.row.items;
  desk : (numbers : ℕ → ℕ) → IsDesk g.P.Terms.works numbers (view l.initial.desk.pass).taken l.locks l.initial.desk.row.items l.initial.desk.refused
      → IsDesk g.P.Terms.works numbers (view l.desk.pass).taken l.locks l.desk.row.items l.desk.refused;
}
