use Rattle.std.proofs.Common.{◌≡◌, arith, ap}
use Rattle.file_records.specs.Rows.{Rows, turned}
use Rattle.file_records.proofs.TurnedLemmas.{pushed}
use Rattle.file_records.proofs.records.Records.push.Goals as goal
use Rattle.file_records.proofs.records.Records.push.Goals.{then-self-eq0, else-self-eq0}

pub returns-clause-rows : goal.returns-clause-rows
returns-clause-rows c =
    let inside = c.self.inside in
    let rows : turned inside.first inside.table.rows ≡ c.args.self.now.rows = ap (λ (r : Rows). r.rows) c.self.view_is in
    elim c.if-self-eq0.branch [
      | then-self-eq0 w ↦ pushed inside.first c.if-self-eq0.place inside.table.rows c.args.self.now.rows c.set_row.new.self.rows c.args.row.now rows c.self.invariant c.set_row.ensures.rows (λ h. omega arith) (λ h. absurd (omega arith))
      | else-self-eq0 w ↦ pushed inside.first c.if-self-eq0.place inside.table.rows c.args.self.now.rows c.set_row.new.self.rows c.args.row.now rows c.self.invariant c.set_row.ensures.rows (λ h. absurd (omega arith)) (λ h. omega arith)
    ]
