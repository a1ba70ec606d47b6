use Rattle.std.proofs.Common.{◌≡◌, ◌∙◌, true, map, sym, [], ◌∷◌, append_assoc, length-append, arith}
use Rattle.csv.specs.Records.{fields_of}
use Rattle.plan_reader.specs.JobRows.{job_said}
use Rattle.plan_reader.specs.RowsLeft.{rows_left}
use Rattle.plan_reader.proofs.JobRowLemmas.{taken-first, rows-right, rows-wrong}
use Rattle.plan_reader.proofs.job_rows.read_rows.Goals as goal

pub rows-preserved : goal.rows-preserved
rows-preserved c =
    let plan = c.args.plan.now in
    let row = fields_of c.next_record.new.row in
    let rest = rows_left c.next_record.new.reader in
    let found : c.in_ok-next_record.field-0 ≡ true = c.if-not-branch.false in
    let rows = taken-first (rows_left c.rows.reader) c.in_ok-next_record.field-0 row rest found c.in_ok-next_record.ensures.takes in
    let (_, right, jobs, place, few, _) = c.rows.invariant in
    let before = c.as_slice.ensures.value in
    let right_here = rw before at c.in-Ok.ensures.right in
    let more = c.in_ok-push-in-Ok.ensures.items in (
      rw found at c.in_ok-next_record.ensures.reading,
      right ∙ rw (rows, more, c.in-Ok.ensures.job) (rows-right plan c.rows.jobs.items row rest right_here),
      jobs ∙ rw (rows, more, c.in-Ok.ensures.job) (sym (append_assoc c.rows.jobs.items (job_said plan row ∷ []) (map (job_said plan) rest))),
      rw more (omega (arith, length-append c.rows.jobs.items (c.in-Ok.job ∷ []), place)),
      omega (arith, rw before at c.in-Ok.ensures.few, place),
      rw more (rw before at c.in-Ok.ensures.numbers),
    )

pub returns-in-Err-Wrong-clause-err : goal.returns-in-Err-Wrong-clause-err
returns-in-Err-Wrong-clause-err c =
    let plan = c.args.plan.now in
    let row = fields_of c.next_record.new.row in
    let rest = rows_left c.next_record.new.reader in
    let found : c.in_ok-next_record.field-0 ≡ true = c.if-not-branch.false in
    let rows = taken-first (rows_left c.rows.reader) c.in_ok-next_record.field-0 row rest found c.in_ok-next_record.ensures.takes in
    let (_, right, jobs, place, few, _) = c.rows.invariant in
    let wrong = c.in-Err-Wrong in
    let before = c.as_slice.ensures.value in
    right ∙ rw (rows, wrong.column-is, place) (rows-wrong plan c.rows.jobs.items row rest wrong.column (rw (wrong.field-0-is, before) at wrong.ensures.err))
