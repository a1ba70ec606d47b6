use Rattle.std.proofs.Common.{◌≡◌, ◌∙◌, true, false, refl, sym}
use Rattle.csv.specs.Records.{fields_of}
use Rattle.plan_reader.specs.JobRows.{is_header, jobs_of}
use Rattle.plan_reader.specs.RowsLeft.{rows_left}
use Rattle.plan_reader.proofs.JobRowLemmas.{taken-first, taken-none, behind-header, rows-ok, rows-distinct, rows-listed, rows-refused}
use Rattle.plan_reader.proofs.job_lists.read_jobs.Goals as goal

pub returns-then-not-branch-clause-err : goal.returns-then-not-branch-clause-err
unfolding jobs_of
returns-then-not-branch-clause-err c =
    let row = fields_of c.next_record.new.row in
    let rest = rows_left c.next_record.new.reader in
    let missing : c.in_ok-next_record.field-0 ≡ false = c.if-not-branch.true in
    let rows = taken-none (rows_left c.open_records-reader.result) c.in_ok-next_record.field-0 row rest missing c.in_ok-next_record.ensures.takes in
    rw (← c.open_records-reader.ensures.rows, rows) refl

pub returns-then-not-is_header-clause-err : goal.returns-then-not-is_header-clause-err
unfolding jobs_of
returns-then-not-is_header-clause-err c =
    let row = fields_of c.next_record.new.row in
    let rest = rows_left c.next_record.new.reader in
    let found : c.in_ok-next_record.field-0 ≡ true = c.if-not-branch.false in
    let rows = taken-first (rows_left c.open_records-reader.result) c.in_ok-next_record.field-0 row rest found c.in_ok-next_record.ensures.takes in
    let other : is_header row ≡ false = sym c.is_header.ensures ∙ c.if-not-is_header.true in
    rw (← c.open_records-reader.ensures.rows, rows, other) refl

pub returns-clause-ok : goal.returns-clause-ok
unfolding jobs_of
returns-clause-ok c =
    let row = fields_of c.next_record.new.row in
    let rest = rows_left c.next_record.new.reader in
    let found : c.in_ok-next_record.field-0 ≡ true = c.if-not-branch.false in
    let rows = taken-first (rows_left c.open_records-reader.result) c.in_ok-next_record.field-0 row rest found c.in_ok-next_record.ensures.takes in
    let header : is_header row ≡ true = sym c.is_header.ensures ∙ c.if-not-is_header.false in
    rw (← c.open_records-reader.ensures.rows, rows, behind-header c.args.plan.now row rest header)
    (rows-ok c.args.plan.now rest c.read_rows.result (rw c.in_ok-index.ensures at c.read_rows.ensures.right) (rw c.in_ok-index.ensures at c.read_rows.ensures.jobs))

pub returns-clause-err : goal.returns-clause-err
unfolding jobs_of
returns-clause-err c =
    let row = fields_of c.next_record.new.row in
    let rest = rows_left c.next_record.new.reader in
    let found : c.in_ok-next_record.field-0 ≡ true = c.if-not-branch.false in
    let rows = taken-first (rows_left c.open_records-reader.result) c.in_ok-next_record.field-0 row rest found c.in_ok-next_record.ensures.takes in
    let header : is_header row ≡ true = sym c.is_header.ensures ∙ c.if-not-is_header.false in
    rw (← c.open_records-reader.ensures.rows, rows, behind-header c.args.plan.now row rest header)
    (rows-refused c.args.plan.now rest c.read_rows.result (rw c.in_ok-index.ensures at c.read_rows.ensures.err))

pub returns-clause-distinct : goal.returns-clause-distinct
returns-clause-distinct c =
    rows-distinct c.args.plan.now (rows_left c.next_record.new.reader) c.read_rows.result (rw c.in_ok-index.ensures at c.read_rows.ensures.right) (rw c.in_ok-index.ensures at c.read_rows.ensures.jobs)

pub returns-clause-listed : goal.returns-clause-listed
returns-clause-listed c =
    rows-listed c.args.plan.now (rows_left c.next_record.new.reader) c.read_rows.result (rw c.in_ok-index.ensures at c.read_rows.ensures.right) (rw c.in_ok-index.ensures at c.read_rows.ensures.jobs)
