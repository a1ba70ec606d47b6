use Rattle.std.proofs.Common.{arith, ap, ◌∙◌}
use Rattle.file_records.specs.Rows.{rows_in}
use Rattle.file_records.proofs.RowsLemmas.{rows_in-replicate}
use Rattle.file_records.proofs.table.Table.filled.Goals as goal

pub returns-clause-rows : goal.returns-clause-rows
returns-clause-rows c =
    ap (rows_in c.args.width c.args.count) c.in_ok-octets.ensures
    ∙ rows_in-replicate c.args.width c.args.count c.args.octet c.start_of.result (omega arith)
