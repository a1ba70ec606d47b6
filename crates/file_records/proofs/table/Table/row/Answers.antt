use Rattle.std.proofs.Common.{◌≡◌, length, take, drop, get_or, [], arith, ap, sym, ◌∙◌}
use Rattle.file_records.specs.Rows.{Rows, rows_in}
use Rattle.file_records.proofs.RowsLemmas.{rows_in-at, length-rows_in, row_within}
use Rattle.file_records.proofs.table.Table.row.Goals as goal

pub octets_at-requires : goal.octets_at-requires
octets_at-requires c =
    let table = c.self.inside in
    let count = length-rows_in table.width table.count table.octets.items in
    let rows : rows_in table.width table.count table.octets.items ≡ c.args.self.now.rows = ap (λ (t : Rows). t.rows) c.self.view_is in
    let here = row_within table.width table.count c.args.place c.start_of-start.result (length table.octets.items) (omega (arith, c.requires, count, ap length rows)) c.start_of-start.ensures c.self.invariant in
    omega (arith, here, c.deref.ensures.len)

pub returns-clause-row : goal.returns-clause-row
returns-clause-row c =
    let table = c.self.inside in
    let count = length-rows_in table.width table.count table.octets.items in
    let rows : rows_in table.width table.count table.octets.items ≡ c.args.self.now.rows = ap (λ (t : Rows). t.rows) c.self.view_is in
    let at = rows_in-at table.width table.count c.args.place c.start_of-start.result table.octets.items (omega (arith, c.requires, count, ap length rows)) c.start_of-start.ensures in
    c.octets_at.ensures.octets
    ∙ ap (λ w. take w (drop c.start_of-start.result c.deref.result.now)) c.from.ensures
    ∙ ap (λ xs. take table.width (drop c.start_of-start.result xs)) c.deref.ensures.value
    ∙ sym at
    ∙ ap (λ xs. get_or xs c.args.place []) rows
