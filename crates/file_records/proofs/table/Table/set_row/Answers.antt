use Rattle.std.proofs.Common.{◌≡◌, length, arith, ap, set, ◌∙◌}
use Rattle.file_records.specs.Rows.{Rows, rows_in}
use Rattle.file_records.proofs.RowsLemmas.{rows_in-overwritten, length-overwritten, length-rows_in, row_within}
use Rattle.file_records.proofs.table.Table.set_row.Goals as goal

pub write_at-requires : goal.write_at-requires
write_at-requires c =
    let table = c.self.inside in
    let count = length-rows_in table.width table.count table.octets.items in
    let rows : rows_in table.width table.count table.octets.items ≡ c.args.self.now.rows = ap (λ (t : Rows). t.rows) c.self.view_is in
    let width : table.width ≡ c.args.self.now.width = ap (λ (t : Rows). t.width) c.self.view_is in
    let here = row_within table.width table.count c.args.place c.start_of-start.result (length table.octets.items) (omega (arith, c.requires.place, count, ap length rows)) c.start_of-start.ensures c.self.invariant in
    omega (arith, here, c.requires.width, width)

pub invariant_of-self : goal.invariant_of-self
invariant_of-self c =
    let table = c.self.inside in
    let count = length-rows_in table.width table.count table.octets.items in
    let rows : rows_in table.width table.count table.octets.items ≡ c.args.self.now.rows = ap (λ (t : Rows). t.rows) c.self.view_is in
    let width : table.width ≡ c.args.self.now.width = ap (λ (t : Rows). t.width) c.self.view_is in
    let here = row_within table.width table.count c.args.place c.start_of-start.result (length table.octets.items) (omega (arith, c.requires.place, count, ap length rows)) c.start_of-start.ensures c.self.invariant in
    ap length c.write_at.ensures ∙ length-overwritten c.start_of-start.result table.octets.items c.args.row.now (omega (arith, here, c.requires.width, width)) ∙ c.self.invariant

pub returns-clause-rows : goal.returns-clause-rows
returns-clause-rows c =
    let table = c.self.inside in
    let count = length-rows_in table.width table.count table.octets.items in
    let rows : rows_in table.width table.count table.octets.items ≡ c.args.self.now.rows = ap (λ (t : Rows). t.rows) c.self.view_is in
    let width : table.width ≡ c.args.self.now.width = ap (λ (t : Rows). t.width) c.self.view_is in
    ap (rows_in table.width table.count) c.write_at.ensures
    ∙ rows_in-overwritten table.width table.count c.args.place c.start_of-start.result table.octets.items c.args.row.now (omega (arith, c.requires.place, count, ap length rows)) c.start_of-start.ensures (omega (arith, c.requires.width, width)) c.self.invariant
    ∙ ap (λ xs. set xs c.args.place c.args.row.now) rows
