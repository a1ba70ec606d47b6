use Rattle.std.proofs.Common.{◌≡◌, ◌-◌, ◌<◌, length, set, arith, ap, ◌∙◌}
use Rattle.file_records.specs.Rows.{Rows, turned}
use Rattle.file_records.proofs.TurnedLemmas.{turned-set, length-turned}
use Rattle.file_records.proofs.records.Records.set_row.Goals as goal

pub returns-clause-rows : goal.returns-clause-rows
returns-clause-rows c =
    let inside = c.self.inside in
    let rows : turned inside.first inside.table.rows ≡ c.args.self.now.rows = ap (λ (r : Rows). r.rows) c.self.view_is in
    let count = length-turned inside.first inside.table.rows (omega (arith, c.self.invariant)) in
    let near : c.args.number - 1 < length inside.table.rows = omega (arith, c.requires.low, c.requires.high, count, ap length rows) in
    ap (turned inside.first) c.set_row.ensures.rows
    ∙ turned-set inside.first (c.args.number - 1) c.place_of-place.result inside.table.rows c.args.row.now c.self.invariant near
    (record { within = λ h. c.place_of-place.ensures.within (omega (arith, h, c.count.ensures)); around = λ h. omega (arith, h, c.count.ensures, c.place_of-place.ensures.around (omega (arith, h, c.count.ensures))) })
    ∙ ap (λ xs. set xs (c.args.number - 1) c.args.row.now) rows
