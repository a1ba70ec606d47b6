use Rattle.std.proofs.Common.{◌≡◌, ℕ, true, Some, is_some, sym, subst, ◌∙◌, ap}
use Rattle.std.proofs.Math.ListN.{set}
use Rattle.std.specs.BTreeMap.{get}
use Rattle.ota_core.specs.Entry.{Reservation}
use Rattle.keyset_book.specs.Tables.{row_cmp, row_of, FillsRow}
use Rattle.keyset_book.specs.declared.counter_table.Standing.TheVariants.{Unsettled}
use Rattle.keyset_book.proofs.CounterLemmas.{fills_counter, fills_position}
use Rattle.keyset_book.proofs.counter_table.CounterTable.reserve.Goals as goal

pub returns-in-Some-clause-filled : goal.returns-in-Some-clause-filled
returns-in-Some-clause-filled c = λ room other.
    let old = c.args.self.now in
    let row = c.in-Some.row.now in
    let counter = c.args.counter in
    let found : get row_cmp old.rows (row_of counter) ≡ Some row = subst (λ (r : Reservation). get row_cmp old.rows r ≡ Some row) c.row_of-id.ensures (sym c.in-Some.ensures.value) in
    let there = subst (λ (r : Reservation). is_some (get row_cmp old.rows r) ≡ true) (sym c.row_of-id.ensures) room in
    let filled = subst (λ (r : Reservation). FillsRow old r c.with_reservation-filled.result c.fill_row.new.self) c.row_of-id.ensures (c.fill_row.ensures.filled there) in
    let is = c.with_reservation-filled.ensures.standings ∙ ap (λ (n : ℕ). set row.standings n (Some Unsettled)) c.column_of.ensures.value in
    fills_counter old c.fill_row.new.self counter row c.with_reservation-filled.result found filled Unsettled c.with_reservation-filled.ensures.long is other

pub returns-in-Some-clause-position : goal.returns-in-Some-clause-position
returns-in-Some-clause-position c = λ room other.
    let old = c.args.self.now in
    let row = c.in-Some.row.now in
    let counter = c.args.counter in
    let found : get row_cmp old.rows (row_of counter) ≡ Some row = subst (λ (r : Reservation). get row_cmp old.rows r ≡ Some row) c.row_of-id.ensures (sym c.in-Some.ensures.value) in
    let there = subst (λ (r : Reservation). is_some (get row_cmp old.rows r) ≡ true) (sym c.row_of-id.ensures) room in
    let filled = subst (λ (r : Reservation). FillsRow old r c.with_reservation-filled.result c.fill_row.new.self) c.row_of-id.ensures (c.fill_row.ensures.filled there) in
    let is = c.with_reservation-filled.ensures.positions ∙ ap (λ (n : ℕ). set row.positions n c.args.position) c.column_of.ensures.value in
    fills_position old c.fill_row.new.self counter row c.with_reservation-filled.result found filled c.args.position c.with_reservation-filled.ensures.placed is other
