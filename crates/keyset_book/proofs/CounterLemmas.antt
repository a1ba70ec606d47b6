-- A counter that is filled in its row.
use Rattle.std.proofs.Common.{◌≡◌, ◌≢◌, ℕ, ◌/◌, ◌%◌, ◌<◌, Bool, true, false, ◌==◌, ◌&&◌, if◌then◌else◌, List, length, Option, None, Some, get_or, refl, sym, ap, ◌∙◌, arith}
use Rattle.std.proofs.Math.ListN.{set}
use Rattle.std.proofs.lemmas.Bool.{eqb-true, eqb-false}
use Rattle.std.proofs.lemmas.List.{get_or-set_same, get_or-set_other}
use Rattle.std.specs.BTreeMap.{get}
use Rattle.ota_core.specs.Keyset.{is_same_keyset}
use Rattle.ota_core.specs.Entry.{Reservation}
use Rattle.ota_core.specs.HistoryLaws.{is_same_keyset-true}
use Rattle.keyset_book.specs.Tables.{is_same_counter, row_cmp, row_of, column_of, standing_at, position_at, FillsRow, FillsCounter, FillsPosition, SamePositions}
use Rattle.keyset_book.specs.declared.counter_table.Row.{Row}
use Rattle.keyset_book.specs.declared.counter_table.Standing.{Standing}
use Rattle.keyset_book.specs.declared.counter_table.CounterTable.{CounterTable}

-- what stands in a place of a row, where the row is made
abbrev pub at_place : {C : Type 0} → (Row → List C) → C → Option Row → ℕ → C
at_place cells none None column = none
at_place cells none (Some row) column = get_or (cells row) column none

pub standing-place : (row : Option Row) (column : ℕ) → standing_at row column ≡ at_place (λ r. r.standings) None row column
standing-place None column = refl
standing-place (Some row) column = refl

pub position-place : (row : Option Row) (column : ℕ) → position_at row column ≡ at_place (λ r. r.positions) 0 row column
position-place None column = refl
position-place (Some row) column = refl

module _ (old new : CounterTable) (counter : Reservation) (row filled : Row) (found : get row_cmp old.rows (row_of counter) ≡ Some row) (fills : FillsRow old (row_of counter) filled new) where
  -- the row of a counter of the same row
  same_found : (other : Reservation) → counter.keyset ≡ other.keyset → counter.counter / 8 ≡ other.counter / 8 → get row_cmp old.rows (row_of other) ≡ Some row
  same_found other keysets numbers = ap (λ (r : Reservation). get row_cmp old.rows r) (λ i. record { keyset = sym keysets i; counter = sym numbers i }) ∙ found

  module _ {C : Type 0} (cells : Row → List C) (none : C) (other : Reservation) where
    -- what stood in the other counter's place, and what stands there
    abbrev before : C
    before = at_place cells none (get row_cmp old.rows (row_of other)) (column_of other)

    abbrev after : Bool → C
    after same = at_place cells none (if same then Some filled else get row_cmp old.rows (row_of other)) (column_of other)

    -- cells that the new row has as they were stay
    kept : cells filled ≡ cells row → (keyset : Bool) → is_same_keyset counter.keyset other.keyset ≡ keyset → (row_number : Bool) → (counter.counter / 8 == other.counter / 8) ≡ row_number
        → after (keyset && row_number) ≡ before
    kept same false keysets number rows = refl
    kept same true keysets false rows = refl
    kept same true keysets true rows =
        ap (λ cs. get_or cs (column_of other) none) same
        ∙ ap (λ r. at_place cells none r (column_of other)) (sym (same_found other (is_same_keyset-true counter.keyset other.keyset keysets) (eqb-true (counter.counter / 8) (other.counter / 8) rows)))

    module _ (value : C) (long : length (cells row) ≡ 8) (is : cells filled ≡ set (cells row) (column_of counter) value) where
      column_below : column_of counter < length (cells row)
      column_below = omega (arith, long)

      -- in the same row
      set_in : (keyset : Bool) → is_same_keyset counter.keyset other.keyset ≡ keyset → (number : Bool) → (counter.counter == other.counter) ≡ number → (row_number : Bool) → (counter.counter / 8 == other.counter / 8) ≡ row_number
          → after (keyset && row_number) ≡ (if keyset && number then value else before)
      set_in false same number counters row_number rows = refl
      set_in true same true counters false rows =
          absurd (let one = eqb-true counter.counter other.counter counters in eqb-false (counter.counter / 8) (other.counter / 8) rows (ap (λ (n : ℕ). n / 8) one))
      set_in true same false counters false rows = refl
      set_in true same true counters true rows =
          let one = eqb-true counter.counter other.counter counters in
          ap (λ cs. get_or cs (column_of other) none) is
          ∙ ap (λ (n : ℕ). get_or (set (cells row) (column_of counter) value) (n % 8) none) (sym one) ∙ get_or-set_same (cells row) (column_of counter) value none column_below
      set_in true same false counters true rows =
          let row_is = eqb-true (counter.counter / 8) (other.counter / 8) rows in
          let apart : column_of other ≢ column_of counter = λ columns. eqb-false counter.counter other.counter counters (omega (arith, row_is, columns)) in
          ap (λ cs. get_or cs (column_of other) none) is
          ∙ get_or-set_other (cells row) (column_of counter) (column_of other) value none apart
          ∙ ap (λ r. at_place cells none r (column_of other)) (sym (same_found other (is_same_keyset-true counter.keyset other.keyset same) row_is))

  pub fills_counter : (standing : Standing) → length row.standings ≡ 8 → filled.standings ≡ set row.standings (column_of counter) (Some standing) → FillsCounter old counter standing new
  fills_counter standing long is other =
      ap (λ r. standing_at r (column_of other)) (fills (row_of other))
      ∙ standing-place (if is_same_counter (row_of counter) (row_of other) then Some filled else get row_cmp old.rows (row_of other)) (column_of other)
      ∙ set_in (λ r. r.standings) None other (Some standing) long is
      (is_same_keyset counter.keyset other.keyset) refl (counter.counter == other.counter) refl (counter.counter / 8 == other.counter / 8) refl
      ∙ ap (λ s. if is_same_counter counter other then Some standing else s) (sym (standing-place (get row_cmp old.rows (row_of other)) (column_of other)))

  pub fills_position : (position : ℕ) → length row.positions ≡ 8 → filled.positions ≡ set row.positions (column_of counter) position → FillsPosition old counter position new
  fills_position position long is other =
      ap (λ r. position_at r (column_of other)) (fills (row_of other))
      ∙ position-place (if is_same_counter (row_of counter) (row_of other) then Some filled else get row_cmp old.rows (row_of other)) (column_of other)
      ∙ set_in (λ r. r.positions) 0 other position long is
      (is_same_keyset counter.keyset other.keyset) refl (counter.counter == other.counter) refl (counter.counter / 8 == other.counter / 8) refl
      ∙ ap (λ p. if is_same_counter counter other then position else p) (sym (position-place (get row_cmp old.rows (row_of other)) (column_of other)))

  pub same_positions : filled.positions ≡ row.positions → SamePositions old new
  same_positions same other =
      ap (λ r. position_at r (column_of other)) (fills (row_of other))
      ∙ position-place (if is_same_counter (row_of counter) (row_of other) then Some filled else get row_cmp old.rows (row_of other)) (column_of other)
      ∙ kept (λ r. r.positions) 0 other same
      (is_same_keyset counter.keyset other.keyset) refl (counter.counter / 8 == other.counter / 8) refl
      ∙ sym (position-place (get row_cmp old.rows (row_of other)) (column_of other))
