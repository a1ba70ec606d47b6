use Rattle.std.proofs.Common.{◌≡◌, ◌+◌, ◌-◌, ◌≤◌, ◌++◌, length, drop}
use Rattle.file_records.specs.Numbers.{numbers_with}
use Rattle.file_records.proofs.records.Records.numbers_with.Given as goal

-- The numbers so far, and those of the records that are left.
abbrev pub invariant-loop-place : goal.invariant-loop-place
invariant-loop-place l =
    (length l.numbers.items ≤ l.place)
    × (l.numbers.items ++ numbers_with l.pattern (l.place + 1) (drop l.place l.self.rows) ≡ numbers_with l.pattern l.from (drop (l.from - 1) l.self.rows))
