use Rattle.std.proofs.Common.{◌≡◌, ◌++◌, [], map, drop, length}
use Rattle.plan_reader.specs.PlanTable.{keyset_said, keyset_checks, first_of_entries}
use Rattle.plan_reader.specs.TableList.{tables_pointed}
use Rattle.plan_reader.specs.declared.tables.Table.TheVariants as which
use Rattle.plan_reader.proofs.keyset_entries.read_keysets.Given as goal

abbrev pub invariant-loop-entry : goal.invariant-loop-entry
invariant-loop-entry l =
    let rest = tables_pointed (drop l.entry-index l.entries) in
    (first_of_entries which.Keyset keyset_said (keyset_checks l.cards) [] (tables_pointed l.entries) ≡ first_of_entries which.Keyset keyset_said (keyset_checks l.cards) l.keysets rest)
    × (map keyset_said (tables_pointed l.entries) ≡ l.keysets ++ map keyset_said rest)
    × (l.row ≡ length l.keysets)
    × (length l.keysets ≡ l.entry-index)
