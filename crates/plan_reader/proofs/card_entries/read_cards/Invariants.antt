use Rattle.std.proofs.Common.{◌≡◌, ◌++◌, [], map, drop, length}
use Rattle.plan_reader.specs.PlanTable.{card_said, card_checks, first_of_entries}
use Rattle.plan_reader.specs.TableList.{tables_pointed}
use Rattle.plan_reader.specs.declared.tables.Table.TheVariants as which
use Rattle.plan_reader.proofs.card_entries.read_cards.Given as goal

abbrev pub invariant-loop-entry : goal.invariant-loop-entry
invariant-loop-entry l =
    let rest = tables_pointed (drop l.entry-index l.entries) in
    (first_of_entries which.Card card_said card_checks [] (tables_pointed l.entries) ≡ first_of_entries which.Card card_said card_checks l.cards rest)
    × (map card_said (tables_pointed l.entries) ≡ l.cards ++ map card_said rest)
    × (l.row ≡ length l.cards)
    × (length l.cards ≡ l.entry-index)
