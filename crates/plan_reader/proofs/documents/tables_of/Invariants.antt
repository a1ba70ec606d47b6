use Rattle.std.proofs.Common.{◌≡◌, ◌++◌, drop, option_map}
use Rattle.toml.specs.View.{items_view}
use Rattle.plan_reader.specs.FieldValue.{tables_of}
use Rattle.plan_reader.specs.TableList.{tables_said}
use Rattle.plan_reader.proofs.documents.tables_of.Given as goal

abbrev pub invariant-loop-item : goal.invariant-loop-item
invariant-loop-item l =
    tables_of (items_view l.items) ≡ option_map (λ rest. tables_said l.tables ++ rest) (tables_of (items_view (drop l.item-index l.items)))
