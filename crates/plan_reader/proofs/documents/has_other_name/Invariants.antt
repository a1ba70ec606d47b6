use Rattle.std.proofs.Common.{◌≡◌, map, not, bytes_eq, string_bytes}
use Rattle.std.specs.List.{list_any}
use Rattle.toml.specs.View.{table_view}
use Rattle.plan_reader.specs.FieldValue.{has_other_name}
use Rattle.plan_reader.proofs.documents.has_other_name.Given as goal

abbrev pub invariant-loop-name : goal.invariant-loop-name
invariant-loop-name l =
    has_other_name (map (λ name. name.now) l.names) (table_view l.entry)
    ≡ list_any (λ key. not (list_any (λ other. bytes_eq (string_bytes key) other.now) l.names)) l.name-iterator
