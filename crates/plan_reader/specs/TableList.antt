-- Tables of a document that references point to.
use Rattle.std.specs.Prelude.{List, Vec, map}
use Rattle.std.specs.Borrow.{Bor}
use Rattle.std.specs.BTreeMap.{BTreeMap}
use Rattle.std.specs.declared.alloc.Global.{Global}
use Rattle.std.specs.Prelude.{String}
use Rattle.toml.specs.Data.{Members}
use Rattle.toml.specs.View.{table_view}
use Rattle.toml.specs.declared.value.Value.{Value}

-- what the tables say
abbrev pub tables_pointed : List (Bor (BTreeMap (String Global) Value)) → List Members
tables_pointed tables = map (λ table. table_view table.now) tables

abbrev pub tables_said : Vec (Bor (BTreeMap (String Global) Value)) Global → List Members
tables_said tables = tables_pointed tables.items
