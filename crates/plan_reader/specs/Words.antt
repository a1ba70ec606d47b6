-- The words by which a fault names a table, a field or a column.
use Rattle.std.specs.Prelude.{ℕ, List, codes}
use Rattle.plan_reader.specs.declared.tables.Table.{Table}
use Rattle.plan_reader.specs.declared.tables.Table.TheVariants as table
use Rattle.plan_reader.specs.declared.tables.Field.{Field}
use Rattle.plan_reader.specs.declared.tables.Field.TheVariants as field
use Rattle.plan_reader.specs.declared.columns.Column.{Column}
use Rattle.plan_reader.specs.declared.columns.Column.TheVariants as column

-- a table's name
abbrev pub table_word : Table → List ℕ
table_word table.Top = codes "top"
table_word table.Card = codes "card"
table_word table.Keyset = codes "keyset"

-- a field's name
abbrev pub field_word : Field → List ℕ
field_word field.Text = codes "text"
field_word field.Unknown = codes "unknown"
field_word field.TooMany = codes "toomany"
field_word field.Campaign = codes "campaign"
field_word field.Number = codes "number"
field_word field.Buffer = codes "buffer"
field_word field.Rfm = codes "rfm"
field_word field.Ram = codes "ram"
field_word field.CardOf = codes "cardof"
field_word field.Kvn = codes "kvn"
field_word field.Kic = codes "kic"
field_word field.Kid = codes "kid"
field_word field.Cipher = codes "cipher"
field_word field.Mode = codes "mode"
field_word field.Base = codes "base"
field_word field.Wide = codes "wide"
field_word field.Put = codes "put"

-- a column's name
abbrev pub column_word : Column → List ℕ
column_word column.Header = codes "header"
column_word column.Shape = codes "shape"
column_word column.TooMany = codes "toomany"
column_word column.Job = codes "job"
column_word column.Card = codes "card"
column_word column.Kvn = codes "kvn"
column_word column.Tar = codes "tar"
column_word column.Script = codes "script"
