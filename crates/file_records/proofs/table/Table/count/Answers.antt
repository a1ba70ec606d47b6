use Rattle.file_records.proofs.RowsLemmas.{length-rows_in}
use Rattle.file_records.proofs.table.Table.count.Goals as goal

pub returns : goal.returns
returns c = let h = length-rows_in c.self.inside.width c.self.inside.count c.self.inside.octets.items in cc
