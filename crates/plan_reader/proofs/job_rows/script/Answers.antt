use Rattle.std.proofs.Common.{◌≡◌, ◌∙◌, true, false, sym, rules, Some}
use Rattle.csv.specs.Records.{fields_of}
use Rattle.plan_reader.specs.Hexadecimal.{octets_of}
use Rattle.std.proofs.Common.{length, ◌/◌}
use Rattle.plan_reader.proofs.JobRowLemmas.{script-length, script-fits}
use Rattle.plan_reader.proofs.job_rows.script.Goals as goal

pub returns-then-not-is_script_length-clause-wrong : goal.returns-then-not-is_script_length-clause-wrong
returns-then-not-is_script_length-clause-wrong c =
    let refused : c.is_script_length.result ≡ false = c.if-not-is_script_length.true in
    script-length (fields_of c.args.row.now) c.args.wide (rw c.cell-digits.ensures at (sym c.is_script_length.ensures ∙ refused))

pub returns-in-Some-clause-wrong : goal.returns-in-Some-clause-wrong
returns-in-Some-clause-wrong c =
    let right : c.is_script_length.result ≡ true = c.if-not-is_script_length.false in
    let read : octets_of (length c.cell-digits.result.now / 2) c.cell-digits.result.now ≡ Some c.in-Some.octets.items = rw c.in-Some.is at c.in_ok-octets.ensures in
    script-fits (fields_of c.args.row.now) c.args.wide c.in-Some.octets.items (rw c.cell-digits.ensures at (sym c.is_script_length.ensures ∙ right)) (rw c.cell-digits.ensures at read)
