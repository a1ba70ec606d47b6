use Rattle.std.proofs.Common.{rules, Some, inl, inr, refl, ap}
use Rattle.ota_commands.specs.declared.faults.Fault.{Fault}
use Rattle.ota_commands.proofs.formatting.format.Goals as goal

pub returns-in-Err : goal.returns-in-Err
returns-in-Err g c = inl (record {
  error = c.in-Err.error;
  refused = search (rules, c.in-Err.ensures.refused);
  fault_is = ap (λ (f : Fault). Some f) c.fault_of_opening.ensures;
  unwritten = refl;
})

pub returns-in-Ok : goal.returns-in-Ok
returns-in-Ok g c = inr (record {
  formatted = search (rules, c.in-Ok.ensures.formatted);
  output = c.write_formatted-written.result;
  text = search (rules, c.write_formatted-written.ensures.text);
  cause = c.write_formatted-written.ensures.cause;
  fault_is = c.answer_of.ensures;
})
