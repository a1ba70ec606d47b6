use Rattle.std.proofs.Common.{string_bytes}
use Rattle.campaigns.specs.Drill.{keyset_table}
use Rattle.campaigns.proofs.DrillLemmas.{one_line_more}
use Rattle.campaigns.proofs.drill.put_keysets.Goals as goal

pub loop-before-preserved : goal.loop-before-preserved
loop-before-preserved c = record {
  text = rw (c.in_ok-put_keyset.ensures.text c.args.number c.loop-before.invariant.state)
      (one_line_more (keyset_table c.args.number) (string_bytes c.args.text.now) (string_bytes c.loop-before.text) c.loop-before.before c.loop-before.invariant.text);
  state = c.in_ok-put_keyset.ensures.state c.args.number c.loop-before.invariant.state;
}
