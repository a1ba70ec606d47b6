use Rattle.std.proofs.Common.{◌≡◌, ◌*◌, ◌++◌, string_bytes}
use Rattle.std.specs.List.{flat_map, range_with_len}
use Rattle.campaigns.specs.Drill.{state_at, keyset_table}
use Rattle.campaigns.proofs.drill.put_keysets.Given as goal

abbrev pub invariant-loop-before : goal.invariant-loop-before
invariant-loop-before l = record {
  text : string_bytes l.text ≡ string_bytes l.fn.text ++ flat_map (keyset_table l.number) (range_with_len 0 l.before);
  state : l.state ≡ state_at l.number (24 * l.before);
}
