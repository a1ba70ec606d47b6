use Rattle.std.proofs.Common.{◌≡◌, ◌++◌, string_bytes}
use Rattle.std.specs.List.{flat_map, range_with_len}
use Rattle.campaigns.specs.Drill.{card_table}
use Rattle.campaigns.proofs.drill.put_cards.Given as goal

abbrev pub invariant-loop-before : goal.invariant-loop-before
invariant-loop-before l = string_bytes l.text ≡ string_bytes l.fn.text ++ flat_map card_table (range_with_len 0 l.before)
