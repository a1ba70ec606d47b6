use Rattle.std.proofs.Common.{◌≡◌, ◌++◌, take, string_bytes}
use Rattle.std.specs.List.{flat_map}
use Rattle.reports.specs.Cards.{keyset_row}
use Rattle.reports.proofs.cards.put_keysets.Given as goal

abbrev pub invariant-loop-keyset : goal.invariant-loop-keyset
invariant-loop-keyset l = string_bytes l.text ≡ string_bytes l.fn.text ++ flat_map (keyset_row l.place l.lane) (take l.keyset-index l.keysets)
