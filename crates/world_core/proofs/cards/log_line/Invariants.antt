use Rattle.std.proofs.Common.{◌≡◌, false, take}
use Rattle.std.specs.List.{list_any}
use Rattle.world_core.specs.Card.{is_card}
use Rattle.world_core.proofs.cards.log_line.Given as goal

abbrev pub invariant-loop-state : goal.invariant-loop-state
invariant-loop-state l = record {
  same : l.cards ≡ l.initial.cards;
  before : list_any (is_card l.card) (take l.state-index l.cards) ≡ false;
}
