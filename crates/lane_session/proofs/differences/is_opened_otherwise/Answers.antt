use Rattle.std.proofs.Common.{rules, tests, sym, ◌∙◌}
use Rattle.std.proofs.lemmas.Iterator.{YieldsList-from_slice}
use Rattle.std.proofs.lemmas.Iterator.Search.{any_from_yields_List}
use Rattle.std.specs.List.{list_any}
use Rattle.lane_session.specs.Differences.{opens_otherwise}
use Rattle.lane_session.specs.declared.lanes.Lane.{Lane}
use Rattle.lane_session.proofs.DifferenceLaws.{list_any-map}
use Rattle.lane_session.proofs.differences.is_opened_otherwise.Goals as goal

pub returns : goal.returns
returns c =
    any_from_yields_List (λ (lane : Lane). list_any (opens_otherwise c.args.keyset c.args.facts.now) lane.journal.entries) _ _ c.any.result c.any.ensures.ran
    (YieldsList-from_slice c.args.lanes.now cc) (λ x b q k. search (rules, tests))
    ∙ sym (list_any-map (λ entries. list_any (opens_otherwise c.args.keyset c.args.facts.now) entries) (λ (lane : Lane). lane.journal.entries) c.args.lanes.now)
