use Rattle.std.proofs.Common.{◌≡◌, None, Some, sym, ◌∙◌}
use Rattle.lane_engine.specs.declared.answers.LaneErr.{LaneErr}
use Rattle.senders.proofs.serving.serve_open.Goals as goal

clash : {x : LaneErr} → None ≡ Some x → ⊥
clash e = cc

pub returns-in-Some-clause-served : goal.returns-in-Some-clause-served
returns-in-Some-clause-served g c = λ pace none le home. absurd (clash (sym none ∙ (sym c.end.ensures.end ∙ c.in-Some.is)))

pub returns-in-None-clause-ended : goal.returns-in-None-clause-ended
returns-in-None-clause-ended g c = λ end is. absurd (clash (sym c.in-None.is ∙ (c.end.ensures.end ∙ is)))

pub returns-in-None-clause-served : goal.returns-in-None-clause-served
returns-in-None-clause-served g c = λ pace none le home. let whole = c.end.ensures.whole (home.live none) in (whole, c.serve.ensures pace le home whole)
