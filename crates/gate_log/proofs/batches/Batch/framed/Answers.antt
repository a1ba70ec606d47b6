use Rattle.std.proofs.Common.{ap, ◌∙◌, length}
use Rattle.gate_log.specs.Opening.{need_of}
use Rattle.gate_log.specs.Batches.{BatchState, parts_framed, framed-need}
use Rattle.gate_log.proofs.batches.Batch.framed.Goals as goal

pub returns-clause-need : goal.returns-clause-need
returns-clause-need c =
    ap length (c.as_slice.ensures.value ∙ c.self.invariant.framed_is)
    ∙ framed-need (parts_framed c.self.inside.octets.items) ∙ ap (λ (s : BatchState). need_of s.parts) c.self.view_is
