use Rattle.std.proofs.Common.{◌≡◌, inl, arith}
use Rattle.std.proofs.lemmas.Grind.{common_steps}
use Rattle.world_core.proofs.Walks.{discarded}
use Rattle.world_core.proofs.parts.Parts.begin.Goals as goal

pub returns-then-not-is_answered : goal.returns-then-not-is_answered
returns-then-not-is_answered c =
    let same : c.discard.new.self ≡ c.self.inside.journal =
    discarded c.self.inside.journal c.begin.new.self c.discard.new.self c.args.batch.now c.if-is_writing.ensures c.in_ok-begin.ensures.begun c.discard.ensures in (
      inl (rw (← c.self.view_is) (grind (arith, common_steps, c.if-not-self.false, c.if-is_writing.ensures, c.in_ok-begin.ensures.legal, c.if-not-is_answered.ensures))),
      rw same c.self.view_is,
    )
