use Rattle.ota_core.specs.HistoryLaws.{IsLegal-take}
use Rattle.ota_core.proofs.histories.History.truncate.Goals as goal

pub invariant_of-self : goal.invariant_of-self
invariant_of-self c = rw c.truncate.ensures.items (IsLegal-take c.args.len c.self.inside.entries.items c.self.invariant)

pub returns-clause-legal : goal.returns-clause-legal
returns-clause-legal c = rw c.truncate.ensures.items (IsLegal-take c.args.len c.self.inside.entries.items c.self.invariant)
