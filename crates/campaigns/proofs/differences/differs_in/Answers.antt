use Rattle.std.proofs.Common.{sym, ◌∙◌}
use Rattle.campaigns.proofs.DifferenceLemmas.{none_reserved}
use Rattle.campaigns.proofs.differences.differs_in.Goals as goal

pub returns-in-None : goal.returns-in-None
returns-in-None c = sym (none_reserved c.args.job.now c.args.history.now (sym (c.last_reservation.ensures c.args.history.now c.requires) ∙ c.in-None.is))
