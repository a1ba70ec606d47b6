use Rattle.std.proofs.Common.{◌∙◌, ap}
use Rattle.reports.specs.Cards.{counts_of}
use Rattle.reports.proofs.keyset_counts.LaneCounts.of_keyset.Goals as goal

pub returns : goal.returns
returns c = c.look.ensures ∙ c.self.invariant c.args.keyset ∙ ap (counts_of c.args.keyset) c.self.view_is
