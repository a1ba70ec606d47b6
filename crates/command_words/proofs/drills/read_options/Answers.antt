use Rattle.std.proofs.Common.{ap, ◌∙◌}
use Rattle.clap.specs.Words.{is_simple_and_free}
use Rattle.command_words.proofs.SimpleApps.{drill_is_simple}
use Rattle.command_words.proofs.drills.read_options.Goals as goal

pub given-requires : goal.given-requires
given-requires c = ap is_simple_and_free c.in_ok-options.ensures ∙ drill_is_simple
