use Rattle.std.proofs.Common.{ap, ◌∙◌}
use Rattle.clap.specs.Words.{is_simple_and_free}
use Rattle.command_words.proofs.SimpleApps.{app_is_simple}
use Rattle.command_words.proofs.reading.read_options.Goals as goal

pub given-requires : goal.given-requires
given-requires c = ap is_simple_and_free c.in_ok-options.ensures ∙ app_is_simple c.args.kind
