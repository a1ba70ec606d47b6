use Rattle.std.proofs.Common.{ap, not, codes, string_bytes, ◌∙◌, rules, tests}
use Rattle.std.specs.Str.{bytes_eq}
use Rattle.std.proofs.lemmas.Iterator.{YieldsList-from_slice}
use Rattle.std.proofs.lemmas.Iterator.Search.{any_from_yields_List}
use Rattle.clap.proofs.WalkLemmas.{list_any-map}
use Rattle.command_words.proofs.values.has_no_end.Goals as goal

pub returns : goal.returns
returns c =
    let words = c.args.words.now in
    let found = any_from_yields_List (λ word. bytes_eq (string_bytes word) (codes "--")) _ _ _ c.any.ensures.ran (YieldsList-from_slice words cc) (λ x b q k. search (rules, tests)) in
    ap not (found ∙ list_any-map (λ word. bytes_eq word (codes "--")) string_bytes words)
