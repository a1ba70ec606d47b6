use Rattle.std.proofs.Common.{◌≡◌, ℕ, Bool, not, ◌||◌, List, sym, ap, ◌∙◌, rules, tests}
use Rattle.std.specs.List.{list_all}
use Rattle.std.proofs.lemmas.Iterator.Search.{all_from_yields_List, YieldsList-from_take_while}
use Rattle.std.proofs.lemmas.Iterator.Consumers.{YieldsList-at, YieldsList-from_rest}
use Rattle.file_records.specs.declared.file.File.{File}
use Rattle.card_files.specs.State.{Tree}
use Rattle.card_files.specs.Commands as command
use Rattle.card_files.proofs.EntriesLemmas.{entries-tree_of}
use Rattle.card_files.proofs.WithinLemmas.{those_from, run_within, run-those_within, all-those_within}
use Rattle.card_files.proofs.tree.Tree.all_remote.Goals as goal

pub returns : goal.returns
returns c =
    let es = c.self.inside.files.entries in
    let path = c.args.path.now in
    let remote : List ℕ × File → Bool = λ entry. entry.1.remote in
    let source = YieldsList-from_rest (those_from path es) (c.range.ensures.between tt) in
    let all : c.all.result ≡ list_all remote (run_within path (those_from path es)) = all_from_yields_List remote _ _ c.all.result c.all.ensures.ran
    (YieldsList-from_take_while _ (λ (entry : List ℕ × File). command.is_within path entry.0) (YieldsList-at c.take_while.ensures.source source) c.take_while.ensures.closure c.take_while.ensures.done (λ x b q k. search (rules, tests)))
    (λ x b q k. search (rules, tests)) in
    all
    ∙ ap (list_all remote) (sym (run-those_within path es c.range.ensures.ordered))
    ∙ sym (all-those_within path es)
    ∙ ap (λ (entries : List (List ℕ × File)). list_all (λ (entry : List ℕ × File). not (command.is_within path entry.0) || entry.1.remote) entries) (sym (entries-tree_of es c.range.ensures.ordered))
    ∙ ap (λ (t : Tree). command.all_remote t path) c.self.view_is
