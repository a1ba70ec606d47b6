use Rattle.std.proofs.Common.{◌≡◌, ℕ, List, None, sym, ap, subst, ◌∙◌}
use Rattle.card_files.specs.State.{Tree}
use Rattle.card_files.specs.Fresh.{fresh_state}
use Rattle.card_files.specs.Sound.{IsSound}
use Rattle.card_files.proofs.FreshLemmas.{sound-fresh}
use Rattle.card_files.proofs.SoundLemmas.{state}
use Rattle.card_files.proofs.files.Files.fresh.Goals as goal

pub invariant_of-result : goal.invariant_of-result
invariant_of-result c =
    let is : state c.in_ok-tree.tree c.mf.result None ≡ fresh_state = ap (λ (t : Tree). state t c.mf.result None) c.in_ok-tree.ensures ∙ ap (λ (path : List ℕ). record { files = fresh_state.files; folder = path; ef = None }) c.mf.ensures in
    subst IsSound (sym is) sound-fresh

pub returns-clause-sound : goal.returns-clause-sound
returns-clause-sound c =
    let is : state c.in_ok-tree.tree c.mf.result None ≡ fresh_state = ap (λ (t : Tree). state t c.mf.result None) c.in_ok-tree.ensures ∙ ap (λ (path : List ℕ). record { files = fresh_state.files; folder = path; ef = None }) c.mf.ensures in
    subst IsSound (sym is) sound-fresh
