use Rattle.std.proofs.Common.{◌≡◌, ℕ, List, Option, false, sym, ap, subst, ◌∙◌}
use Rattle.std.specs.FinMap as map
use Rattle.card_files.specs.State.{Tree, State}
use Rattle.card_files.specs.Commands.{is_within, ef_without}
use Rattle.card_files.specs.Sound.{IsSound}
use Rattle.card_files.proofs.SoundLemmas.{state, sound-without, forgotten-twice}
use Rattle.card_files.proofs.WithinLemmas.{stays}
use Rattle.card_files.proofs.files.Files.take_away.Goals as goal

pub invariant_of-self : goal.invariant_of-self
invariant_of-self c =
    let inside = c.self.inside in
    let path = c.args.path.now in
    let is = c.self.view_is ∙ c.forget.ensures in
    let folder : inside.folder ≡ c.args.self.now.folder = ap (λ (s : State). s.folder) is in
    let ef : inside.ef ≡ ef_without path c.args.self.now.ef = ap (λ (s : State). s.ef) is in
    let same : ef_without path inside.ef ≡ inside.ef = ap (ef_without path) ef ∙ forgotten-twice path c.args.self.now.ef ∙ sym ef in
    let outside : is_within path inside.folder ≡ false = ap (is_within path) folder ∙ c.requires in
    let P : Option (List ℕ) → Type 0 = λ e. IsSound (state (map.retain_keys inside.tree (stays path)) inside.folder e) in
    let Q : Tree → Type 0 = λ t. IsSound (state t inside.folder inside.ef) in
    subst Q (sym c.remove.ensures) (subst P same (sound-without inside.tree inside.folder inside.ef path c.self.invariant outside))
