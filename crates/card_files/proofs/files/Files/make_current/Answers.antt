use Rattle.std.proofs.Common.{◌≡◌, ℕ, List, Some, true, false, is_some, sym, ap, subst, ◌∙◌}
use Rattle.std.specs.FinMap as map
use Rattle.card_files.specs.State.{State, is_folder_at}
use Rattle.card_files.specs.Sound.{IsSound}
use Rattle.card_files.proofs.SoundLemmas.{state, sound-ef}
use Rattle.card_files.proofs.files.Files.make_current.Goals as goal

pub invariant_of-self-else-is_folder : goal.invariant_of-self-else-is_folder
invariant_of-self-else-is_folder c =
    let inside = c.self.inside in
    let there : is_some (map.get inside.tree c.args.path) ≡ true = ap (λ (s : State). is_some (map.get s.files c.args.path)) c.self.view_is ∙ c.requires in
    let ef : is_folder_at inside.tree c.args.path ≡ false = sym c.is_folder.ensures ∙ c.if-is_folder.false in
    let P : List ℕ → Type 0 = λ folder. IsSound (state inside.tree folder (Some c.args.path)) in
    subst P (sym c.above-self-inside.ensures) (sound-ef inside.tree inside.folder inside.ef c.args.path c.self.invariant there ef)
