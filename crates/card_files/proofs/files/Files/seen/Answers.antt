use Rattle.std.proofs.Common.{ℕ, List, is_some, sym, ap, ◌∙◌}
use Rattle.std.specs.FinMap as map
use Rattle.card_files.specs.Path.{above}
use Rattle.card_files.specs.State.{State}
use Rattle.card_files.proofs.NamedLemmas.{there-above}
use Rattle.card_files.proofs.SoundLemmas.{state}
use Rattle.card_files.proofs.files.Files.seen.Goals as goal

pub returns-then-id-clause-there : goal.returns-then-id-clause-there
returns-then-id-clause-there c =
    let inside = c.self.inside in
    ap (λ (path : List ℕ). is_some (map.get c.args.self.now.files path)) c.above-above.ensures
    ∙ ap (λ (s : State). is_some (map.get s.files (above inside.folder))) (sym c.self.view_is)
    ∙ there-above (state inside.tree inside.folder inside.ef) c.self.invariant
