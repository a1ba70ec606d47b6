use Rattle.std.proofs.Common.{◌≡◌, ◌+◌, ◌≤◌, true, None, List, [], ◌∷◌, ◌++◌, length, sym, subst}
use Rattle.applet_registry.specs.declared.load_file.LoadFile.{LoadFile}
use Rattle.applet_registry.specs.Sound.{IsSound}
use Rattle.applet_registry.specs.State.{State, is_loading, total_of}
use Rattle.applet_registry.proofs.SoundLemmas.{state, sound-ended}
use Rattle.applet_registry.proofs.registry.Registry.end_load.Goals as goal

pub invariant_of-self-2 : goal.invariant_of-self-2
invariant_of-self-2 c =
    let inside = c.self.inside in
    let file = c.args.file in
    let L : State → Type 0 = λ s. is_loading s file.aid ≡ true in
    let R : State → Type 0 = λ s. total_of s.load_files + length file.octets ≤ 65536 in
    let pushed : c.push.new.self.items ≡ inside.load_files.items ++ file ∷ [] = c.in_ok-push.ensures.items in
    let P : List LoadFile → Type 0 = λ f. IsSound (state f inside.applications.items None inside.issued.items inside.put) in
    subst P (sym pushed) (sound-ended inside.load_files.items inside.applications.items inside.load inside.issued.items inside.put file c.self.invariant (subst L (sym c.self.view_is) c.requires.loading) (subst R (sym c.self.view_is) c.requires.room))
