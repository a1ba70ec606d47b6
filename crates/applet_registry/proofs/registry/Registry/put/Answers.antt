use Rattle.std.proofs.Common.{◌≡◌, ℕ, false, List, [], ◌∷◌, ◌++◌, sym, subst}
use Rattle.ota_core.specs.KeysetList.{has_kvn}
use Rattle.ota_core.specs.declared.keysets.KeysetFacts.{KeysetFacts}
use Rattle.applet_registry.specs.Sound.{IsSound}
use Rattle.applet_registry.specs.State.{State, is_issued}
use Rattle.applet_registry.proofs.SoundLemmas.{state, sound-put}
use Rattle.applet_registry.proofs.registry.Registry.put.Goals as goal

pub invariant_of-self-2 : goal.invariant_of-self-2
invariant_of-self-2 c =
    let inside = c.self.inside in
    let kvn = c.args.kvn in
    let keyset = c.args.keyset in
    let N : State → Type 0 = λ s. is_issued s kvn ≡ false in
    let F : State → Type 0 = λ s. has_kvn kvn s.put ≡ false in
    let pushed : c.push.new.self ≡ inside.put ++ (kvn, keyset) ∷ [] = c.in_ok-push.ensures.ok in
    let P : List (ℕ × KeysetFacts) → Type 0 = λ put. IsSound (state inside.load_files.items inside.applications.items inside.load inside.issued.items put) in
    subst P (sym pushed) (sound-put inside.load_files.items inside.applications.items inside.load inside.issued.items inside.put kvn keyset c.self.invariant c.requires.above c.requires.below (subst N (sym c.self.view_is) c.requires.new) (subst F (sym c.self.view_is) c.requires.free))
