use Rattle.std.proofs.Common.{◌≡◌, List, [], ◌∷◌, ◌++◌, sym, subst}
use Rattle.applet_registry.specs.declared.application.Application.{Application}
use Rattle.applet_registry.specs.Sound.{IsSound, IsNew}
use Rattle.applet_registry.specs.State.{State}
use Rattle.applet_registry.proofs.SoundLemmas.{state, sound-registered}
use Rattle.applet_registry.proofs.registry.Registry.register.Goals as goal

pub invariant_of-self-in-Ok : goal.invariant_of-self-in-Ok
invariant_of-self-in-Ok c =
    let inside = c.self.inside in
    let application = c.in-Ok.application in
    let Q : State → Type 0 = λ s. IsNew s application in
    let new = subst Q (sym c.self.view_is) c.in-Ok.ensures.new in
    let pushed : c.push.new.self.items ≡ inside.applications.items ++ application ∷ [] = c.in_ok-push-in-Ok.ensures.items in
    let P : List Application → Type 0 = λ a. IsSound (state inside.load_files.items a inside.load inside.issued.items inside.put) in
    subst P (sym pushed) (sound-registered inside.load_files.items inside.applications.items inside.load inside.issued.items inside.put application c.self.invariant new.from new.unknown new.few)
