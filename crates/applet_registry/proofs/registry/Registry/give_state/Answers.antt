use Rattle.std.proofs.Common.{◌≡◌, List, map, length, sym, ap, subst, ◌∙◌}
use Rattle.applet_registry.specs.declared.application.Application.{Application}
use Rattle.applet_registry.specs.Sound.{IsSound}
use Rattle.applet_registry.specs.State.{with_state_of}
use Rattle.applet_registry.proofs.SoundLemmas.{state, sound-state, written_back, as-many}
use Rattle.applet_registry.proofs.registry.Registry.give_state.Goals as goal

pub invariant_of-self : goal.invariant_of-self
invariant_of-self c =
    let inside = c.self.inside in
    let items = inside.applications.items in
    let new = c.args.new.now in
    let given = c.set_state.new.applications in
    let is : given ≡ map (with_state_of new) items = c.set_state.ensures ∙ ap (map (with_state_of new)) c.deref_mut.ensures.value in
    let same = ap length is ∙ as-many new items in
    let back = written_back items given inside.applications.len inside.applications.ok.0 same in
    let P : List Application → Type 0 = λ a. IsSound (state inside.load_files.items a inside.load inside.issued.items inside.put) in
    subst P (sym (back ∙ is)) (sound-state inside.load_files.items items inside.load inside.issued.items inside.put new c.self.invariant)
