use Rattle.std.proofs.Common.{◌≡◌, Bool, not, bytes_eq, List, filter, sym, subst, ap, ◌∙◌, rules}
use Rattle.std.proofs.lemmas.Fn.{filter_same}
use Rattle.applet_registry.specs.declared.application.Application.{Application}
use Rattle.applet_registry.specs.Sound.{IsSound}
use Rattle.applet_registry.specs.State.{State, without_application}
use Rattle.applet_registry.proofs.SoundLemmas.{state, sound-without-application}
use Rattle.applet_registry.proofs.registry.Registry.remove_application.Goals as goal

pub returns : goal.returns
returns c =
    let inside = c.self.inside in
    let stays : Application → Bool = λ a. not (bytes_eq a.aid c.args.aid.now) in
    let kept : c.retain.new.self.items ≡ filter stays inside.applications.items = filter_same _ stays _ (λ x b f' t. search rules) _ _ c.retain.ensures.filtered in
    let P : List Application → State = λ left. record { load_files = inside.load_files.items; applications = left; load = inside.load; issued = inside.issued.items; put = inside.put } in
    ap P kept ∙ ap (λ (s : State). without_application s c.args.aid.now) c.self.view_is

pub invariant_of-self : goal.invariant_of-self
invariant_of-self c =
    let inside = c.self.inside in
    let aid = c.args.aid.now in
    let stays : Application → Bool = λ a. not (bytes_eq a.aid aid) in
    let kept : c.retain.new.self.items ≡ filter stays inside.applications.items = filter_same _ stays _ (λ x b f' t. search rules) _ _ c.retain.ensures.filtered in
    let P : List Application → Type 0 = λ left. IsSound (state inside.load_files.items left inside.load inside.issued.items inside.put) in
    subst P (sym kept) (sound-without-application inside.load_files.items inside.applications.items inside.load inside.issued.items inside.put aid c.self.invariant)
