use Rattle.std.proofs.Common.{◌≡◌, Bool, not, bytes_eq, List, filter, sym, subst, ap, ◌∙◌, rules}
use Rattle.std.proofs.lemmas.Fn.{filter_same}
use Rattle.applet_registry.specs.declared.application.Application.{Application}
use Rattle.applet_registry.specs.declared.load_file.LoadFile.{LoadFile}
use Rattle.applet_registry.specs.Sound.{IsSound}
use Rattle.applet_registry.specs.State.{State, without_load_file}
use Rattle.applet_registry.proofs.SoundLemmas.{state, sound-without-load-file}
use Rattle.applet_registry.proofs.registry.Registry.remove_load_file.Goals as goal

pub returns : goal.returns
returns c =
    let inside = c.self.inside in
    let aid = c.args.aid.now in
    let file_stays : LoadFile → Bool = λ f. not (bytes_eq f.aid aid) in
    let stays : Application → Bool = λ a. not (bytes_eq a.load_file aid) in
    let files : c.retain.new.self.items ≡ filter file_stays inside.load_files.items = filter_same _ file_stays _ (λ x b f' t. search rules) _ _ c.retain.ensures.filtered in
    let kept : c.retain-2.new.self.items ≡ filter stays inside.applications.items = filter_same _ stays _ (λ x b f' t. search rules) _ _ c.retain-2.ensures.filtered in
    let P : List LoadFile → List Application → State = λ fs left. record { load_files = fs; applications = left; load = inside.load; issued = inside.issued.items; put = inside.put } in
    ap (λ fs. P fs c.retain-2.new.self.items) files ∙ ap (P (filter file_stays inside.load_files.items)) kept ∙ ap (λ (s : State). without_load_file s aid) c.self.view_is

pub invariant_of-self : goal.invariant_of-self
invariant_of-self c =
    let inside = c.self.inside in
    let aid = c.args.aid.now in
    let file_stays : LoadFile → Bool = λ f. not (bytes_eq f.aid aid) in
    let stays : Application → Bool = λ a. not (bytes_eq a.load_file aid) in
    let files : c.retain.new.self.items ≡ filter file_stays inside.load_files.items = filter_same _ file_stays _ (λ x b f' t. search rules) _ _ c.retain.ensures.filtered in
    let kept : c.retain-2.new.self.items ≡ filter stays inside.applications.items = filter_same _ stays _ (λ x b f' t. search rules) _ _ c.retain-2.ensures.filtered in
    let P : List LoadFile → Type 0 = λ fs. IsSound (state fs c.retain-2.new.self.items inside.load inside.issued.items inside.put) in
    let Q : List Application → Type 0 = λ left. IsSound (state (filter file_stays inside.load_files.items) left inside.load inside.issued.items inside.put) in
    subst P (sym files) (subst Q (sym kept) (sound-without-load-file inside.load_files.items inside.applications.items inside.load inside.issued.items inside.put aid c.self.invariant))
