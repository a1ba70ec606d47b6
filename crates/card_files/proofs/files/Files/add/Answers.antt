use Rattle.std.proofs.Common.{◌≡◌, ℕ, List, is_some, sym, ap, subst, ◌∙◌}
use Rattle.std.specs.FinMap as map
use Rattle.file_records.specs.declared.contents.Contents.{Contents}
use Rattle.card_files.specs.State.{Tree, State}
use Rattle.card_files.specs.Commands.{contents_of}
use Rattle.card_files.specs.Sound.{IsNew, IsSound, new_file}
use Rattle.card_files.proofs.SoundLemmas.{state, sound-new, there-put}
use Rattle.card_files.proofs.files.Files.add.Goals as goal

pub invariant_of-self-2 : goal.invariant_of-self-2
invariant_of-self-2 c =
    let inside = c.self.inside in
    let path = c.args.new.path in
    let contents = contents_of c.args.new.kind in
    let made : c.insert.new.self ≡ map.insert inside.tree path (new_file contents) =
    c.in_ok-insert.ensures.ok ∙ ap (λ (p : List ℕ). map.insert inside.tree p (new_file c.in_ok-contents.contents)) c.copied.ensures ∙ ap (λ (k : Contents). map.insert inside.tree path (new_file k)) c.in_ok-contents.ensures in
    let N : Tree → Type 0 = λ t. IsNew t path contents in
    let new = subst N (sym (ap (λ (s : State). s.files) c.self.view_is)) c.requires.new in
    let P : Tree → Type 0 = λ t. IsSound (state t inside.folder inside.ef) in
    subst P (sym made) (sound-new inside.tree inside.folder inside.ef path c.self.invariant (new_file contents) new.free new.place new.few new.room)

pub make_current-requires : goal.make_current-requires
make_current-requires c =
    let inside = c.self.inside in
    let path = c.args.new.path in
    let made : c.insert.new.self ≡ map.insert inside.tree path (new_file c.in_ok-contents.contents) =
    c.in_ok-insert.ensures.ok ∙ ap (λ (p : List ℕ). map.insert inside.tree p (new_file c.in_ok-contents.contents)) c.copied.ensures in
    ap (λ (t : Tree). is_some (map.get t path)) made ∙ there-put inside.tree path (new_file c.in_ok-contents.contents)
