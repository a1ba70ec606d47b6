use Rattle.std.proofs.Common.{◌≡◌, ◌<◌, length, false, arith, sym, ap, subst, ◌∙◌}
use Rattle.card_files.specs.State.{State}
use Rattle.card_files.specs.Path.{child_of}
use Rattle.card_files.specs.Kind.{deepest}
use Rattle.card_files.specs.Commands.{contents_of, is_taken}
use Rattle.card_files.specs.Sound.{IsNew}
use Rattle.card_files.proofs.NewLemmas.{is-new}
use Rattle.card_files.proofs.SoundLemmas.{state}
use Rattle.card_files.proofs.files.Files.wanted.Goals as goal

pub returns-clause-new : goal.returns-clause-new
returns-clause-new c =
    let inside = c.self.inside in
    let s : State = state inside.tree inside.folder inside.ef in
    let kind = c.in-Some-kind_of.kind in
    let same : c.word-2.result ≡ c.word.result = c.word-2.ensures ∙ sym c.word.ensures in
    let free : is_taken s c.word.result ≡ false = ap (λ (t : State). is_taken t c.word.result) c.self.view_is ∙ sym c.is_taken.ensures ∙ c.if-is_taken.false in
    let depth : c.depth.result ≡ length inside.folder = c.depth.ensures.depth in
    let below : c.depth.result < deepest kind = c.in-Some-kind_of.ensures.deep in
    let deep : length inside.folder < deepest kind = omega (arith, depth, below) in
    let new : IsNew inside.tree c.in-Some.path (contents_of kind) = is-new s c.word.result c.in-Some.path kind c.word-size.result c.self.invariant c.word.type_inv free
    (c.in-Some.ensures ∙ ap (child_of inside.folder) same) c.in-Some-kind_of.ensures.sized deep c.in-Some-kind_of.ensures.size (sym c.has_room.ensures ∙ c.if-not-has_room.false) in
    let N : State → Type 0 = λ t. IsNew t.files c.in-Some.path (contents_of kind) in
    subst N c.self.view_is new
