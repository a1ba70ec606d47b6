use Rattle.std.proofs.Common.{◌≡◌, ℕ, List, [], ◌∷◌, Some, None, is_some, cond, ◌+◌, take, sym, ap, subst, ◌∙◌}
use Rattle.std.specs.FinMap as map
use Rattle.std.specs.Option.{IfSome}
use Rattle.std.specs.List.{slice_get, prefix_len}
use Rattle.std.specs.BTreeMap.Range.{IsEntryInRange}
use Rattle.std.specs.declared.ops.Bound.TheVariants.{Included, Unbounded}
use Rattle.file_records.specs.declared.file.File.{File}
use Rattle.card_files.specs.Commands as command
use Rattle.card_files.proofs.TreeLemmas.{by_path, found-in}
use Rattle.card_files.proofs.WithinLemmas.{those_within, run_within, run-those_within, none-within}
use Rattle.card_files.proofs.tree.Tree.first_within.Goals as goal
use Rattle.card_files.proofs.tree.Tree.first_within.Goals.{in_default-via-in-Some+else-holds, in_default-via-in_default}

pub returns-in-Some-clause-there : goal.returns-in-Some-clause-there
returns-in-Some-clause-there c =
    let m = c.self.inside.files in
    let P : List (List ℕ × File) → Type 0 = λ r. IfSome (slice_get r 0) (IsEntryInRange by_path (Included c.args.path.now) Unbounded m) in
    let first = subst P c.in-Some.ensures.steps (c.range.ensures.in_range tt).1 in
    ap (λ q. is_some (map.get c.args.self.now q)) c.copied.ensures
    ∙ ap is_some (sym (found-in m.entries c.args.self.now c.in-Some.other.now (Some c.in-Some.field-0-1.now) c.self.view_is (sym first.1)))

pub returns-in_default-clause-none : goal.returns-in_default-clause-none
returns-in_default-clause-none c =
    let es = c.self.inside.files.entries in
    let path = c.args.path.now in
    let run : those_within path es ≡ run_within path c.range.result = run-those_within path es c.range.ensures.ordered ∙ ap (run_within path) (sym (c.range.ensures.between tt)) in
    elim c.in_default.branch [
      | in_default-via-in-Some+else-holds w ↦ λ q is.
          let none : those_within path es ≡ [] = run ∙ ap (run_within path) w.in-Some.ensures.steps ∙ ap (λ b. take (cond b (1 + prefix_len (λ (e : List ℕ × File). command.is_within path e.0) c.next.new.self) 0) ((w.in-Some.other.now, w.in-Some.field-0-1.now) ∷ c.next.new.self)) (sym w.holds.ensures ∙ w.if-holds.false) in
          sym (found-in es c.args.self.now q None c.self.view_is (sym (none-within path q es none is)))
      | in_default-via-in_default w ↦ λ q is.
          let none : those_within path es ≡ [] = run ∙ ap (run_within path) w.in_default.ensures.steps.0 in
          sym (found-in es c.args.self.now q None c.self.view_is (sym (none-within path q es none is)))
    ]
