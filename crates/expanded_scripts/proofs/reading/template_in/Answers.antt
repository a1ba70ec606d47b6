use Rattle.std.proofs.Common.{◌≡◌, ℕ, List, [], ◌∷◌, ◌++◌, ◌+◌, length, sym, subst, ap, ◌∙◌, arith, length-append}
use Rattle.expanded_scripts.specs.Template.{AreWhole}
use Rattle.expanded_scripts.proofs.Grammar.{Reads, reads-more, whole-more, plain-whole}
use Rattle.expanded_scripts.proofs.reading.template_in.Goals as goal

pub loop-left-preserved : goal.loop-left-preserved
loop-left-preserved c =
    let items : c.push.new.self.items ≡ c.loop-left.commands.items ++ c.in_ok-plain.plain ∷ [] = c.in_ok-push.ensures.items in
    let child = c.in_ok-plain.ensures.child in
    let kept = c.loop-left.invariant in
    let P : List (List ℕ) → Type 0 = λ xs. Reads c.args.octets.now xs c.in_ok-plain.behind.now in
    let Q : List (List ℕ) → Type 0 = AreWhole in
    let more : length c.push.new.self.items ≡ length c.loop-left.commands.items + 1 = ap (λ (xs : List (List ℕ)). length xs) items ∙ length-append c.loop-left.commands.items (c.in_ok-plain.plain ∷ []) in record {
      read = subst P (sym items) (reads-more c.args.octets.now c.loop-left.commands.items c.loop-left.left.now c.in_ok-plain.plain c.in_ok-plain.behind.now kept.read child);
      within = omega (arith, kept.within, c.in_ok-plain.ensures.left);
      short = kept.short;
      few = omega (arith, more, kept.few, c.in_ok-plain.ensures.left);
      whole = subst Q (sym items) (whole-more c.loop-left.commands.items c.in_ok-plain.plain kept.whole (plain-whole child.value c.in_ok-plain.plain child.command));
    }
