use Rattle.std.proofs.Common.{◌≡◌, ℕ, true, false, List, rules, subst}
use Rattle.sms_segments.specs.Assembled.{is_whole, with_piece}
use Rattle.sms_segments.specs.Kept.{Pile, kept_in, kept_without}
use Rattle.sms_segments.specs.declared.concatenations.Concatenation.{Concatenation}
use Rattle.sms_segments.proofs.TakeLemmas.{keeps-part, keeps-whole}
use Rattle.sms_segments.proofs.assembling.Assembler.take.Goals as goal

pub returns-then-not-is_whole-clause-keeps : goal.returns-then-not-is_whole-clause-keeps
returns-then-not-is_whole-clause-keeps c =
    let k = c.args.arrival.now.of in
    let place : ℕ = c.args.arrival.now.place in
    let octets : List ℕ = c.args.octets.now in
    let pieces : Pile = c.self.inside.pieces.pieces in
    let part : is_whole k.total (with_piece place octets (kept_in pieces k)) ≡ false = search rules in
    rw (← c.self.view_is) (keeps-part pieces c.keep.new.self.pieces k place octets part c.in_ok-keep.ensures.ok)

pub returns-clause-keeps : goal.returns-clause-keeps
returns-clause-keeps c =
    let k = c.args.arrival.now.of in
    let place : ℕ = c.args.arrival.now.place in
    let octets : List ℕ = c.args.octets.now in
    let pieces : Pile = c.args.self.now.pieces in
    let whole : is_whole k.total (with_piece place octets (kept_in pieces k)) ≡ true = search rules in
    let same : c.self-2.inside.pieces.pieces ≡ pieces = search rules in
    keeps-whole pieces c.forget.new.self.pieces k place octets whole (subst (λ p. (of : Concatenation) → kept_in c.forget.new.self.pieces of ≡ kept_without k p of) same c.forget.ensures)
