use Rattle.std.proofs.Common.{◌≡◌, ℕ, ◌*◌, ◌/◌, List, ◌++◌, length, drop, subst, ap, sym, ◌∙◌, arith, rules}
use Rattle.aes_modes.specs.Modes.{plain_block, plain_blocks}
use Rattle.aes_modes.specs.Streams.{state_after}
use Rattle.secured_packet.proofs.CheckLemmas.{all_blocks, append-none, append-thrice, later-more, more_long, none_later, one_long}
use Rattle.secured_packet.proofs.checks.take_later_blocks.Goals as goal

pub loop-i-init : goal.loop-i-init
loop-i-init c = (
  (λ text is.
      is ∙ ap (state_after c.args.keys.now.kid)
      (sym (append-none text) ∙ ap (λ s. text ++ s) (sym (none_later c.args.keys.now.kic c.args.octets.now c.requires.first)))),
  one_long c.args.keys.now.kic c.args.octets.now c.requires.first,
)

pub loop-i-preserved : goal.loop-i-preserved
loop-i-preserved c =
    let kic : List ℕ = c.args.keys.now.kic in
    let octets : List ℕ = c.args.octets.now in
    let i : ℕ = c.loop-i.i in
    let P = λ (kid : List ℕ). (text : List ℕ) → c.loop-i.mac ≡ state_after kid text → c.take.new.self ≡ state_after kid (text ++ c.plain_block.result) in
    let taken = subst P c.kid.ensures c.take.ensures in
    let later : List ℕ = drop 16 (plain_blocks kic octets i) in
    let block : c.plain_block.result ≡ plain_block kic octets i = c.plain_block.ensures ∙ ap (λ k. plain_block k octets i) c.kic.ensures in
    let whole : length c.plain_block.result ≡ 16 = search rules in (
      (λ text is.
          taken (text ++ later) (c.loop-i.invariant.0 text is)
          ∙ ap (state_after c.args.keys.now.kid)
          (append-thrice text later c.plain_block.result ∙ ap (λ s. text ++ s) (ap (λ s. later ++ s) block ∙ sym (later-more kic octets c.requires.first i (omega arith))))),
      more_long kic octets i c.loop-i.invariant.1 (ap length (sym block) ∙ whole),
    )

pub returns-clause-taken : goal.returns-clause-taken
returns-clause-taken c = λ text is.
    let at : c.loop-i.i ≡ length c.args.octets.now / 16 = omega arith in
    c.loop-i.invariant.0 text is
    ∙ ap (λ p. state_after c.args.keys.now.kid (text ++ drop 16 p)) (all_blocks c.args.keys.now.kic c.args.octets.now c.loop-i.i at)

pub returns-clause-len : goal.returns-clause-len
returns-clause-len c =
    let at : c.loop-i.i ≡ length c.args.octets.now / 16 = omega arith in
    ap length (sym (all_blocks c.args.keys.now.kic c.args.octets.now c.loop-i.i at)) ∙ c.loop-i.invariant.1 ∙ ap (λ n. 16 * n) at
