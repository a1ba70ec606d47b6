use Rattle.std.proofs.Common.{◌≡◌, ℕ, ◌+◌, suc, subst, arith}
use Rattle.apdu_codec.specs.declared.apdu.Next.TheVariants.{End, Command, Short}
use Rattle.apdu_codec.specs.Apdu.{next_of}
use Rattle.apdu_codec.specs.Script.{HasCommands}
use Rattle.apdu_codec.specs.Script.HasCommands.{none, cut_off, one_more}
use Rattle.apdu_codec.proofs.script.count_commands.Goals as goal

pub returns-in-End-clause-count : goal.returns-in-End-clause-count
returns-in-End-clause-count c =
    let script = c.args.script.now in
    let at = c.loop-next.at in
    let end : next_of script at ≡ End = cc in
    let P : ℕ → Type 0 = λ count. HasCommands script 0 count in
    let all : c.loop-next.count + 0 ≡ c.loop-next.count = omega arith in
    subst P all (c.loop-next.invariant.2 0 (none at end))

pub returns-in-Short-clause-count : goal.returns-in-Short-clause-count
returns-in-Short-clause-count c =
    let cut : next_of c.args.script.now c.loop-next.at ≡ Short = cc in
    c.loop-next.invariant.2 1 (cut_off c.loop-next.at cut)

pub loop-next-preserved : goal.loop-next-preserved
loop-next-preserved c =
    let script = c.args.script.now in
    let at = c.loop-next.at in
    let next = c.in-Command.next in
    let apdu = c.in-Command.field-0 in
    let read : next_of script at ≡ Command apdu next = cc in
    let P : ℕ → Type 0 = λ count. HasCommands script 0 count in (
      omega (arith, c.in-Command.ensures.forward),
      omega (arith, c.in-Command.ensures.forward, c.loop-next.invariant.1),
      λ left has.
          let moved : c.loop-next.count + suc left ≡ c.loop-next.count + 1 + left = omega arith in
          subst P moved (c.loop-next.invariant.2 (suc left) (one_more at next left apdu read has)),
    )
