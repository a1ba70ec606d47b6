use Rattle.std.proofs.Common.{◌≡◌, ℕ, List, ◌∷◌, [], ◌++◌, append-nil, append_assoc, arith, subst, refl}
use Rattle.apdu_codec.specs.declared.apdu.Apdu.{Apdu}
use Rattle.apdu_codec.specs.declared.apdu.Next.TheVariants.{End, Command, Short}
use Rattle.apdu_codec.specs.Apdu.{next_of}
use Rattle.apdu_codec.specs.Script.{Splits, IsCutAt}
use Rattle.apdu_codec.specs.Script.Splits.{ended, command}
use Rattle.apdu_codec.specs.Script.IsCutAt.{here, later}
use Rattle.apdu_codec.proofs.script.split_script.Goals as goal

pub returns-in-End-clause-commands : goal.returns-in-End-clause-commands
returns-in-End-clause-commands c =
    let script = c.args.script.now in
    let end : next_of script c.loop-commands.at ≡ End = cc in
    let P : List Apdu → Type 0 = λ commands. Splits script 0 commands in
    subst P (append-nil _) (c.loop-commands.invariant.1 [] (ended c.loop-commands.at end))

pub returns-in-Short-clause-cut : goal.returns-in-Short-clause-cut
returns-in-Short-clause-cut c = λ at is.
    let script = c.args.script.now in
    let place : c.loop-commands.at ≡ at = cc in
    let cut : next_of script c.loop-commands.at ≡ Short = cc in
    let P : ℕ → Type 0 = λ k. IsCutAt script k 0 in
    subst P place (c.loop-commands.invariant.2 c.loop-commands.at (here cut))

pub loop-commands-preserved : goal.loop-commands-preserved
loop-commands-preserved c =
    let script = c.args.script.now in
    let at = c.loop-commands.at in
    let next = c.in-Command.next in
    let apdu = c.in-Command.apdu in
    let read : next_of script at ≡ Command apdu next = cc in
    let pushed : c.push.new.self.items ≡ c.loop-commands.commands.items ++ apdu ∷ [] = c.in_ok-push-in-Command.ensures.items in
    let P : List Apdu → Type 0 = λ commands. Splits script 0 commands in (
      omega (arith, c.in-Command.ensures.forward),
      λ rest splits.
          let joined : c.loop-commands.commands.items ++ apdu ∷ rest ≡ c.push.new.self.items ++ rest = rw (pushed, append_assoc) refl in
          subst P joined (c.loop-commands.invariant.1 (apdu ∷ rest) (command at next apdu rest read splits)),
      λ cut is. c.loop-commands.invariant.2 cut (later at next apdu read is),
    )
