-- A run goes from command to command of its script, and ends with the last of them.
use Rattle.std.proofs.Common.{◌≡◌, ℕ, zero, suc, ◌-◌, ◌<◌, ◌≤◌, ◌==◌, ◌&&◌, nat_lt, true, false, cond, Option, Some, None, IfSome, List, length, refl, sym, subst, arith}
use Rattle.std.proofs.lemmas.Bool.Decides.{nat_tests}
use Rattle.apdu_codec.specs.declared.apdu.Apdu.{Apdu}
use Rattle.apdu_codec.specs.declared.apdu.Next.TheVariants.{End, Command, Short}
use Rattle.apdu_codec.specs.Apdu.{next_of}
use Rattle.apdu_codec.specs.Script.{HasCommands, IsBehind}
use Rattle.apdu_codec.specs.ScriptLaws.{some_left, one_less}
use Rattle.script_engine.specs.declared.card.CardState.{CardState}
use Rattle.script_engine.specs.declared.part.Part.{Part}
use Rattle.script_engine.specs.Run.{Progress, start, advanced_from, runs}
use Rattle.script_engine.specs.Step.{goes_on, next_step, script_step}

goes-behind : (script : List ℕ) (at sw next : ℕ) (apdu : Apdu) → next_of script at ≡ Command apdu next → IfSome (goes_on script sw next) (λ to. IsBehind script at to × (to < length script))
goes-behind script at sw next apdu reads =
    elim (sw == 0x9000 && nat_lt next (length script)) as (λ b. (sw == 0x9000 && nat_lt next (length script)) ≡ b → IfSome (cond b (Some next) None) (λ to. IsBehind script at to × (to < length script))) [
      | true ↦ λ e. (record { command = apdu; reads = reads }, grind (arith, nat_tests, e))
      | false ↦ λ e. tt
    ] refl

-- a step goes on to the next command
pub step-goes : (card : CardState) (part : Part) (script : List ℕ) (at : ℕ) → IfSome (script_step card part script at).1 (λ to. IsBehind script at to × (to < length script))
step-goes card part script at =
    elim (next_of script at) as (λ r. next_of script at ≡ r → IfSome (next_step card part script r).1 (λ to. IsBehind script at to × (to < length script))) [
      | End ↦ λ e. tt
      | Command apdu next ↦ λ e. goes-behind script at (next_step card part script (Command apdu next)).0.sw next apdu e
      | Short ↦ λ e. tt
    ] refl

-- the first commands are at most those of the script, and those that are left stand behind them
pub record Fits (script : List ℕ) (count n : ℕ) (p : Progress) : Type 0 where
  pub few : p.count ≤ count
  pub goes : IfSome p.next (λ at. (p.count ≡ n) × (at < length script) × HasCommands script at (count - p.count))

fits-start : (card : CardState) (script : List ℕ) (count : ℕ) → HasCommands script 0 count → Fits script count 0 (start card script)
fits-start card script count has =
    let all : count ≡ count - 0 = omega arith in
    let P : ℕ → Type 0 = λ k. HasCommands script 0 k in record {
      few = omega arith;
      goes =
          elim (length script == 0) as (λ b. (length script == 0) ≡ b → IfSome (cond b None (Some 0)) (λ at. ((start card script).count ≡ 0) × (at < length script) × HasCommands script at (count - 0))) [
            | true ↦ λ e. tt
            | false ↦ λ e. (refl, grind (arith, nat_tests, e), subst P all has)
          ] refl;
    }

fits-next : (script : List ℕ) (at count so_far n : ℕ) (next : Option ℕ) → so_far ≡ n → HasCommands script at (count - so_far) → IfSome next (λ to. IsBehind script at to × (to < length script)) → IfSome next (λ to. (suc so_far ≡ suc n) × (to < length script) × HasCommands script to (count - suc so_far))
fits-next script at count so_far n None same has goes = tt
fits-next script at count so_far n (Some to) same has goes =
    let left : count - so_far - 1 ≡ count - suc so_far = omega arith in
    let P : ℕ → Type 0 = λ k. HasCommands script to k in
    (omega (arith, same), goes.1, subst P left (one_less script at to (count - so_far) goes.0 has))

fits-advanced : (part : Part) (script : List ℕ) (count n : ℕ) (p : Progress) (next : Option ℕ) → p.next ≡ next → Fits script count n p → Fits script count (suc n) (advanced_from part script p next)
fits-advanced part script count n p None none fits = record {
  few = fits.few;
  goes = let P : Option ℕ → Type 0 = λ o. IfSome o (λ at. (p.count ≡ suc n) × (at < length script) × HasCommands script at (count - p.count)) in subst P (sym none) tt;
}
fits-advanced part script count n p (Some at) some fits =
    let P : Option ℕ → Type 0 = λ o. IfSome o (λ at. (p.count ≡ n) × (at < length script) × HasCommands script at (count - p.count)) in
    let here = subst P some fits.goes in
    let left = some_left script at (count - p.count) here.1 here.2 in record {
      few = omega (arith, left);
      goes = fits-next script at count p.count n (script_step p.last.after part script at).1 here.0 here.2 (step-goes p.last.after part script at);
    }

pub fits : (card : CardState) (part : Part) (script : List ℕ) (count : ℕ) → HasCommands script 0 count → (n : ℕ) → Fits script count n (runs card part script n)
fits card part script count has zero = fits-start card script count has
fits card part script count has (suc n) =
    fits-advanced part script count n (runs card part script n) (runs card part script n).next refl (fits card part script count has n)

none-left : (script : List ℕ) (count : ℕ) (p : Progress) (next : Option ℕ) → IfSome next (λ at. (p.count ≡ count) × (at < length script) × HasCommands script at (count - p.count)) → next ≡ None
none-left script count p None goes = refl
none-left script count p (Some at) goes =
    let left = some_left script at (count - p.count) goes.1 goes.2 in
    absurd (omega (arith, left, goes.0))

-- a run ends within the number of commands
pub run-ends : (card : CardState) (part : Part) (script : List ℕ) (count : ℕ) → HasCommands script 0 count → (runs card part script count).next ≡ None
run-ends card part script count has =
    none-left script count (runs card part script count) (runs card part script count).next (fits card part script count has count).goes

-- and its count is at most that number
pub few-run : (card : CardState) (part : Part) (script : List ℕ) (count n : ℕ) (p : Progress) → runs card part script n ≡ p → HasCommands script 0 count → p.count ≤ count
few-run card part script count n p is has =
    let P : Progress → Type 0 = λ q. q.count ≤ count in
    subst P is (fits card part script count has n).few
