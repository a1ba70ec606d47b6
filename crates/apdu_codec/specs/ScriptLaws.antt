-- Laws of the reading of scripts, which other crates cite: each is read in one way, and each command goes on.
use Rattle.std.proofs.Common.{◌≡◌, ◌⊎◌, inl, inr, ℕ, zero, suc, ◌+◌, ◌-◌, ◌<◌, ◌≤◌, List, [], ◌∷◌, length, drop, length-drop, refl, sym, subst, ap, ◌∙◌, arith}
use Rattle.apdu_codec.specs.declared.apdu.Apdu.{Apdu}
use Rattle.apdu_codec.specs.declared.apdu.Next.{Next}
use Rattle.apdu_codec.specs.declared.apdu.Next.TheVariants.{End, Command, Short}
use Rattle.apdu_codec.specs.Apdu.{next_of, front_of, GoesForward}
use Rattle.apdu_codec.specs.Script.{Splits, IsCutAt, HasCommands, IsBehind}
use Rattle.apdu_codec.specs.Script.Splits.{ended, command}
use Rattle.apdu_codec.specs.Script.IsCutAt.{here, later}
use Rattle.apdu_codec.specs.Script.HasCommands.{none, cut_off, one_more}

pub one_list : (script : List ℕ) (at : ℕ) (commands others : List Apdu) → Splits script at commands → Splits script at others → commands ≡ others
one_list script at commands others (ended _ e) (ended _ f) = refl
one_list script at commands others (ended _ e) (command _ next apdu rest f s) = cc
one_list script at commands others (command _ next apdu rest f s) (ended _ e) = cc
one_list script at commands others (command _ n a xs e s) (command _ m b ys f t) =
    let same : ◌≡◌ {A = Next} (Command a n) (Command b m) = cc in
    let places : n ≡ m = cc in
    let apdus : a ≡ b = cc in
    let P : ℕ → Type 0 = λ k. Splits script k ys in
    let rest : xs ≡ ys = one_list script n xs ys s (subst P (sym places) t) in
    cc

pub one_cut : (script : List ℕ) (cut other at : ℕ) → IsCutAt script cut at → IsCutAt script other at → cut ≡ other
one_cut script cut other at (here e) (here f) = refl
one_cut script cut other at (here e) (later _ next apdu f s) = cc
one_cut script cut other at (later _ next apdu f s) (here e) = cc
one_cut script cut other at (later _ n a e s) (later _ m b f t) =
    let same : ◌≡◌ {A = Next} (Command a n) (Command b m) = cc in
    let places : n ≡ m = cc in
    let P : ℕ → Type 0 = λ k. IsCutAt script other k in
    one_cut script cut other n s (subst P (sym places) t)

pub apart : (script : List ℕ) (cut at : ℕ) (commands : List Apdu) → Splits script at commands → IsCutAt script cut at → ⊥
apart script cut at commands (ended _ e) (here f) = cc
apart script cut at commands (ended _ e) (later _ next apdu f s) = cc
apart script cut at commands (command _ next apdu rest e s) (here f) = cc
apart script cut at commands (command _ n a xs e s) (later _ m b f t) =
    let same : ◌≡◌ {A = Next} (Command a n) (Command b m) = cc in
    let places : n ≡ m = cc in
    let P : ℕ → Type 0 = λ k. IsCutAt script cut k in
    apart script cut n xs s (subst P (sym places) t)

pub one_count : (script : List ℕ) (at count other : ℕ) → HasCommands script at count → HasCommands script at other → count ≡ other
one_count script at count other (none _ e) (none _ f) = refl
one_count script at count other (none _ e) (cut_off _ f) = cc
one_count script at count other (none _ e) (one_more _ next n apdu f s) = cc
one_count script at count other (cut_off _ e) (none _ f) = cc
one_count script at count other (cut_off _ e) (cut_off _ f) = refl
one_count script at count other (cut_off _ e) (one_more _ next n apdu f s) = cc
one_count script at count other (one_more _ next n apdu e s) (none _ f) = cc
one_count script at count other (one_more _ next n apdu e s) (cut_off _ f) = cc
one_count script at count other (one_more _ n x a e s) (one_more _ m y b f t) =
    let same : ◌≡◌ {A = Next} (Command a n) (Command b m) = cc in
    let places : n ≡ m = cc in
    let P : ℕ → Type 0 = λ k. HasCommands script k y in
    ap suc (one_count script n x y s (subst P (sym places) t))

pub whole : (script : List ℕ) (at : ℕ) (commands : List Apdu) → Splits script at commands → HasCommands script at (length commands)
whole script at commands (ended _ e) = none at e
whole script at commands (command _ next apdu others e s) = one_more at next (length others) apdu e (whole script next others s)

pub rest_at : (script : List ℕ) (cut at : ℕ) → IsCutAt script cut at → HasCommands script cut 1
rest_at script cut at (here e) = cut_off cut e
rest_at script cut at (later _ next apdu e s) = rest_at script cut next s

-- what a rest begins with goes forward
front_forward : (at end : ℕ) (octets : List ℕ) → at + length octets ≡ end → GoesForward at end (front_of at octets)
front_forward at end [] e = omega (arith, e)
front_forward at end (a ∷ []) e = omega (arith, e)
front_forward at end (a ∷ b ∷ []) e = omega (arith, e)
front_forward at end (a ∷ b ∷ c ∷ []) e = omega (arith, e)
front_forward at end (a ∷ b ∷ c ∷ d ∷ []) e = omega (arith, e)
front_forward at end (cla ∷ ins ∷ p1 ∷ p2 ∷ p3 ∷ behind) e = grind (arith, e)

pub forward : (script : List ℕ) (at : ℕ) → at ≤ length script → GoesForward at (length script) (next_of script at)
forward script at within =
    let left : at + length (drop at script) ≡ length script = omega (arith, length-drop at script) in
    front_forward at (length script) (drop at script) left

-- from a place on, a script is read to its end, or up to a rest that is no whole command
abbrev pub IsRead : List ℕ → ℕ → Type 0
IsRead script at = ((commands : List Apdu) × Splits script at commands) ⊎ ((cut : ℕ) × IsCutAt script cut at)

behind : (script : List ℕ) (at next : ℕ) (apdu : Apdu) → next_of script at ≡ Command apdu next → IsRead script next → IsRead script at
behind script at next apdu reads (inl whole) = inl (apdu ∷ whole.0, command at next apdu whole.0 reads whole.1)
behind script at next apdu reads (inr cut) = inr (cut.0, later at next apdu reads cut.1)

pub read_from : (script : List ℕ) (left at : ℕ) → length script ≤ at + left → at ≤ length script → IsRead script at
read_from script zero at most within =
    elim (next_of script at) as (λ r. next_of script at ≡ r → GoesForward at (length script) r → IsRead script at) [
      | End ↦ λ e f. inl ([], ended at e)
      | Command apdu next ↦ λ e f. absurd (omega (arith, f, most))
      | Short ↦ λ e f. inr (at, here e)
    ] refl (forward script at within)
read_from script (suc left) at most within =
    elim (next_of script at) as (λ r. next_of script at ≡ r → GoesForward at (length script) r → IsRead script at) [
      | End ↦ λ e f. inl ([], ended at e)
      | Command apdu next ↦ λ e f. behind script at next apdu e (read_from script left next (omega (arith, f, most)) f.1)
      | Short ↦ λ e f. inr (at, here e)
    ] refl (forward script at within)

pub some_reading : (script : List ℕ) → IsRead script 0
some_reading script = read_from script (length script) 0 (omega arith) (omega arith)

counted_cut : (script : List ℕ) (cut at : ℕ) → IsCutAt script cut at → (count : ℕ) × HasCommands script at count
counted_cut script cut at (here e) = (1, cut_off cut e)
counted_cut script cut at (later _ next apdu e s) =
    let left = counted_cut script cut next s in
    (suc left.0, one_more at next left.0 apdu e left.1)

counted : (script : List ℕ) → IsRead script 0 → (count : ℕ) × HasCommands script 0 count
counted script (inl read) = (length read.0, whole script 0 read.0 read.1)
counted script (inr cut) = counted_cut script cut.0 0 cut.1

pub some_count : (script : List ℕ) → (count : ℕ) × HasCommands script 0 count
some_count script = counted script (some_reading script)

-- within a script there is a command
pub some_left : (script : List ℕ) (at count : ℕ) → at < length script → HasCommands script at count → 0 < count
some_left script at count within (none _ e) =
    let P : Next → Type 0 = λ next. GoesForward at (length script) next in
    let end : at ≡ length script = subst P e (forward script at (omega (arith, within))) in
    omega (arith, within, end)
some_left script at count within (cut_off _ e) = omega arith
some_left script at count within (one_more _ next n apdu e s) = omega arith

-- behind a command there is one command less
pub one_less : (script : List ℕ) (at next count : ℕ) → IsBehind script at next → HasCommands script at count → HasCommands script next (count - 1)
one_less script at next count behind (none _ e) =
    let reads = behind.reads in
    cc
one_less script at next count behind (cut_off _ e) =
    let reads = behind.reads in
    cc
one_less script at next count behind (one_more _ n x a e s) =
    let same : ◌≡◌ {A = Next} (Command a n) (Command behind.command next) = sym e ∙ behind.reads in
    let places : n ≡ next = cc in
    let left : x ≡ suc x - 1 = omega arith in
    let P : ℕ → Type 0 = λ k. HasCommands script k (suc x - 1) in
    let Q : ℕ → Type 0 = λ k. HasCommands script n k in
    subst P places (subst Q left s)
