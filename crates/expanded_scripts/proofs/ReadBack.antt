-- What is written is read back.
use Rattle.std.proofs.Common.{◌≡◌, ℕ, zero, suc, ◌/◌, ◌%◌, ◌<◌, ◌≤◌, nat_lt, Bool, true, false, cond, get_or, List, [], ◌∷◌, ◌++◌, length, flat_map, refl, sym, subst, arith, length-append}
use Rattle.std.proofs.lemmas.Bool.Decides.{nat_tests}
use Rattle.std.proofs.lemmas.List.{append-nil}
use Rattle.expanded_scripts.specs.Template.{SpellsLength, HasValue, AreChildren, IsTemplate, AreWhole}
use Rattle.expanded_scripts.specs.Template.IsCommand.{whole}
use Rattle.expanded_scripts.specs.Written.{least_length, element, written}

spells-two : (number : ℕ) → SpellsLength (0x82 ∷ number / 256 ∷ number % 256 ∷ []) number
spells-two number = (refl, omega arith)

spells-more : (number : ℕ) → number < 0x10000 → SpellsLength (cond (nat_lt number 0x100) (0x81 ∷ number ∷ []) (cond (nat_lt number 0x10000) (0x82 ∷ number / 256 ∷ number % 256 ∷ []) (0x83 ∷ number / 65536 ∷ number / 256 % 256 ∷ number % 256 ∷ []))) number
spells-more number small =
    let two : nat_lt number 0x10000 ≡ true = grind (arith, nat_tests, small) in
    let P : Bool → Type 0 = λ t. SpellsLength (cond t (0x82 ∷ number / 256 ∷ number % 256 ∷ []) (0x83 ∷ number / 65536 ∷ number / 256 % 256 ∷ number % 256 ∷ [])) number in
    let longer = subst P (sym two) (spells-two number) in
    elim (nat_lt number 0x100) as (λ t. SpellsLength (cond t (0x81 ∷ number ∷ []) (cond (nat_lt number 0x10000) (0x82 ∷ number / 256 ∷ number % 256 ∷ []) (0x83 ∷ number / 65536 ∷ number / 256 % 256 ∷ number % 256 ∷ []))) number) [
      | true ↦ (refl, refl)
      | false ↦ longer
    ]

-- the least form of a length below 2^16 is one
spells-least : (number : ℕ) → number < 0x10000 → SpellsLength (least_length number) number
unfolding least_length
spells-least number small =
    let longer = spells-more number small in
    elim (nat_lt number 0x80) as (λ t. nat_lt number 0x80 ≡ t → SpellsLength (cond t (number ∷ []) (cond (nat_lt number 0x100) (0x81 ∷ number ∷ []) (cond (nat_lt number 0x10000) (0x82 ∷ number / 256 ∷ number % 256 ∷ []) (0x83 ∷ number / 65536 ∷ number / 256 % 256 ∷ number % 256 ∷ [])))) number) [
      | true ↦ λ t. (grind (arith, nat_tests, t), refl)
      | false ↦ λ t. longer
    ] refl

value-written : (value behind : List ℕ) → length value < 0x10000 → HasValue (least_length (length value) ++ value ++ behind) value behind
value-written value behind small = record { len = least_length (length value); spells = spells-least (length value) small; spelled = refl }

children-written : (commands : List (List ℕ)) → AreWhole commands → length (flat_map (element 0x22) commands) < 0x10000 → AreChildren (flat_map (element 0x22) commands) commands []
children-written [] all small = refl
children-written (plain ∷ plains) all small =
    let others = flat_map (element 0x22) plains in
    let front = least_length (length plain) in
    let size = length-append (front ++ plain) others in
    let inner = length-append front plain in (
      others,
      record {
        value = plain;
        rest = front ++ plain ++ others;
        tagged = refl;
        holds = value-written plain others (omega (arith, small, size, inner));
        command = whole all.0 refl;
      },
      children-written plains all.1 (omega (arith, small, size)),
    )

-- the children of a script that is written
pub children-few : (commands : List (List ℕ)) → length (flat_map (element 0x22) commands) ≤ length (written commands)
children-few commands =
    let children = flat_map (element 0x22) commands in
    omega (arith, length-append (least_length (length children)) children)

pub template-written : (commands : List (List ℕ)) → AreWhole commands → length (written commands) ≤ 4096 → IsTemplate (written commands) commands
template-written commands all short =
    let children = flat_map (element 0x22) commands in
    let rest = least_length (length children) ++ children in
    let small : length children < 0x10000 = omega (arith, short, children-few commands) in
    let P : List ℕ → Type 0 = λ o. HasValue o children [] in
    record {
      children = children;
      outer = record { rest = rest; tagged = refl; short = short; holds = subst P (append-nil rest) (value-written children [] small) };
      filled = children-written commands all small;
    }

-- a command is shorter than all children
pub command-few : (commands : List (List ℕ)) (i : ℕ) (other : List ℕ) → i < length commands → length (get_or commands i other) ≤ length (flat_map (element 0x22) commands)
command-few [] i other within = absurd (omega (arith, within))
command-few (plain ∷ plains) zero other within =
    let front = least_length (length plain) in
    omega (arith, length-append (front ++ plain) (flat_map (element 0x22) plains), length-append front plain)
command-few (plain ∷ plains) (suc i) other within =
    let front = least_length (length plain) in
    let others = command-few plains i other (omega (arith, within)) in
    omega (arith, others, length-append (front ++ plain) (flat_map (element 0x22) plains))
