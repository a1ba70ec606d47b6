-- Laws of the ends of lanes.
use Rattle.std.proofs.Common.{◌≡◌, ◌≢◌, ℕ, ◌+◌, ◌<◌, ◌≤◌, Bool, true, false, eqb, Option, Some, None, List, [], ◌∷◌, suc, inl, inr, length, get_or, set, drop, refl, sym, ap, ◌∙◌, arith}
use Rattle.std.proofs.lemmas.Bool.{eqb-true, eqb-false, cases_lt}
use Rattle.std.proofs.lemmas.List.{get_or-set_same, get_or-set_other, get_or_default, length-set, drop_more}
use Rattle.lane_session.specs.declared.lanes.Lane.{Lane}
use Rattle.ota_commands.specs.Ends.{end_of, AreEnds, first_end}
use Rattle.ota_commands.specs.declared.faults.Fault.{Fault}

-- the ends of the lanes below a number are set
pub record EndsBelow (lanes : List Lane) (ends : List (Option Fault)) (number : ℕ) : Type 0 where
  pub same : length ends ≡ length lanes
  pub each : (k : ℕ) (lane : Lane) (end : Option Fault) → k < number → get_or ends k end ≡ end_of k (get_or lanes k lane).end

pub none_set : (lanes : List Lane) (ends : List (Option Fault)) → length ends ≡ length lanes → EndsBelow lanes ends 0
none_set lanes ends same = record { same = same; each = λ k lane end below. absurd (omega (arith, below)) }

pub one_set : (lanes : List Lane) (ends : List (Option Fault)) (number : ℕ) (lane : Lane) (now : Option Fault) → number < length lanes
    → now ≡ end_of number (get_or lanes number lane).end → EndsBelow lanes ends number → EndsBelow lanes (set ends number now) (number + 1)
one_set lanes ends number lane now within is below = record {
  same = length-set ends number now ∙ below.same;
  each = λ k other end upto. at k other end upto (eqb k number) refl;
}
  where
    less : (k : ℕ) → k < number + 1 → k ≢ number → k < number
    less k upto differs = elim (cases_lt k number) [
      | inl early ↦ early
      | inr late ↦ absurd (differs (omega (arith, upto, late)))
    ]

    at : (k : ℕ) (other : Lane) (end : Option Fault) → k < number + 1 → (same : Bool) → eqb k number ≡ same → get_or (set ends number now) k end ≡ end_of k (get_or lanes k other).end
    at k other end upto true same =
        let here : k ≡ number = eqb-true k number same in
        ap (λ (m : ℕ). get_or (set ends m now) k end) (sym here) ∙ get_or-set_same ends k now end (omega (arith, within, here, below.same)) ∙ is
        ∙ ap (λ (l : Lane). end_of number l.end) (get_or_default lanes number lane other within) ∙ ap (λ (m : ℕ). end_of m (get_or lanes m other).end) (sym here)
    at k other end upto false same =
        let differs : k ≢ number = eqb-false k number same in
        get_or-set_other ends number k now end differs ∙ below.each k other end (less k upto differs)

pub all_set : (lanes : List Lane) (ends : List (Option Fault)) (number : ℕ) → length lanes ≤ number → EndsBelow lanes ends number → AreEnds lanes ends
all_set lanes ends number all below = record { same = below.same; each = λ k lane end within. below.each k lane end (omega (arith, all, within)) }

-- the first end that is one
pub first_more : (ends : List (Option Fault)) (i : ℕ) (end : Option Fault) → i < length ends → end ≡ get_or ends i end → end ≡ None → first_end (drop (i + 1) ends) ≡ first_end (drop i ends)
first_more ends i end within is none =
    sym (ap first_end (drop_more ends i end within ∙ ap (λ (e : Option Fault). e ∷ drop (i + 1) ends) (sym is ∙ none)))

pub first_here : (ends : List (Option Fault)) (i : ℕ) (end : Option Fault) (fault : Fault) → i < length ends → end ≡ get_or ends i end → end ≡ Some fault → first_end (drop i ends) ≡ Some fault
first_here ends i end fault within is some =
    ap first_end (drop_more ends i end within ∙ ap (λ (e : Option Fault). e ∷ drop (i + 1) ends) (sym is ∙ some))

-- it is the end of one of the lanes
pub record IsEndAt (ends : List (Option Fault)) (fault : Fault) : Type 0 where
  pub lane : ℕ
  pub within : lane < length ends
  pub is : get_or ends lane None ≡ Some fault

pub first_at : (ends : List (Option Fault)) (fault : Fault) → first_end ends ≡ Some fault → IsEndAt ends fault
first_at [] fault is = absurd (cc is)
first_at (None ∷ ends) fault is = let rest = first_at ends fault is in record { lane = suc rest.lane; within = omega (arith, rest.within); is = rest.is }
first_at (Some other ∷ ends) fault is = record { lane = 0; within = omega arith; is = is }
