-- Laws of where lanes differ from a plan or from rows.
use Rattle.std.proofs.Common.{◌≡◌, ℕ, zero, suc, ◌<◌, ◌≤◌, ◌||◌, All, Bool, List, [], ◌∷◌, length, map, get_or, Option, Some, None, refl, ap, arith}
use Rattle.std.specs.Prelude.{option_map}
use Rattle.std.specs.List.{list_any}
use Rattle.std.proofs.lemmas.List.Elements.{All-cons}
use Rattle.ota_core.specs.History.{first_some}
use Rattle.ota_core.specs.KeysetList.{IsKeysetList}
use Rattle.ota_core.specs.declared.entries.Entry.{Entry}
use Rattle.ota_core.specs.declared.jobs.Job.{Job}
use Rattle.ota_core.specs.declared.keysets.KeysetFacts.{KeysetFacts}
use Rattle.lane_session.specs.Rows.{differs_in, NoneDiffers}
use Rattle.lane_session.specs.Differences.{counter_otherwise, job_difference_from}
use Rattle.lane_session.specs.LiveCounts.{both_hold}

-- a test of what the elements are mapped to
pub list_any-map : {X Y : Type 0} (p : Y → Bool) (g : X → Y) (xs : List X) → list_any p (map g xs) ≡ list_any (λ x. p (g x)) xs
list_any-map p g [] = refl
list_any-map p g (x ∷ xs) = ap (λ (b : Bool). p (g x) || b) (list_any-map p g xs)

-- each key version number of a card's keysets is 1 to 15
pub kvn_in_range : (keysets : List (ℕ × KeysetFacts)) → IsKeysetList keysets → (i : ℕ) (d : ℕ × KeysetFacts) → i < length keysets → (1 ≤ (get_or keysets i d).0) × ((get_or keysets i d).0 ≤ 15)
kvn_in_range [] is i d below = absurd (omega arith)
kvn_in_range (keyset ∷ keysets) is zero d below = (is.0, is.1)
kvn_in_range (keyset ∷ keysets) is (suc i) d below = kvn_in_range keysets is.3 i d (omega (arith, below))

-- where there is no first answer, no element gives one
all_none : {X B : Type 0} (f : X → Option B) (xs : List X) → first_some f xs ≡ None → All (λ x. f x ≡ None) xs
all_none f [] none = λ k d below. absurd (omega (arith, below))
all_none f (x ∷ xs) none =
    let both = both_hold (f x) (first_some f xs) none in
    All-cons (λ y. f y ≡ None) x xs both.0 (all_none f xs both.1)

no_counter : {A B : Type 0} (g : A → B) (a : Option A) → option_map g a ≡ None → a ≡ None
no_counter g None none = refl
no_counter g (Some x) none = absurd cc

-- where no row is found, none differs
pub none_differs : (row : ℕ) (jobs : List Job) (histories : List (List Entry)) → job_difference_from row jobs histories ≡ None → NoneDiffers jobs histories
none_differs row [] histories none = λ k d below. absurd (omega (arith, below))
none_differs row (job ∷ jobs) histories none =
    let both = both_hold (option_map (λ (counter : ℕ). (row, counter)) (counter_otherwise histories job)) (job_difference_from (suc row) jobs histories) none in
    All-cons (λ (j : Job). All (λ history. differs_in history j ≡ None) histories) job jobs
    (all_none (λ history. differs_in history job) histories (no_counter (λ (counter : ℕ). (row, counter)) (counter_otherwise histories job) both.0))
    (none_differs (suc row) jobs histories both.1)
