-- The Opens that a lane adds are a batch that may follow.
use Rattle.std.proofs.Common.{◌≡◌, ℕ, ◌≤◌, ◌%◌, suc, Bool, false, true, ◌||◌, None, List, [], ◌∷◌, length, All, refl, ◌∙◌, arith, ◌==◌}
use Rattle.std.specs.List.{list_any}
use Rattle.std.proofs.lemmas.Grind.{common_steps}
use Rattle.std.proofs.lemmas.Bool.Decides.{nat_tests}
use Rattle.std.proofs.lemmas.List.Elements.{All-cons}
use Rattle.ota_core.specs.Keyset.{Keyset, is_same_keyset}
use Rattle.ota_core.specs.Entry.{is_open_of}
use Rattle.ota_core.specs.History.{broken_batch}
use Rattle.ota_core.specs.Questions.{last_moment}
use Rattle.ota_core.specs.declared.entries.Entry.{Entry}
use Rattle.ota_core.specs.declared.entries.Entry.TheVariants.{Open}
use Rattle.ota_core.specs.declared.keysets.KeysetFacts.{KeysetFacts}
use Rattle.counter_journal.specs.EntryRanges.{IsOfLane, IsSized}
use Rattle.counter_journal.specs.JournalLaws.{All-none}
use Rattle.lane_engine.specs.Adding.{is_settlement}
use Rattle.lane_engine.specs.Reserving.{opens_of, KeysetsDiffer}
use Rattle.lane_engine.proofs.KeysetLemmas.{moment_after}

pub All-front : {X : Type 0} (P : X → Type 0) (x : X) (xs : List X) → All P (x ∷ xs) → P x
All-front P x xs all = all 0 x (omega arith)

pub All-behind : {X : Type 0} (P : X → Type 0) (x : X) (xs : List X) → All P (x ∷ xs) → All P xs
All-behind P x xs all k d below = all (suc k) d (omega (arith, below))

-- a longer past opens of these keysets just those that the past opens
abbrev Agree : List Entry → List Entry → List (Keyset × KeysetFacts) → Type 0
Agree past longer [] = Unit {0}
Agree past longer (keyset ∷ keysets) = (list_any (is_open_of keyset.0) longer ≡ list_any (is_open_of keyset.0) past) × Agree past longer keysets

agree_same : (past : List Entry) (keysets : List (Keyset × KeysetFacts)) → Agree past past keysets
agree_same past [] = tt
agree_same past (keyset ∷ keysets) = (refl, agree_same past keysets)

same_turned : (a b : Keyset) → is_same_keyset a b ≡ false → is_same_keyset b a ≡ false
same_turned a b h = grind (arith, common_steps, nat_tests, h)

or_none : (a b : Bool) → (a || b) ≡ false → (a ≡ false) × (b ≡ false)
or_none true b h = cc
or_none false b h = (refl, h)

agree_more : (past longer : List Entry) (by moment : ℕ) (keyset : Keyset × KeysetFacts) (keysets : List (Keyset × KeysetFacts)) → list_any (λ other. is_same_keyset other.0 keyset.0) keysets ≡ false
    → Agree past longer keysets → Agree past (Open by moment keyset.0 keyset.1 ∷ longer) keysets
agree_more past longer by moment keyset [] differ agree = tt
agree_more past longer by moment keyset (other ∷ keysets) differ agree =
    let parts = or_none (is_same_keyset other.0 keyset.0) (list_any (λ other. is_same_keyset other.0 keyset.0) keysets) differ in
    (rw (same_turned other.0 keyset.0 parts.0) agree.0, agree_more past longer by moment keyset keysets parts.1 agree.1)

opens_follow : (by moment : ℕ) (past longer : List Entry) (keysets : List (Keyset × KeysetFacts)) → KeysetsDiffer keysets → Agree past longer keysets → last_moment longer ≤ moment
    → broken_batch longer (opens_of by moment past keysets) ≡ None
opens_follow by moment past longer [] differ agree later = refl
opens_follow by moment past longer (keyset ∷ keysets) differ agree later =
    by_test (list_any (is_open_of keyset.0) past) refl (opens_follow by moment past longer keysets differ.1 agree.1 later)
    (opens_follow by moment past (Open by moment keyset.0 keyset.1 ∷ longer) keysets differ.1 (agree_more past longer by moment keyset keysets differ.0 agree.1) (omega arith))
  where
    by_test : (t : Bool) → list_any (is_open_of keyset.0) past ≡ t → broken_batch longer (opens_of by moment past keysets) ≡ None
        → broken_batch (Open by moment keyset.0 keyset.1 ∷ longer) (opens_of by moment past keysets) ≡ None → broken_batch longer (opens_of by moment past (keyset ∷ keysets)) ≡ None
    by_test true is rest behind = rw is rest
    by_test false is rest behind = (let lacks : list_any (is_open_of keyset.0) longer ≡ false = agree.0 ∙ is in rw (is, lacks, moment_after longer moment later, behind) refl)

pub opens_legal : (by moment : ℕ) (past : List Entry) (keysets : List (Keyset × KeysetFacts)) → KeysetsDiffer keysets → last_moment past ≤ moment → broken_batch past (opens_of by moment past keysets) ≡ None
opens_legal by moment past keysets differ later = opens_follow by moment past past keysets differ (agree_same past keysets) later

-- ---- each of them is an Open of one of the keysets

module _ (by moment : ℕ) (past : List Entry) where
  pub opens_few : (keysets : List (Keyset × KeysetFacts)) → length (opens_of by moment past keysets) ≤ length keysets
  opens_few [] = omega arith
  opens_few (keyset ∷ keysets) = by_test (list_any (is_open_of keyset.0) past) refl (opens_few keysets)
    where
      by_test : (t : Bool) → list_any (is_open_of keyset.0) past ≡ t → length (opens_of by moment past keysets) ≤ length keysets
          → length (opens_of by moment past (keyset ∷ keysets)) ≤ length (keyset ∷ keysets)
      by_test true is few = rw is (omega (arith, few))
      by_test false is few = rw is (omega (arith, few))

  pub opens_settle_none : (keysets : List (Keyset × KeysetFacts)) → list_any is_settlement (opens_of by moment past keysets) ≡ false
  opens_settle_none [] = refl
  opens_settle_none (keyset ∷ keysets) = by_test (list_any (is_open_of keyset.0) past) refl (opens_settle_none keysets)
    where
      by_test : (t : Bool) → list_any (is_open_of keyset.0) past ≡ t → list_any is_settlement (opens_of by moment past keysets) ≡ false
          → list_any is_settlement (opens_of by moment past (keyset ∷ keysets)) ≡ false
      by_test true is none = rw is none
      by_test false is none = rw is none

  -- what holds of the Open of each keyset holds of each Open
  pub opens_all : (P : Entry → Type 0) (keysets : List (Keyset × KeysetFacts)) → All (λ (keyset : Keyset × KeysetFacts). P (Open by moment keyset.0 keyset.1)) keysets → All P (opens_of by moment past keysets)
  opens_all P [] all = All-none P
  opens_all P (keyset ∷ keysets) all =
      by_test (list_any (is_open_of keyset.0) past) refl
      (opens_all P keysets (All-behind (λ (keyset : Keyset × KeysetFacts). P (Open by moment keyset.0 keyset.1)) keyset keysets all))
      (All-front (λ (keyset : Keyset × KeysetFacts). P (Open by moment keyset.0 keyset.1)) keyset keysets all)
    where
      by_test : (t : Bool) → list_any (is_open_of keyset.0) past ≡ t → All P (opens_of by moment past keysets) → P (Open by moment keyset.0 keyset.1)
          → All P (opens_of by moment past (keyset ∷ keysets))
      by_test true is rest first = rw is rest
      by_test false is rest first = rw is (All-cons P (Open by moment keyset.0 keyset.1) (opens_of by moment past keysets) first rest)

  pub opens_sized : (keysets : List (Keyset × KeysetFacts)) → All IsSized (opens_of by moment past keysets)
  opens_sized keysets = opens_all IsSized keysets (λ k d below. tt)

  pub opens_of_lane : (lane lanes : ℕ) (keysets : List (Keyset × KeysetFacts)) → All (λ (keyset : Keyset × KeysetFacts). keyset.0.card.0 % lanes ≡ lane) keysets
      → All (IsOfLane lane lanes) (opens_of by moment past keysets)
  opens_of_lane lane lanes keysets all = opens_all (IsOfLane lane lanes) keysets all

-- a list whose length isn't 0 has some
pub some_items : (items : List Entry) (len : ℕ) → length items ≡ len → false ≡ (len == 0) → items ≡ [] → ⊥
some_items [] len long test none = by_length len long test
  where
    by_length : (m : ℕ) → 0 ≡ m → false ≡ (m == 0) → ⊥
    by_length m is test = grind (arith, nat_tests, is, test)
some_items (entry ∷ items) len long test none = cc

-- a list whose length is tested to be 0 has no elements
pub no_items : (items : List Entry) (len : ℕ) → length items ≡ len → true ≡ (len == 0) → items ≡ []
no_items [] len long test = refl
no_items (entry ∷ items) len long test = absurd (by_length (length items) len long test)
  where
    by_length : (n m : ℕ) → suc n ≡ m → true ≡ (m == 0) → ⊥
    by_length n m is test = grind (arith, nat_tests, is, test)
