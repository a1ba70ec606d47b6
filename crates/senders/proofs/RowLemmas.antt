-- Rows of seats, one at each lock, whatever is known of a seat.
use Rattle.std.proofs.Common.{◌≡◌, ◌≢◌, ℕ, zero, suc, ◌+◌, ◌<◌, ◌≤◌, Option, Some, None, IsSomeAnd, List, [], ◌∷◌, ◌++◌, length, drop, slice_index_or, slice_set, refl, sym, ◌∙◌, ap, subst, add-one, arith, length-append}
use Rattle.std.proofs.Math.ListN.{get_or-append}
use Rattle.std.proofs.Math.Seq.{get_or-append_seam}
use mathlib.Core.Logic.{dite}
use native.Mathlib.Decide.{ℕ_discrete}
use Rattle.std.proofs.lemmas.List.{get_or-set_same, get_or-set_other, length-set}

-- the element at a place is the same, whatever stands for one that is missing
pub same_at : {A : Type 0} (xs : List A) (k : ℕ) (d x : A) → k < length xs → x ≡ slice_index_or xs k x → slice_index_or xs k d ≡ x
same_at [] k d x lt is = absurd (omega arith)
same_at (y ∷ ys) zero d x lt is = sym is
same_at (y ∷ ys) (suc k) d x lt is = same_at ys k d x (omega arith) is

pub any_default : {A : Type 0} (xs : List A) (k : ℕ) (d e : A) → k < length xs → slice_index_or xs k d ≡ slice_index_or xs k e
any_default [] k d e lt = absurd (omega arith)
any_default (y ∷ ys) zero d e lt = refl
any_default (y ∷ ys) (suc k) d e lt = any_default ys k d e (omega arith)

pub some_map : {X : Type 0} (P Q : X → Type 0) (o : Option X) → ((x : X) → P x → Q x) → IsSomeAnd o P → IsSomeAnd o Q
some_map P Q None f h = h
some_map P Q (Some x) f h = f x h

module _ {X L : Type 0} where
  -- the row has at each lock a seat of which P says this
  abbrev pub AreAt : (P : ℕ → L → X → Type 0) → List L → List (Option X) → Type 0
  AreAt P locks row = (length row ≡ length locks)
      × ((place : ℕ) (lock : L) → place < length locks → IsSomeAnd (slice_index_or row place None) (P place (slice_index_or locks place lock)))

  pub at_map : (P Q : ℕ → L → X → Type 0) (locks : List L) (row : List (Option X)) → ((place : ℕ) (lock : L) (x : X) → P place lock x → Q place lock x) → AreAt P locks row → AreAt Q locks row
  at_map P Q locks row f all = (
    all.0,
    λ place lock below. some_map (P place (slice_index_or locks place lock)) (Q place (slice_index_or locks place lock)) (slice_index_or row place None)
        (f place (slice_index_or locks place lock)) (all.1 place lock below),
  )

  -- what is known of the seat at a place
  pub at_get : (P : ℕ → L → X → Type 0) (locks : List L) (row : List (Option X)) (k : ℕ) (lock : L) (x : X) → k < length locks → lock ≡ slice_index_or locks k lock
      → AreAt P locks row → slice_index_or row k None ≡ Some x → P k lock x
  at_get P locks row k lock x lt is all here =
      subst (λ (l : L). P k l x) (sym is) (subst (λ (o : Option X). IsSomeAnd o (P k (slice_index_or locks k lock))) here (all.1 k lock lt))

  -- there is a seat at each place
  pub at_some : (P : ℕ → L → X → Type 0) (locks : List L) (row : List (Option X)) (k : ℕ) (lock : L) → k < length locks → AreAt P locks row → slice_index_or row k None ≡ None → ⊥
  at_some P locks row k lock lt all none = subst (λ (o : Option X). IsSomeAnd o (P k (slice_index_or locks k lock))) none (all.1 k lock lt)

  -- what is known of what was found at a place
  pub at_is : (P : ℕ → L → X → Type 0) (locks : List L) (row : List (Option X)) (k : ℕ) (lock : L) (o : Option X) → k < length locks → lock ≡ slice_index_or locks k lock
      → AreAt P locks row → o ≡ slice_index_or row k o → IsSomeAnd o (P k lock)
  at_is P locks row k lock o lt is all here =
      let same = all.0 in
      subst (λ (x : Option X). IsSomeAnd x (P k lock)) (any_default row k None o (omega (arith, lt, same)) ∙ sym here)
      (subst (λ (l : L). IsSomeAnd (slice_index_or row k None) (P k l)) (sym is) (all.1 k lock lt))

  -- there is a seat at each place, whatever is said of it
  pub at_there : (P : ℕ → L → X → Type 0) (locks : List L) (row : List (Option X)) (k : ℕ) (o : Option X) → k < length locks → AreAt P locks row → o ≡ slice_index_or row k None → o ≡ None → ⊥
  at_there P locks row k o lt all here none = at_some P locks row k (some_of locks k lt) lt all (sym here ∙ none)
    where
      some_of : (xs : List L) (n : ℕ) → n < length xs → L
      some_of [] n below = absurd (omega (arith, below))
      some_of (x ∷ xs) n below = x

  pub at_now : (P : ℕ → L → X → Type 0) (locks : List L) (row : List (Option X)) (k : ℕ) (lock : L) (o : Option X) → k < length locks → lock ≡ slice_index_or locks k lock
      → AreAt P locks row → o ≡ slice_index_or row k None → IsSomeAnd o (P k lock)
  at_now P locks row k lock o lt is all here =
      subst (λ (x : Option X). IsSomeAnd x (P k lock)) (sym here) (subst (λ (l : L). IsSomeAnd (slice_index_or row k None) (P k l)) (sym is) (all.1 k lock lt))

  -- one place has another seat, and of the others this follows
  pub at_put : (P Q : ℕ → L → X → Type 0) (locks : List L) (row : List (Option X)) (k : ℕ) (found : L) (o : Option X) → k < length locks → found ≡ slice_index_or locks k found
      → AreAt P locks row → IsSomeAnd o (Q k found) → ((place : ℕ) (lock : L) (y : X) → place ≢ k → P place lock y → Q place lock y) → AreAt Q locks (slice_set row k o)
  at_put P Q locks row k found o lt is all now keeps = (
    length-set row k o ∙ all.0,
    λ place lock below. dite (ℕ_discrete place k)
        (λ e. subst (λ (n : ℕ). IsSomeAnd (slice_index_or (slice_set row k o) n None) (Q n (slice_index_or locks n lock))) (sym e)
        (subst (λ (x : Option X). IsSomeAnd x (Q k (slice_index_or locks k lock))) (sym (get_or-set_same row k o None (let same = all.0 in omega (arith, lt, same))))
        (subst (λ (l : L). IsSomeAnd o (Q k l)) (sym (same_at locks k lock found lt is)) now)))
        (λ ne. subst (λ (x : Option X). IsSomeAnd x (Q place (slice_index_or locks place lock))) (sym (get_or-set_other row k place o None ne))
        (some_map (P place (slice_index_or locks place lock)) (Q place (slice_index_or locks place lock)) (slice_index_or row place None)
        (λ y. keeps place (slice_index_or locks place lock) y ne) (all.1 place lock below))),
  )

-- ---- two rows, place by place

module _ {X L : Type 0} (R : L → Option X → Option X → Option X → Type 0) (locks : List L) (one other : List (Option X)) where
  -- as far as place k a row was made of two, and the rest of both is as it was
  pub record UpTo (k : ℕ) (all row : List (Option X)) : Type 0 where
    pub all_length : length all ≡ length one
    pub row_length : length row ≡ length other
    pub all_rest : (p : ℕ) → k ≤ p → slice_index_or all p None ≡ slice_index_or one p None
    pub row_rest : (p : ℕ) → k ≤ p → slice_index_or row p None ≡ slice_index_or other p None
    pub done : (p : ℕ) (lock : L) → p < k → R (slice_index_or locks p lock) (slice_index_or one p None) (slice_index_or other p None) (slice_index_or all p None)

  -- what is found at place k is what was there
  pub all_found : (k : ℕ) (all row : List (Option X)) (o : Option X) → UpTo k all row → k < length one → o ≡ slice_index_or all k o → o ≡ slice_index_or one k None
  all_found k all row o up lt here =
      here ∙ (any_default all k o None (let same = up.all_length in omega (arith, lt, same)) ∙ up.all_rest k (omega arith))

  pub row_found : (k : ℕ) (all row : List (Option X)) (o : Option X) → UpTo k all row → k < length other → o ≡ slice_index_or row k o → o ≡ slice_index_or other k None
  row_found k all row o up lt here =
      here ∙ (any_default row k o None (let same = up.row_length in omega (arith, lt, same)) ∙ up.row_rest k (omega arith))

  pub up_none : UpTo 0 one other
  up_none = record {
    all_length = refl;
    row_length = refl;
    all_rest = λ p le. refl;
    row_rest = λ p le. refl;
    done = λ p lock lt. absurd (omega (arith, lt));
  }

  pub up_more : (k : ℕ) (all row : List (Option X)) (found : L) (made gone : Option X) → UpTo k all row → k < length locks → k < length one → found ≡ slice_index_or locks k found
      → R found (slice_index_or one k None) (slice_index_or other k None) made → UpTo (k + 1) (slice_set all k made) (slice_set row k gone)
  up_more k all row found made gone up lt lt_one is now = record {
    all_length = length-set all k made ∙ up.all_length;
    row_length = length-set row k gone ∙ up.row_length;
    all_rest = λ p le. get_or-set_other all k p made None (beyond p le) ∙ up.all_rest p (omega (arith, le));
    row_rest = λ p le. get_or-set_other row k p gone None (beyond p le) ∙ up.row_rest p (omega (arith, le));
    done = λ p lock below. dite (ℕ_discrete p k)
        (λ e. subst (λ (n : ℕ). R (slice_index_or locks n lock) (slice_index_or one n None) (slice_index_or other n None) (slice_index_or (slice_set all k made) n None)) (sym e)
        (subst (λ (o : Option X). R (slice_index_or locks k lock) (slice_index_or one k None) (slice_index_or other k None) o)
        (sym (get_or-set_same all k made None (let same = up.all_length in omega (arith, lt_one, same))))
        (subst (λ (l : L). R l (slice_index_or one k None) (slice_index_or other k None) made) (sym (same_at locks k lock found lt is)) now)))
        (λ ne. subst (λ (o : Option X). R (slice_index_or locks p lock) (slice_index_or one p None) (slice_index_or other p None) o) (sym (get_or-set_other all k p made None ne))
        (up.done p lock (before p ne below)));
  }
    where
      beyond : (p : ℕ) → k + 1 ≤ p → p ≢ k
      beyond p le e = absurd (omega (arith, le, e))

      before : (p : ℕ) → p ≢ k → p < k + 1 → p < k
      before p ne lt' = omega (arith, ne, lt')

-- ---- what comes out of a list of locks, in order

-- the first element that is left
pub drop_head : {A : Type 0} (xs : List A) (k : ℕ) (y : A) (ys : List A) → drop k xs ≡ y ∷ ys → (k < length xs) × ((d : A) → slice_index_or xs k d ≡ y) × (drop (suc k) xs ≡ ys)
drop_head [] zero y ys e = absurd (clash e)
  where
    clash : {A : Type 0} {x : A} {l : List A} → [] ≡ x ∷ l → ⊥
    clash h = cc
drop_head [] (suc k) y ys e = absurd (clash e)
  where
    clash : {A : Type 0} {x : A} {l : List A} → [] ≡ x ∷ l → ⊥
    clash h = cc
drop_head (x ∷ xs) zero y ys e = (omega arith, (λ d. cc), (cc))
drop_head (x ∷ xs) (suc k) y ys e = let rest = drop_head xs k y ys e in (let lt = rest.0 in omega (arith, lt), rest.1, rest.2)

module _ {X L M : Type 0} (R : L → Option X → M → Type 0) (locks : List L) (row : List (Option X)) where
  -- as far as place k each lock gave a lane by the seat at its place, and the rest of both is as it was
  pub record GivesTo (k : ℕ) (left : List L) (seats : List (Option X)) (lanes : List M) : Type 0 where
    pub left_is : left ≡ drop k locks
    pub within : k ≤ length locks
    pub seats_length : length seats ≡ length row
    pub seats_rest : (p : ℕ) → k ≤ p → slice_index_or seats p None ≡ slice_index_or row p None
    pub count : length lanes ≡ k
    pub done : (p : ℕ) (lock : L) (lane : M) → p < k → R (slice_index_or locks p lock) (slice_index_or row p None) (slice_index_or lanes p lane)

  pub gives_none : GivesTo 0 locks row []
  gives_none = record {
    left_is = refl;
    within = omega arith;
    seats_length = refl;
    seats_rest = λ p le. refl;
    count = refl;
    done = λ p lock lane lt. absurd (omega (arith, lt));
  }

  pub seat_found : (k : ℕ) (left : List L) (seats : List (Option X)) (lanes : List M) (o : Option X) → GivesTo k left seats lanes → k < length row → o ≡ slice_index_or seats k o → o ≡ slice_index_or row k None
  seat_found k left seats lanes o gives lt here =
      here ∙ (any_default seats k o None (let same = gives.seats_length in omega (arith, lt, same)) ∙ gives.seats_rest k (omega arith))

  pub gives_more : (k : ℕ) (left more : List L) (lock : L) (seats : List (Option X)) (lanes : List M) (gone : Option X) (lane : M) → GivesTo k left seats lanes → left ≡ lock ∷ more
      → R lock (slice_index_or row k None) lane → GivesTo (k + 1) more (slice_set seats k gone) (lanes ++ lane ∷ [])
  gives_more k left more lock seats lanes gone lane gives first now =
      let d = drop_head locks k lock more (sym gives.left_is ∙ first) in
      record {
        left_is = sym d.2 ∙ ap (λ (n : ℕ). drop n locks) (sym (add-one k));
        within = let lt = d.0 in omega (arith, lt);
        seats_length = length-set seats k gone ∙ gives.seats_length;
        seats_rest = λ p le. get_or-set_other seats k p gone None (beyond p le) ∙ gives.seats_rest p (omega (arith, le));
        count = length-append lanes (lane ∷ []) ∙ (let n = gives.count in omega (arith, n));
        done = λ p other last below. dite (ℕ_discrete p k)
            (λ e. subst (λ (n : ℕ). R (slice_index_or locks n other) (slice_index_or row n None) (slice_index_or (lanes ++ lane ∷ []) n last)) (sym e)
            (subst (λ (l : L). R l (slice_index_or row k None) (slice_index_or (lanes ++ lane ∷ []) k last)) (sym (d.1 other))
            (subst (λ (m : M). R lock (slice_index_or row k None) m)
            (sym (ap (λ (n : ℕ). slice_index_or (lanes ++ lane ∷ []) n last) (sym gives.count) ∙ get_or-append_seam lanes lane [] last)) now)))
            (λ ne. subst (λ (m : M). R (slice_index_or locks p other) (slice_index_or row p None) m)
            (sym (get_or-append lanes (lane ∷ []) last p (let n = gives.count in let lt = before p ne below in omega (arith, n, lt))))
            (gives.done p other last (before p ne below)));
      }
    where
      beyond : (p : ℕ) → k + 1 ≤ p → p ≢ k
      beyond p le e = absurd (omega (arith, le, e))

      before : (p : ℕ) → p ≢ k → p < k + 1 → p < k
      before p ne lt = omega (arith, ne, lt)
