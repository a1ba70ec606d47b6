-- What the tests need: how a lane may be put back, and that gathered seats have all numbers.
use Rattle.std.proofs.Common.{◌≡◌, ℕ, zero, suc, ◌+◌, ◌<◌, ◌≤◌, ◌⊎◌, List, [], ◌∷◌, ◌++◌, map, length, slice_index_or, All, Option, Some, refl, sym, ap, subst, ◌∙◌, ⊎_elim, arith}
use Rattle.std.proofs.Math.Seq.{drop-length}
use Rattle.lane_lock.specs.declared.views.Key.{Key}
use Rattle.lane_lock.specs.declared.views.Part.{Part}
use Rattle.lane_lock.specs.declared.views.View.{View}
use Rattle.lane_lock.specs.declared.views.Sight.{Sight}
use Rattle.lane_lock.specs.Views.{numbered, fresh}
use Rattle.lane_lock.specs.Numbers.{same, within, total, Each, Begins, behind}
use Rattle.lane_lock.specs.Meaning.{Meaning, shown}
use Rattle.lane_lock.specs.Grown.{MayLeave}
use Rattle.lane_lock.specs.Locks.{first_numbers}
use Rattle.lane_lock.proofs.Counting.{total_append, within_end, within_none, within_here}
use Rattle.lane_lock.proofs.Sights.{begins_self, begins_from, behind_from}

module _ {L O E X : Type 0} (m : Meaning L O E X) (key : Key L) where
  -- with the entries found, or with one more
  pub may_leave : (v : View L E X) (n : ℕ) (found lane : L) (e : E) → v.seen ≡ shown m found → m.later key.put.value lane
      → ((m.entries lane ≡ m.entries found) ⊎ (m.entries lane ≡ m.entries found ++ e ∷ [])) → m.number_of e ≡ n
      → ((x : X) → m.ending found ≡ Some x → m.ending lane ≡ Some x) → m.at_home key.pace lane → MayLeave m key v n lane
  may_leave v n found lane e saw later grows is_own ending home =
      let before = m.entries found in
      let after = m.entries lane in
      let goes : Begins before after = ⊎_elim (λ same_list. subst (λ l. Begins before l) (sym same_list) (begins_self before)) (λ more. begins_from before after (e ∷ []) more) grows in
      let by_own : Each (λ e. m.number_of e ≡ n) (behind before after) = ⊎_elim
      (λ same_list. subst (λ l. Each (λ e. m.number_of e ≡ n) l) (sym (ap (behind before) same_list ∙ drop-length before)) tt)
      (λ more. subst (λ l. Each (λ e. m.number_of e ≡ n) l) (sym (behind_from before after (e ∷ []) more)) (is_own, tt)) grows in
      record {
        later = later;
        entries = subst (λ z. Begins z.entries after) (sym saw) goes;
        by_own = subst (λ z. Each (λ e. m.number_of e ≡ n) (behind z.entries after)) (sym saw) by_own;
        ending = λ x q. ending x (sym (ap (λ z. z.ending) saw) ∙ q);
        at_home = home;
      }

pub numbers_to : (n k : ℕ) → total (same n) (first_numbers k) ≡ within 1 (suc k) n
numbers_to n zero = let no = within_none 1 1 n (omega arith) in omega arith
numbers_to n (suc k) =
    let more = total_append (same n) (first_numbers k) (suc k ∷ []) in
    let others = numbers_to n k in
    let last = within_end 1 (suc k) n (omega arith) in
    omega arith

module _ {A : Type 0} where
  pub total_map : (f : ℕ → ℕ) (g : A → ℕ) (h : A → ℕ) (l : List A) → Each (λ x. h x ≡ f (g x)) l → total h l ≡ total f (map g l)
  total_map f g h [] each = refl
  total_map f g h (x ∷ xs) each = let first = each.0 in let others = total_map f g h xs each.1 in omega arith

  pub total_pointwise : (f : A → ℕ) (xs ys : List A) → length ys ≡ length xs → ((i : ℕ) (d : A) → i < length xs → f (slice_index_or ys i d) ≡ f (slice_index_or xs i d))
      → total f ys ≡ total f xs
  total_pointwise f [] [] len each = refl
  total_pointwise f [] (y ∷ ys) len each = absurd (omega arith)
  total_pointwise f (x ∷ xs) [] len each = absurd (omega arith)
  total_pointwise f (x ∷ xs) (y ∷ ys) len each =
      let first : f y ≡ f x = each 0 x (omega arith) in
      let others = total_pointwise f xs ys (omega arith) (λ i d h. each (suc i) d (omega arith)) in
      omega arith

  pub all_from_each : (P : A → Type 0) (l : List A) → Each P l → All P l
  all_from_each P [] h k d small = absurd (omega arith)
  all_from_each P (x ∷ xs) h zero d small = h.0
  all_from_each P (x ∷ xs) h (suc k) d small = all_from_each P xs h.1 k d (omega arith)

  pub all_front : (P : A → Type 0) (xs ys : List A) → All P (xs ++ ys) → All P xs
  all_front P [] ys h k d small = absurd (omega arith)
  all_front P (x ∷ xs) ys h zero d small = h 0 d (omega arith)
  all_front P (x ∷ xs) ys h (suc k) d small = all_front P xs ys (λ i e less. h (suc i) e (omega arith)) k d (omega arith)

  -- one seat more is joined in
  pub gathered : {E : Type 0} (old_parts seat_parts new_parts : List (Part E)) (n : ℕ) (f : A → ℕ) (rest before : List A) (seat : A) (k : ℕ)
      → new_parts ≡ old_parts ++ seat_parts → f seat ≡ numbered n seat_parts → before ≡ rest ++ seat ∷ [] → numbered n old_parts + total f before ≡ k
      → numbered n new_parts + total f rest ≡ k
  gathered {E} old_parts seat_parts new_parts n f rest before seat k joins is_its splits sum =
      let a = ap (numbered n) joins ∙ total_append (λ (p : Part E). same n p.number) old_parts seat_parts in
      let b = ap (total f) splits ∙ total_append f rest (seat ∷ []) in
      omega arith

  -- the gathered seat has each number that the seats had when they were made
  pub all_there : (n k seats : ℕ) (f number : A → ℕ) (made worked rest : List A) (first : A) (sum : ℕ)
      → sum ≡ f first + total f rest → worked ≡ rest ++ first ∷ [] → length worked ≡ length made
      → ((i : ℕ) (d : A) → i < length made → f (slice_index_or worked i d) ≡ f (slice_index_or made i d))
      → Each (λ s. f s ≡ same n (number s)) made → map number made ≡ first_numbers k → seats ≡ k → 1 ≤ n → n ≤ seats → 0 < sum
  all_there n k seats f number made worked rest first sum all splits len kept fresh numbers same_count above below =
      let a = ap (total f) splits ∙ total_append f rest (first ∷ []) in
      let b = total_pointwise f made worked len kept in
      let c = total_map (same n) number f made fresh ∙ (ap (total (same n)) numbers ∙ numbers_to n k) in
      let d = within_here 1 (suc k) n above (omega arith) in
      omega arith

module _ {L E X : Type 0} where
  pub fresh_number : (n number : ℕ) (at : Option (Key L)) (now : Sight E X) (v : View L E X) → v ≡ fresh at now number → numbered n v.parts ≡ same n number
  fresh_number n number at now v e = let here = ap (λ (z : View L E X). numbered n z.parts) e in omega arith
