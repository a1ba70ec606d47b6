-- How seats are dealt to rows, and what rows, locks and lanes are when a lock is added.
use Rattle.std.proofs.Common.{◌≡◌, ℕ, zero, suc, ◌+◌, ◌<◌, ◌≤◌, All, Option, Some, None, IsSomeAnd, List, [], ◌∷◌, ◌++◌, length, map, take, slice_index_or, slice_set, refl, sym, ◌∙◌, ap, subst, add-one, arith, append-nil, append_assoc, length-append}
use Rattle.std.proofs.Math.ListN.{get_or-append}
use Rattle.std.proofs.Math.Seq.{get_or-append_seam}
use mathlib.Core.Logic.{dite}
use native.Mathlib.Decide.{ℕ_discrete}
use Rattle.std.proofs.lemmas.List.{get_or-set_same, get_or-set_other, length-set}
use Rattle.disk_model.specs.Counts.{Counts}
use Rattle.disk_model.specs.Disk.{Meaning}
use Rattle.ota_core.specs.declared.entries.Entry.{Entry}
use Rattle.site_model.specs.Port.{PortState}
use Rattle.world_core.specs.declared.lines.Line.{Line}
use Rattle.lane_lock.specs.declared.seats.Seat.{Seat}
use Rattle.lane_lock.specs.Grown.{HasAll, IsGrown, IsAsHeavy}
use Rattle.lane_lock.specs.Locks.{IsFresh, IsOf, first_numbers, key_of, number_of, view_of}
use Rattle.lane_lock.specs.Numbers.{same, within, Each}
use Rattle.lane_lock.specs.Views.{numbered}
use Rattle.lane_lock.proofs.Counting.{Each_map, within_here, within_start}
use Rattle.lane_engine.specs.Keeping.{IsAtHome, lane_meaning}
use Rattle.lane_engine.specs.LaneValue.{LaneValue}
use Rattle.lane_engine.specs.Opening.{Opening}
use Rattle.lane_engine.specs.declared.answers.LaneErr.{LaneErr}
use Rattle.lane_engine.specs.KeepingLaws.{later_itself}
use Rattle.senders.specs.Desks.{AreClosed, HasLock, IsKnown, IsRow, IsSeatAt, IsSeated, LaneView, Lock, MayClose, put_in}
use Rattle.senders.specs.Pieces.{EachBeside}
use Rattle.senders.specs.Worked.{IsUntouched}
use Rattle.senders.proofs.HeldLemmas.{written}
use Rattle.senders.proofs.KnownLemmas.{known_fresh}
use Rattle.senders.proofs.PlaceLemmas.{all_behind, beside_append, beside_from, beside_map, both_some, map_at, map_last, map_length}
use Rattle.senders.proofs.RowLemmas.{at_map, same_at, some_map}
use Rattle.senders.proofs.WorkedLemmas.{untouched}

-- ---- dealing, the last seat first

module _ {A S : Type 0} (R : A → S → A → Type 0) (rows : List A) (seats : List S) where
  -- from place k on each row has its seat; the rows before it and their seats are as they were
  pub record DealtFrom (k : ℕ) (now : List A) (left : List S) : Type 0 where
    pub count : length now ≡ length rows
    pub within_rows : k ≤ length rows
    pub left_count : length left ≡ k
    pub left_is : (place : ℕ) (d : S) → place < k → slice_index_or left place d ≡ slice_index_or seats place d
    pub before : (place : ℕ) (d : A) → place < k → slice_index_or now place d ≡ slice_index_or rows place d
    pub done : (place : ℕ) (d : A) (s : S) → k ≤ place → place < length rows → R (slice_index_or rows place d) (slice_index_or seats place s) (slice_index_or now place d)

  pub dealt_none : length seats ≡ length rows → DealtFrom (length seats) rows seats
  dealt_none same_count = record {
    count = refl;
    within_rows = omega (arith, same_count);
    left_count = refl;
    left_is = λ place d lt. refl;
    before = λ place d lt. refl;
    done = λ place d s low high. absurd (omega (arith, low, high, same_count));
  }

  pub dealt_more : (k : ℕ) (now : List A) (left rest : List S) (seat : S) (row new : A) → DealtFrom k now left → left ≡ rest ++ seat ∷ [] → row ≡ slice_index_or now (length rest) row
      → R row seat new → DealtFrom (length rest) (slice_set now (length rest) new) rest
  dealt_more k now left rest seat row new dealt splits is made = record {
    count = length-set now (length rest) new ∙ dealt.count;
    within_rows = let a = dealt.within_rows in omega (arith, a, long);
    left_count = refl;
    left_is = λ place d lt.
        sym (ap (λ (l : List S). slice_index_or l place d) splits ∙ get_or-append rest (seat ∷ []) d place lt)
        ∙ dealt.left_is place d (omega (arith, lt, long));
    before = λ place d lt. get_or-set_other now (length rest) place new d (λ e. absurd (omega (arith, lt, e))) ∙ dealt.before place d (omega (arith, lt, long));
    done = λ place d s low high. dite (ℕ_discrete place (length rest))
        (λ e. subst (λ (n : ℕ). R (slice_index_or rows n d) (slice_index_or seats n s) (slice_index_or (slice_set now (length rest) new) n d)) (sym e)
        (subst (λ (a : A). R (slice_index_or rows (length rest) d) (slice_index_or seats (length rest) s) a)
        (sym (get_or-set_same now (length rest) new d (let a = dealt.count in let b = dealt.within_rows in omega (arith, a, b, long))))
        (subst (λ (x : S). R (slice_index_or rows (length rest) d) x new) (sym (seat_is s)) (subst (λ (a : A). R a seat new) (row_is d) made))))
        (λ ne. subst (λ (a : A). R (slice_index_or rows place d) (slice_index_or seats place s) a) (sym (get_or-set_other now (length rest) place new d ne))
        (dealt.done place d s (let a = long in omega (arith, low, ne, a)) high));
  }
    where
      long : length rest + 1 ≡ k
      long = let a = ap length splits in let b = length-append rest (seat ∷ []) in let d = dealt.left_count in omega (arith, a, b, d)

      seat_is : (s : S) → slice_index_or seats (length rest) s ≡ seat
      seat_is s = sym (dealt.left_is (length rest) s (omega (arith, long))) ∙ (ap (λ (l : List S). slice_index_or l (length rest) s) splits ∙ get_or-append_seam rest seat [] s)

      row_is : (d : A) → row ≡ slice_index_or rows (length rest) d
      row_is d =
          sym (same_at now (length rest) d row (let a = dealt.count in let b = dealt.within_rows in omega (arith, a, b, long)) is)
          ∙ dealt.before (length rest) d (omega (arith, long))

  -- the same, where the count of what is left is known by another name
  pub dealt_at : (k n i : ℕ) (now : List A) (left rest : List S) (seat : S) (row new : A) → n ≡ length rest → i ≡ length rest → DealtFrom k now left → left ≡ rest ++ seat ∷ [] → row ≡ slice_index_or now i row
      → R row seat new → DealtFrom n (slice_set now i new) rest
  dealt_at k n i now left rest seat row new count place dealt splits is made =
      subst (λ (m : ℕ). DealtFrom m (slice_set now i new) rest) (sym count)
      (subst (λ (m : ℕ). DealtFrom (length rest) (slice_set now m new) rest) (sym place)
      (dealt_more k now left rest seat row new dealt splits (subst (λ (m : ℕ). row ≡ slice_index_or now m row) place is) made))

-- ---- a slice that a call changed

-- a call changed a slice of a vector, place by place, and the vector has what the call wrote
pub rows_written : {A : Type 0} (P Q : ℕ → A → Type 0) (len : ℕ) (old seen new rest : List A) → seen ≡ old → length new ≡ len → length new ≡ length seen
    → ((place : ℕ) (x : A) → place < length old → P place (slice_index_or old place x)) → ((place : ℕ) (x : A) → place < length seen → P place (slice_index_or seen place x) → Q place (slice_index_or new place x))
    → (place : ℕ) (x : A) → place < length (take len (new ++ rest)) → Q place (slice_index_or (take len (new ++ rest)) place x)
rows_written P Q len old seen new rest same count alike before step place x lt =
    let is = written len new rest count in
    let long = ap length is in
    let olds = ap length same in
    subst (λ l. Q place (slice_index_or l place x)) (sym is)
    (step place x (omega (arith, lt, long, alike)) (subst (λ l. P place (slice_index_or l place x)) (sym same) (before place x (omega (arith, lt, long, alike, olds)))))

-- ---- the numbers of new seats

first_count : (n : ℕ) → length (first_numbers n) ≡ n
first_count zero = refl
first_count (suc n) = let a = length-append (first_numbers n) (suc n ∷ []) in let b = first_count n in omega (arith, a, b)

first_at : (n k d : ℕ) → k < n → slice_index_or (first_numbers n) k d ≡ k + 1
first_at zero k d lt = absurd (omega (arith, lt))
first_at (suc n) k d lt = dite (ℕ_discrete k n)
    (λ e. ap (λ (i : ℕ). slice_index_or (first_numbers n ++ suc n ∷ []) i d) (e ∙ sym (first_count n)) ∙ (get_or-append_seam (first_numbers n) (suc n) [] d ∙ omega (arith, e)))
    (λ ne. get_or-append (first_numbers n) (suc n ∷ []) d k (let a = first_count n in omega (arith, a, ne, lt)) ∙ first_at n k d (omega (arith, ne, lt)))

-- so many seats were made
pub made_count : {A : Type 0} (f : A → ℕ) (xs : List A) (n : ℕ) → map f xs ≡ first_numbers n → length xs ≡ n
made_count f xs n e = let a = map_length f xs in let b = ap length e in let d = first_count n in omega (arith, a, b, d)

number_at : {A : Type 0} (f : A → ℕ) (xs : List A) (n k : ℕ) (d : A) → map f xs ≡ first_numbers n → k < n → f (slice_index_or xs k d) ≡ k + 1
number_at f xs n k d e lt =
    sym (map_at f xs k d (f d) (let a = made_count f xs n e in omega (arith, a, lt)))
    ∙ (ap (λ (l : List ℕ). slice_index_or l k (f d)) e ∙ first_at n k (f d) lt)

-- ---- a lock more, and a seat more in each row

module _ {X L : Type 0} (P : ℕ → L → X → Type 0) where
  abbrev AreHere : List L → List (Option X) → Type 0
  AreHere locks row = (length row ≡ length locks)
      × ((place : ℕ) (lock : L) → place < length locks → IsSomeAnd (slice_index_or row place None) (P place (slice_index_or locks place lock)))

  here_more : (locks : List L) (row : List (Option X)) (lock : L) (x : X) → AreHere locks row → P (length locks) lock x → AreHere (locks ++ lock ∷ []) (row ++ Some x ∷ [])
  here_more locks row lock x all now = (
    length-append row (Some x ∷ []) ∙ (let a = all.0 in let b = length-append locks (lock ∷ []) in omega (arith, a, b)),
    λ place d lt. dite (ℕ_discrete place (length locks))
        (λ e. subst (λ (n : ℕ). IsSomeAnd (slice_index_or (row ++ Some x ∷ []) n None) (P n (slice_index_or (locks ++ lock ∷ []) n d))) (sym e)
        (subst (λ (o : Option X). IsSomeAnd o (P (length locks) (slice_index_or (locks ++ lock ∷ []) (length locks) d)))
        (sym (ap (λ (n : ℕ). slice_index_or (row ++ Some x ∷ []) n None) (sym all.0) ∙ get_or-append_seam row (Some x) [] None))
        (subst (λ (l : L). P (length locks) l x) (sym (get_or-append_seam locks lock [] d)) now)))
        (λ ne.
        let less : place < length locks = let b = length-append locks (lock ∷ []) in omega (arith, b, lt, ne) in
        subst (λ (o : Option X). IsSomeAnd o (P place (slice_index_or (locks ++ lock ∷ []) place d)))
        (sym (get_or-append row (Some x ∷ []) None place (let a = all.0 in omega (arith, a, less))))
        (subst (λ (l : L). IsSomeAnd (slice_index_or row place None) (P place l)) (sym (get_or-append locks (lock ∷ []) d place less)) (all.1 place d less))),
  )

module _ {D B C : Type 0} (told : Meaning D B C) (counts : D → Counts) (port : B → PortState) (lines : C → ℕ → List Line) where
  -- a new seat knows that nothing was taken
  seat_fresh : {g : _} (place number : ℕ) (lock : Lock D) (seat : Seat (LaneValue D) Opening Entry LaneErr g) → IsFresh (lane_meaning told counts port lines) lock seat → number_of seat ≡ number
      → IsSeatAt (λ n. same n number) [] [] place lock seat
  seat_fresh place number lock seat fresh is = (
    fresh.0,
    λ n.
        let a = ap (λ (v : LaneView D). numbered n v.parts) fresh.1 in
        let b = ap (λ (m : ℕ). same n m) is in
        omega (arith, a, b),
    subst (IsKnown place (put_in lock) [] []) (sym fresh.1) (known_fresh (put_in lock) place _ _ (number_of seat)),
  )

  -- a row whose sender was given its seat at a new lock
  pub row_dealt : {g : _} (locks more : List (Lock D)) (lock : Lock D) (seats : List (Seat (LaneValue D) Opening Entry LaneErr g)) (n place : ℕ) (old new : List (Option (Seat (LaneValue D) Opening Entry LaneErr g)))
      (d : Seat (LaneValue D) Opening Entry LaneErr g) → more ≡ locks ++ lock ∷ [] → Each (IsFresh (lane_meaning told counts port lines) lock) seats → map number_of seats ≡ first_numbers n → place < n
      → new ≡ old ++ Some (slice_index_or seats place d) ∷ [] → IsRow (λ m. same m (place + 1)) [] [] locks old → IsRow (λ m. same m (place + 1)) [] [] more new
  row_dealt {g = g} locks more lock seats n place old new d longer fresh numbers lt is row =
      subst (λ (l : List (Lock D)). IsRow (λ m. same m (place + 1)) [] [] l new) (sym longer)
      (subst (IsRow (λ m. same m (place + 1)) [] [] (locks ++ lock ∷ [])) (sym is)
      (here_more (λ at l (s : Seat (LaneValue D) Opening Entry LaneErr g). IsSeatAt (λ m. same m (place + 1)) [] [] at l s) locks old lock (slice_index_or seats place d) row
      (seat_fresh (length locks) (place + 1) lock (slice_index_or seats place d)
      (Rattle.lane_lock.proofs.Trials.all_from_each (IsFresh (lane_meaning told counts port lines) lock) seats fresh place d
      (let a = made_count (λ (s : Seat (LaneValue D) Opening Entry LaneErr g). number_of s) seats n numbers in omega (arith, a, lt)))
      (number_at (λ (s : Seat (LaneValue D) Opening Entry LaneErr g). number_of s) seats n place d numbers lt))))

-- ---- rows that nothing was taken by are joined again

module _ {D : Type 0} where
  -- a row has these numbers, however they are counted
  pub row_numbers : {g : _} (numbers others : ℕ → ℕ) (had undone : List Rattle.senders.specs.declared.pieces.Work.Work) (locks : List (Lock D))
      (row : List (Option (Seat (LaneValue D) Opening Entry LaneErr g))) → ((n : ℕ) → numbers n ≡ others n) → IsRow numbers had undone locks row → IsRow others had undone locks row
  row_numbers {g = g} numbers others had undone locks row alike rows = at_map (λ place l (s : Seat (LaneValue D) Opening Entry LaneErr g). IsSeatAt numbers had undone place l s)
      (λ place l (s : Seat (LaneValue D) Opening Entry LaneErr g). IsSeatAt others had undone place l s) locks row (λ place l s k. (k.0, (λ n. k.1 n ∙ alike n), k.2)) rows

  pub row_seated : {g : _} (numbers : ℕ → ℕ) (had undone : List Rattle.senders.specs.declared.pieces.Work.Work) (locks : List (Lock D))
      (row : List (Option (Seat (LaneValue D) Opening Entry LaneErr g))) → IsRow numbers had undone locks row → IsSeated locks row
  row_seated {g = g} numbers had undone locks row rows = at_map (λ place l (s : Seat (LaneValue D) Opening Entry LaneErr g). IsSeatAt numbers had undone place l s)
      (λ place l (s : Seat (LaneValue D) Opening Entry LaneErr g). IsOf l s) locks row (λ place l s k. k.0) rows

  -- a row with all numbers may close its locks
  pub row_closes : {g : _} (senders : ℕ) (had undone : List Rattle.senders.specs.declared.pieces.Work.Work) (locks : List (Lock D))
      (row : List (Option (Seat (LaneValue D) Opening Entry LaneErr g))) → Each (λ lock. (key_of lock).seats ≡ senders) locks → IsRow (within 1 (senders + 1)) had undone locks row → MayClose locks row
  row_closes {g = g} senders had undone locks row seats rows = (
    rows.0,
    λ place lock lt. some_map (λ (s : Seat (LaneValue D) Opening Entry LaneErr g). IsSeatAt (within 1 (senders + 1)) had undone place (slice_index_or locks place lock) s)
        (λ (s : Seat (LaneValue D) Opening Entry LaneErr g). IsOf (slice_index_or locks place lock) s × HasAll (key_of (slice_index_or locks place lock)) (view_of s)) (slice_index_or row place None)
        (λ s k. (
          k.0,
          λ n number.
              let count = Rattle.lane_lock.proofs.Trials.all_from_each (λ (l : Lock D). (key_of l).seats ≡ senders) locks seats place lock lt in
              let low = number.0 in
              let high = number.1 in
              let a = k.1 n in
              let b = within_here 1 (senders + 1) n low (omega (arith, high, count)) in
              omega (arith, a, b),
        )) (rows.1 place lock lt),
  )

-- the last sender's number
pub last_number : (senders k n : ℕ) → k + 1 ≡ senders → same n (k + 1) ≡ within (k + 1) (senders + 1) n
last_number senders k n is =
    let a = within_start (k + 1) (senders + 1) n (omega (arith, is)) in
    let b = Rattle.lane_lock.proofs.Counting.within_none (suc (k + 1)) (senders + 1) n (omega (arith, is)) in
    omega (arith, a, b)

-- the number before those that were joined
pub number_before : (senders k n : ℕ) → k + 1 ≤ senders → within (k + 1 + 1) (senders + 1) n + same n (k + 1) ≡ within (k + 1) (senders + 1) n
number_before senders k n le =
    let a = within_start (k + 1) (senders + 1) n (omega (arith, le)) in
    let b = ap (λ (m : ℕ). within m (senders + 1) n) (add-one (k + 1)) in
    omega (arith, a, b)

-- ---- lanes on which nothing was done

module _ {D B C : Type 0} (told : Meaning D B C) (counts : D → Counts) (port : B → PortState) (lines : C → ℕ → List Line) where
  -- what comes out of the locks
  pub closed_untouched : {g : _} (numbers : ℕ → ℕ) (undone : List Rattle.senders.specs.declared.pieces.Work.Work) (pace : ℕ) (locks : List (Lock D)) (row : List (Option (Seat (LaneValue D) Opening Entry LaneErr g))) (lanes : List (LaneValue D))
      → Each (λ lock. (key_of lock).pace ≡ pace) locks → IsRow numbers [] undone locks row → AreClosed told counts port lines locks row lanes
      → EachBeside (IsUntouched told counts port lines pace) 0 (map put_in locks) lanes
  closed_untouched {g = g} numbers undone pace locks row lanes paced rows closed =
      beside_map (IsUntouched told counts port lines pace) put_in 0 locks lanes
      (beside_from (λ place lock lane. IsUntouched told counts port lines pace place (put_in lock) lane) 0 locks lanes closed.0
      (λ place lock lane lt. both_some
      (λ (s : Seat (LaneValue D) Opening Entry LaneErr g). IsSeatAt numbers [] undone place (slice_index_or locks place lock) s)
      (λ (s : Seat (LaneValue D) Opening Entry LaneErr g). IsGrown (lane_meaning told counts port lines) (key_of (slice_index_or locks place lock)) (view_of s) (slice_index_or lanes place lane)
      × IsAsHeavy (lane_meaning told counts port lines) (key_of (slice_index_or locks place lock)) (view_of s) (slice_index_or lanes place lane))
      (slice_index_or row place None)
      (λ s k came. subst (λ (n : ℕ). IsUntouched told counts port lines pace n (put_in (slice_index_or locks place lock)) (slice_index_or lanes place lane)) (omega arith)
      (untouched told counts port lines (key_of (slice_index_or locks place lock)) pace place undone (view_of s) (slice_index_or lanes place lane) came.0 came.1 k.2
      (Rattle.lane_lock.proofs.Trials.all_from_each (λ (l : Lock D). (key_of l).pace ≡ pace) locks paced place lock lt)))
      (rows.1 place lock lt) (closed.1 place lock lane lt)))

  pub untouched_itself : (pace place : ℕ) (lane : LaneValue D) → IsAtHome told counts port lines pace lane → IsUntouched told counts port lines pace place lane lane
  untouched_itself pace place lane at_home = record {
    later = later_itself told counts port lines lane;
    at_home = at_home;
    entries = refl;
    end = refl;
  }

  rest_untouched : (pace place : ℕ) (lanes : List (LaneValue D)) → All (IsAtHome told counts port lines pace) lanes → EachBeside (IsUntouched told counts port lines pace) place lanes lanes
  rest_untouched pace place [] all = tt
  rest_untouched pace place (lane ∷ lanes) all = (
    untouched_itself pace place lane (all 0 lane (omega arith)),
    rest_untouched pace (place + 1) lanes (λ k d lt. all (suc k) d (omega (arith, lt))),
  )

  -- some lanes came out of locks, and the others weren't put into one
  pub all_untouched : (pace : ℕ) (locks : List (Lock D)) (lanes back rest : List (LaneValue D)) → map put_in locks ++ rest ≡ lanes → All (IsAtHome told counts port lines pace) lanes
      → EachBeside (IsUntouched told counts port lines pace) 0 (map put_in locks) back → EachBeside (IsUntouched told counts port lines pace) 0 lanes (back ++ rest)
  all_untouched pace locks lanes back rest whole at_home out =
      subst (λ (l : List (LaneValue D)). EachBeside (IsUntouched told counts port lines pace) 0 l (back ++ rest)) whole
      (beside_append (IsUntouched told counts port lines pace) 0 (map put_in locks) back rest rest out
      (rest_untouched pace (0 + length (map put_in locks)) rest
      (all_behind (IsAtHome told counts port lines pace) (map put_in locks) rest (subst (All (IsAtHome told counts port lines pace)) (sym whole) at_home))))

  -- the next lane is at home
  pub next_at_home : (pace : ℕ) (locks : List (Lock D)) (lanes rest : List (LaneValue D)) (lane : LaneValue D) → map put_in locks ++ lane ∷ rest ≡ lanes → All (IsAtHome told counts port lines pace) lanes
      → IsAtHome told counts port lines pace lane
  next_at_home pace locks lanes rest lane whole at_home =
      all_behind (IsAtHome told counts port lines pace) (map put_in locks) (lane ∷ rest) (subst (All (IsAtHome told counts port lines pace)) (sym whole) at_home) 0 lane (omega arith)

-- every lane was put into a lock
pub locks_whole : {D : Type 0} (locks : List (Lock D)) (rest lanes : List (LaneValue D)) → map put_in locks ++ rest ≡ lanes → length locks ≡ length lanes → map put_in locks ≡ lanes
locks_whole locks [] lanes whole count = sym (append-nil (map put_in locks)) ∙ whole
locks_whole locks (lane ∷ rest) lanes whole count =
    let a = ap length whole in
    let b = length-append (map put_in locks) (lane ∷ rest) in
    let d = map_length put_in locks in
    absurd (omega (arith, a, b, d, count))

-- one lock more
pub locks_more : {D : Type 0} (lanes rest : List (LaneValue D)) (lane : LaneValue D) (batch seats : ℕ) (locks more : List (Lock D)) → HasLock lane batch seats locks more
    → map put_in locks ++ lane ∷ rest ≡ lanes → Each (λ lock. ((key_of lock).pace ≡ batch) × ((key_of lock).seats ≡ seats)) locks
    → (map put_in more ++ rest ≡ lanes) × Each (λ lock. ((key_of lock).pace ≡ batch) × ((key_of lock).seats ≡ seats)) more × (length more ≡ length locks + 1)
locks_more {D = D} lanes rest lane batch seats locks more has whole keys = (
  ap (λ (l : List (Lock D)). map put_in l ++ rest) has.1
      ∙ (ap (λ (l : List (LaneValue D)). l ++ rest) (map_last put_in locks has.0 ∙ ap (λ (x : LaneValue D). map put_in locks ++ x ∷ []) has.2.0)
      ∙ (append_assoc (map put_in locks) (lane ∷ []) rest ∙ whole)),
  subst (Each (λ (lock : Lock D). ((key_of lock).pace ≡ batch) × ((key_of lock).seats ≡ seats))) (sym has.1)
      (Rattle.lane_lock.proofs.Counting.Each_append (λ (lock : Lock D). ((key_of lock).pace ≡ batch) × ((key_of lock).seats ≡ seats)) locks (has.0 ∷ []) keys ((has.2.1, has.2.2), tt)),
  ap length has.1 ∙ (length-append locks (has.0 ∷ []) ∙ refl),
)
