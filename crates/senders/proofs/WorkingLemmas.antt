-- The whole of a session's work, from what its steps promise.
use Rattle.std.proofs.Common.{◌≡◌, true, false, ℕ, zero, suc, ◌+◌, ◌<◌, ◌≤◌, All, Option, Some, None, List, [], ◌∷◌, ◌++◌, length, map, slice_index_or, refl, sym, ◌∙◌, ap, subst, arith}
use Rattle.std.specs.Option.{is_some}
use Rattle.disk_model.specs.Counts.{Counts}
use Rattle.disk_model.specs.Disk.{Meaning}
use Rattle.ota_core.specs.declared.entries.Entry.{Entry}
use Rattle.ota_core.specs.declared.jobs.JobId.{JobId}
use Rattle.site_model.specs.Port.{PortState}
use Rattle.world_core.specs.declared.lines.Line.{Line}
use Rattle.lane_lock.specs.Grown.{HasAll, IsAsHeavy, IsGrown}
use Rattle.lane_lock.specs.Locks.{IsOf, first_numbers, key_of, view_of}
use Rattle.lane_lock.specs.Numbers.{same, total, within, Each, IsIn}
use Rattle.lane_lock.specs.declared.seats.Seat.{Seat}
use Rattle.lane_lock.proofs.Counting.{within_here}
use Rattle.lane_lock.proofs.Trials.{all_from_each}
use Rattle.lane_engine.specs.Keeping.{IsAtHome, lane_meaning}
use Rattle.lane_engine.specs.KeepingLaws.{later_itself}
use Rattle.lane_engine.specs.LaneValue.{LaneValue}
use Rattle.lane_engine.specs.Opening.{Opening}
use Rattle.lane_engine.specs.Reserving.{JobsDiffer}
use Rattle.lane_engine.specs.declared.answers.LaneErr.{LaneErr}
use Rattle.senders.specs.Alone.{IsWorkedAlone, MayBeAlone}
use Rattle.senders.specs.Bench.{hand}
use Rattle.senders.specs.Desks.{AreClosed, AreLocks, IsDesk, IsReady, IsRow, IsSeatAt, Lock, MayClose, WasRefused, put_in}
use Rattle.senders.specs.Pieces.{EachAt, EachBeside, IsPiece, MayBeWorked, all_jobs}
use Rattle.senders.specs.Worked.{IsShared, IsUntouched, IsWorked}
use Rattle.senders.specs.declared.benches.Hand.{Hand}
use Rattle.senders.specs.declared.pieces.Work.{Work}
use Rattle.senders.specs.declared.settings.Settings.{Settings}
use Rattle.senders.proofs.ClosingLemmas.{each_from, each_in, none_refused}
use Rattle.senders.proofs.StepLemmas.{in_at}
use Rattle.senders.proofs.PlaceLemmas.{all_at, at_place, beside_at, beside_from, beside_length, both_and, both_some, map_at, map_length, some_of}
use Rattle.senders.proofs.RowLemmas.{some_map}
use Rattle.senders.proofs.WorkedLemmas.{shared_of, worked}

-- each element of a list is one of it
pub each_there : {A : Type 0} (xs : List A) → Each (λ x. IsIn x xs) xs
each_there xs = each_from (λ x. IsIn x xs) xs (λ x there. there)

-- ---- the numbers of the desks

-- so many numbers behind this one, in order
abbrev count_up : ℕ → ℕ → List ℕ
count_up from zero = []
count_up from (suc n) = (from + 1) ∷ count_up (from + 1) n

count_last : (from n : ℕ) → count_up from (suc n) ≡ count_up from n ++ (from + suc n) ∷ []
count_last from zero = ap (λ (m : ℕ). m ∷ []) (omega arith)
count_last from (suc n) = ap (λ (l : List ℕ). (from + 1) ∷ l) (count_last (from + 1) n ∙ ap (λ (m : ℕ). count_up (from + 1) n ++ m ∷ []) (omega arith))

count_first : (n : ℕ) → count_up 0 n ≡ first_numbers n
count_first zero = refl
count_first (suc n) = count_last 0 n ∙ (ap (λ (l : List ℕ). l ++ (0 + suc n) ∷ []) (count_first n) ∙ ap (λ (m : ℕ). first_numbers n ++ m ∷ []) (omega arith))

numbers_up : {A B : Type 0} (P : ℕ → A → B → Type 0) (number : B → ℕ) (from : ℕ) (xs : List A) (ys : List B)
    → ((place : ℕ) (a : A) (b : B) → P place a b → number b ≡ place + 1) → EachBeside P from xs ys → map number ys ≡ count_up from (length xs)
numbers_up P number from [] [] f each = refl
numbers_up P number from [] (y ∷ ys) f each = absurd each
numbers_up P number from (x ∷ xs) [] f each = absurd each
numbers_up P number from (x ∷ xs) (y ∷ ys) f each =
    ap (λ (n : ℕ). n ∷ map number ys) (f from x y each.0) ∙ ap (λ (l : List ℕ). (from + 1) ∷ l) (numbers_up P number (from + 1) xs ys f each.1)

pub numbers_beside : {A B : Type 0} (P : ℕ → A → B → Type 0) (number : B → ℕ) (xs : List A) (ys : List B) (count : ℕ)
    → ((place : ℕ) (a : A) (b : B) → P place a b → number b ≡ place + 1) → EachBeside P 0 xs ys → length xs ≡ count → map number ys ≡ first_numbers count
numbers_beside P number xs ys count f each is = numbers_up P number 0 xs ys f each ∙ (count_first (length xs) ∙ ap first_numbers is)

-- ---- locks and desks

-- a desk that begins is ready
pub ready : {D : Type 0} {g : _} (works : List Work) (locks : List (Lock D)) (place number : ℕ) (at : Hand) (row : List (Option (Seat (LaneValue D) Opening Entry LaneErr g))) (refused : Option LaneErr)
    → IsRow (λ n. same n (place + 1)) [] [] locks row → number ≡ place + 1 → refused ≡ None → at ≡ hand 1 [] [] → IsReady works locks number at row refused
ready works locks place number at row refused seats numbered none begins = (
  ap (λ (h : Hand). h.parts) begins,
  ap (λ (h : Hand). h.put) begins,
  subst (λ (taken : List Work). IsDesk works (λ n. same n number) taken locks row refused) (sym (ap (λ (h : Hand). h.taken) begins))
      (subst (λ (m : ℕ). IsDesk works (λ n. same n m) [] locks row refused) (sym numbered) (record {
        undone = [];
        among = λ work there. there;
        given = tt;
        seats = seats;
        told = λ refusal is. absurd (clash (sym none ∙ is));
      })),
)
  where
    clash : {r : LaneErr} → None ≡ Some r → ⊥
    clash h = cc

-- lanes to which nothing was done yet
module _ {D B C : Type 0} (told : Meaning D B C) (counts : D → Counts) (port : B → PortState) (lines : C → ℕ → List Line) (batch count : ℕ) (works : List Work) where
  pub all_home : (from : ℕ) (lanes : List (LaneValue D)) → EachAt (MayBeWorked told counts port lines batch count works) from lanes → All (IsAtHome told counts port lines batch) lanes
  all_home from lanes may = all_at (MayBeWorked told counts port lines batch count works) (IsAtHome told counts port lines batch) from lanes (λ place lane is. is.at_home) may

  pub untouched_all : (from : ℕ) (lanes : List (LaneValue D)) → EachAt (MayBeWorked told counts port lines batch count works) from lanes
      → EachBeside (IsUntouched told counts port lines batch) from lanes lanes
  untouched_all from [] may = tt
  untouched_all from (lane ∷ lanes) may = (
    record { later = later_itself told counts port lines lane; at_home = may.0.at_home; entries = refl; end = refl },
    untouched_all (from + 1) lanes may.1,
  )

-- the lanes that were shared may each be with one sender, and then all is done
module _ {D B C : Type 0} (told : Meaning D B C) (counts : D → Counts) (port : B → PortState) (lines : C → ℕ → List Line) where
  pub may_alone : (batch senders : ℕ) (works : List Work) (from : ℕ) (lanes shared : List (LaneValue D)) → EachBeside (IsShared told counts port lines batch senders works) from lanes shared
      → All (MayBeAlone counts) shared
  may_alone batch senders works from lanes shared each = all_from_each (MayBeAlone counts) shared (go from lanes shared each)
    where
      go : (k : ℕ) (olds news : List (LaneValue D)) → EachBeside (IsShared told counts port lines batch senders works) k olds news → Each (MayBeAlone counts) news
      go k [] [] all = tt
      go k [] (y ∷ ys) all = absurd all
      go k (x ∷ xs) [] all = absurd all
      go k (x ∷ xs) (y ∷ ys) all = (record { faults = all.0.at_home.faults; wants = all.0.at_home.wants; live = all.0.at_home.live }, go (k + 1) xs ys all.1)

  pub all_worked : (settings : Settings) (works : List Work) (watch : List (ℕ × JobId)) (lanes shared new : List (LaneValue D)) → 1 ≤ settings.senders
      → EachBeside (IsShared told counts port lines settings.batch settings.senders works) 0 lanes shared → length new ≡ length shared
      → ((k : ℕ) (lane : LaneValue D) → k < length shared → IsWorkedAlone told counts port lines settings k watch (slice_index_or shared k lane) (slice_index_or new k lane))
      → EachBeside (IsWorked told counts port lines settings works watch) 0 lanes new
  all_worked settings works watch lanes shared new some each len alone =
      let same = beside_length (IsShared told counts port lines settings.batch settings.senders works) 0 lanes shared each in
      beside_from (IsWorked told counts port lines settings works watch) 0 lanes new (len ∙ same)
      (λ k a b lt. subst (λ (n : ℕ). IsWorked told counts port lines settings works watch n (slice_index_or lanes k a) (slice_index_or new k b)) (omega arith)
      (worked told counts port lines settings k works watch (slice_index_or lanes k a) (slice_index_or shared k b) (slice_index_or new k b)
      (subst (λ (n : ℕ). IsShared told counts port lines settings.batch settings.senders works n (slice_index_or lanes k a) (slice_index_or shared k b)) (omega arith)
      (beside_at (IsShared told counts port lines settings.batch settings.senders works) 0 lanes shared k a b lt each)) some (alone k b (omega (arith, same, lt)))))

-- what is known of the one desk that has what all had, in other words
pub desk_for : {D : Type 0} {g : _} (works work : List Work) (count senders : ℕ) (taken : List Work) (slice locks : List (Lock D)) (row : List (Option (Seat (LaneValue D) Opening Entry LaneErr g)))
    (refused : Option LaneErr) → works ≡ work → slice ≡ locks → count ≡ senders → IsDesk works (within 1 (count + 1)) taken slice row refused → IsDesk work (within 1 (senders + 1)) taken locks row refused
desk_for works work count senders taken slice locks row refused same_works same_locks same_count desk =
    subst (λ (w : List Work). IsDesk w (within 1 (senders + 1)) taken locks row refused) same_works
    (subst (λ (l : List (Lock _)). IsDesk works (within 1 (senders + 1)) taken l row refused) same_locks
    (subst (λ (n : ℕ). IsDesk works (within 1 (n + 1)) taken slice row refused) same_count desk))

-- there is something, and it can't be
pub some_there : {A : Type 0} (o : Option A) → is_some o ≡ true → ((x : A) → o ≡ Some x → ⊥) → ⊥
some_there None is none = clash is
  where
    clash : false ≡ true → ⊥
    clash h = cc
some_there (Some x) is none = none x refl

module _ {D B C : Type 0} (told : Meaning D B C) (counts : D → Counts) (port : B → PortState) (lines : C → ℕ → List Line) (batch senders count : ℕ) (works : List Work) (locks : List (Lock D))
    (long : count ≡ length locks) (fit : Each (λ lock. ((key_of lock).pace ≡ batch) × ((key_of lock).seats ≡ senders)) locks)
    (may : EachAt (MayBeWorked told counts port lines batch count works) 0 (map put_in locks)) where
  may_at : (k : ℕ) (lock : Lock D) → k < length locks → MayBeWorked told counts port lines batch count works k (put_in (slice_index_or locks k lock))
  may_at k lock lt =
      subst (λ (lane : LaneValue D). MayBeWorked told counts port lines batch count works k lane) (map_at put_in locks k lock (put_in lock) lt)
      (subst (λ (n : ℕ). MayBeWorked told counts port lines batch count works n (slice_index_or (map put_in locks) k (put_in lock))) (omega arith)
      (at_place (MayBeWorked told counts port lines batch count works) 0 (map put_in locks) k (put_in lock) (let same = map_length put_in locks in omega (arith, same, lt)) may))

  paced_at : (k : ℕ) (lock : Lock D) → k < length locks → ((key_of (slice_index_or locks k lock)).pace ≡ batch) × ((key_of (slice_index_or locks k lock)).seats ≡ senders)
  paced_at k lock lt =
      each_in (λ l. ((key_of l).pace ≡ batch) × ((key_of l).seats ≡ senders)) (slice_index_or locks k lock) locks fit (in_at locks k lock lt)

  pub are_locks : AreLocks batch locks
  are_locks = λ k lock lt. ((may_at k lock lt).lane_is, (may_at k lock lt).lanes_are ∙ long, (paced_at k lock lt).0)

  pub may_close : {g : _} (taken : List Work) (row : List (Option (Seat (LaneValue D) Opening Entry LaneErr g))) (refused : Option LaneErr) → IsDesk works (within 1 (senders + 1)) taken locks row refused
      → MayClose locks row
  may_close taken row refused desk = (
    desk.seats.0,
    λ k lock lt. some_map (IsSeatAt (within 1 (senders + 1)) taken desk.undone k (slice_index_or locks k lock))
        (λ seat. IsOf (slice_index_or locks k lock) seat × HasAll (key_of (slice_index_or locks k lock)) (view_of seat)) (slice_index_or row k None)
        (λ seat at. (
          at.0,
          λ n number.
              let seats = (paced_at k lock lt).1 in
              let is = at.1 n in
              let one = within_here 1 (senders + 1) n number.0 (let high = number.1 in omega (arith, seats, high)) in
              omega (arith, is, one),
        )) (desk.seats.1 k lock lt),
  )

  -- no hold was refused
  pub unrefused : {g : _} (taken : List Work) (row : List (Option (Seat (LaneValue D) Opening Entry LaneErr g))) (refused : Option LaneErr) → IsDesk works (within 1 (senders + 1)) taken locks row refused
      → (shared : List (LaneValue D)) → AreClosed told counts port lines locks row shared → ((h : Work → ℕ) → total h works ≡ total h taken)
      → Each (IsPiece batch count) works → JobsDiffer (all_jobs works) → (refusal : LaneErr) → refused ≡ Some refusal → ⊥
  unrefused taken row refused desk shared closed whole pieces differ refusal is =
      let was = desk.told refusal is in
      let k = was.0.lane in
      let below = was.2.0 in
      let lock = some_of locks k below in
      let same = closed.0 in
      let lane = some_of shared k (omega (arith, same, below)) in
      both_some (λ s. (IsGrown (lane_meaning told counts port lines) (key_of (slice_index_or locks k lock)) (view_of s) (slice_index_or shared k lane)
      × IsAsHeavy (lane_meaning told counts port lines) (key_of (slice_index_or locks k lock)) (view_of s) (slice_index_or shared k lane))
      × IsSeatAt (within 1 (senders + 1)) taken desk.undone k (slice_index_or locks k lock) s)
      (λ s. (other : Lock D) → WasRefused (put_in (slice_index_or locks k other)) (view_of s) was.0) (slice_index_or row k None)
      (λ s at refused_at. none_refused told counts port lines (key_of (slice_index_or locks k lock)) batch count k works taken desk.undone (view_of s) (slice_index_or shared k lane)
      at.0.0 at.0.1 at.1.2 desk.among desk.given whole (may_at k lock below) pieces differ was.0 was.1 refl (refused_at lock))
      (both_and (λ s. IsGrown (lane_meaning told counts port lines) (key_of (slice_index_or locks k lock)) (view_of s) (slice_index_or shared k lane)
      × IsAsHeavy (lane_meaning told counts port lines) (key_of (slice_index_or locks k lock)) (view_of s) (slice_index_or shared k lane))
      (IsSeatAt (within 1 (senders + 1)) taken desk.undone k (slice_index_or locks k lock)) (slice_index_or row k None) (closed.1 k lock lane below) (desk.seats.1 k lock below))
      was.2.1

  pub all_shared : {g : _} (taken : List Work) (row : List (Option (Seat (LaneValue D) Opening Entry LaneErr g))) (refused : Option LaneErr) → IsDesk works (within 1 (senders + 1)) taken locks row refused
      → (shared : List (LaneValue D)) → AreClosed told counts port lines locks row shared → ((h : Work → ℕ) → total h works ≡ total h taken)
      → Each (IsPiece batch count) works → JobsDiffer (all_jobs works) → EachBeside (IsShared told counts port lines batch senders works) 0 (map put_in locks) shared
  all_shared taken row refused desk shared closed whole pieces differ = beside_from (IsShared told counts port lines batch senders works) 0 (map put_in locks) shared (closed.0 ∙ sym (map_length put_in locks))
      (λ k a b lt.
      let same = map_length put_in locks in
      let below : k < length locks = omega (arith, same, lt) in
      let lock = some_of locks k below in
      subst (λ (n : ℕ). IsShared told counts port lines batch senders works n (slice_index_or (map put_in locks) k a) (slice_index_or shared k b)) (omega arith)
      (subst (λ (lane : LaneValue D). IsShared told counts port lines batch senders works k lane (slice_index_or shared k b)) (sym (map_at put_in locks k lock a below))
      (both_some (λ s. IsGrown (lane_meaning told counts port lines) (key_of (slice_index_or locks k lock)) (view_of s) (slice_index_or shared k b)
      × IsAsHeavy (lane_meaning told counts port lines) (key_of (slice_index_or locks k lock)) (view_of s) (slice_index_or shared k b))
      (IsSeatAt (within 1 (senders + 1)) taken desk.undone k (slice_index_or locks k lock)) (slice_index_or row k None)
      (λ s grown at. shared_of told counts port lines (key_of (slice_index_or locks k lock)) batch senders count k works taken desk.undone (view_of s) (slice_index_or shared k b)
      grown.0 grown.1 at.2 desk.among desk.given whole (may_at k lock below) pieces differ (paced_at k lock below).0 (paced_at k lock below).1)
      (closed.1 k lock b below) (desk.seats.1 k lock below))))

-- ---- the same, by other names of the numbers and of the lists

module _ {D B C : Type 0} (told : Meaning D B C) (counts : D → Counts) (port : B → PortState) (lines : C → ℕ → List Line) (works : List Work) where
  pub may_as : (batch other count lanes : ℕ) (olds news : List (LaneValue D)) → other ≡ batch → lanes ≡ count → news ≡ olds → EachAt (MayBeWorked told counts port lines batch count works) 0 olds
      → EachAt (MayBeWorked told counts port lines other lanes works) 0 news
  may_as batch other count lanes olds news batch_is count_is same_lanes may =
      subst (λ (b : ℕ). EachAt (MayBeWorked told counts port lines b lanes works) 0 news) (sym batch_is)
      (subst (λ (n : ℕ). EachAt (MayBeWorked told counts port lines batch n works) 0 news) (sym count_is)
      (subst (λ (l : List (LaneValue D)). EachAt (MayBeWorked told counts port lines batch count works) 0 l) (sym same_lanes) may))

  pub shared_as : (batch other senders rows : ℕ) (olds lanes news : List (LaneValue D)) → batch ≡ other → senders ≡ rows → olds ≡ lanes
      → EachBeside (IsShared told counts port lines batch senders works) 0 olds news → EachBeside (IsShared told counts port lines other rows works) 0 lanes news
  shared_as batch other senders rows olds lanes news batch_is senders_are same_lanes shared =
      subst (λ (l : List (LaneValue D)). EachBeside (IsShared told counts port lines other rows works) 0 l news) same_lanes
      (subst (λ (n : ℕ). EachBeside (IsShared told counts port lines other n works) 0 olds news) senders_are
      (subst (λ (b : ℕ). EachBeside (IsShared told counts port lines b senders works) 0 olds news) batch_is shared))

-- so many locks as lanes
pub locks_count : {D : Type 0} (locks : List (Lock D)) (lanes : List (LaneValue D)) (len count : ℕ) → len ≡ length locks → count ≡ length lanes → map put_in locks ≡ lanes → len ≡ count
locks_count locks lanes len count is are same_lanes =
    let a = map_length put_in locks in
    let b = ap length same_lanes in
    omega (arith, a, b, is, are)

pub locks_as : {D : Type 0} (locks : List (Lock D)) (pace other seats rows : ℕ) → pace ≡ other → seats ≡ rows → Each (λ lock. ((key_of lock).pace ≡ pace) × ((key_of lock).seats ≡ seats)) locks
    → Each (λ lock. ((key_of lock).pace ≡ other) × ((key_of lock).seats ≡ rows)) locks
locks_as {D = D} locks pace other seats rows pace_is seats_are fit =
    subst (λ (n : ℕ). Each (λ (lock : Lock D). ((key_of lock).pace ≡ other) × ((key_of lock).seats ≡ n)) locks) seats_are
    (subst (λ (n : ℕ). Each (λ (lock : Lock D). ((key_of lock).pace ≡ n) × ((key_of lock).seats ≡ seats)) locks) pace_is fit)

pub pieces_as : (works : List Work) (batch other lanes count : ℕ) → other ≡ batch → lanes ≡ count → All (IsPiece batch count) works → All (IsPiece other lanes) works
pieces_as works batch other lanes count batch_is count_is pieces =
    subst (λ (b : ℕ). All (IsPiece b lanes) works) (sym batch_is) (subst (λ (n : ℕ). All (IsPiece batch n) works) (sym count_is) pieces)
