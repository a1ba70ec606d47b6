-- Jobs that are put into pieces one by one.
use Rattle.std.proofs.Common.{◌≡◌, ℕ, zero, suc, ◌+◌, ◌-◌, ◌%◌, ◌<◌, ◌≤◌, ◌==◌, nat_lt, Bool, true, false, ◌&&◌, if◌then◌else◌, List, [], ◌∷◌, ◌++◌, length, get_or, set, map, replicate, refl, sym, ap, ◌∙◌, arith, length-append}
use Rattle.std.proofs.Math.Nat.{add-mod, add-mod_right, mod-eq_of_lt}
use Rattle.std.proofs.Math.Seq.{get_or-append_seam}
use Rattle.std.proofs.lemmas.List.{append-nil, get_or_append_left, get_or-set_same, get_or-set_other, get_or-replicate, length-set, length-replicate}
use Rattle.std.proofs.lemmas.Bool.Decides.{nat_tests}
use Rattle.ota_core.specs.declared.jobs.Job.{Job}
use Rattle.senders.specs.declared.pieces.Work.{Work}
use Rattle.campaigns.specs.WorkList.{lane_of, jobs_of_lane, begins_piece, pieces_of}
use Rattle.campaigns.specs.Batching.{no_piece, piece_at, joined, works_with, end_behind, IsEnd, IsPlaced}
use Rattle.campaigns.specs.declared.batches.LaneEnd.{LaneEnd}
use Rattle.campaigns.proofs.PieceLemmas.{is_below, same_test, with_job, lane_push, pieces_push}

is_zero : (n : ℕ) → (n == 0) ≡ true → n ≡ 0
is_zero n test = grind (arith, nat_tests, test)

other_number : (a b : ℕ) → (a == b) ≡ false → a ≡ b → ⊥
other_number a b test same = grind (arith, nat_tests, test, same)

above_zero : (n : ℕ) → (n == 0) ≡ false → 0 < n
above_zero n test = grind (arith, nat_tests, test)

no_zero : (n : ℕ) → (n ≡ 0 → ⊥) → (n == 0) ≡ false
no_zero n apart = by_test (n == 0) refl
  where
    by_test : (test : Bool) → (n == 0) ≡ test → test ≡ false
    by_test true e = absurd (apart (is_zero n e))
    by_test false e = refl

same_number : (a b : ℕ) → (a == b) ≡ true → a ≡ b
same_number a b test = grind (arith, nat_tests, test)

below_number : (a b : ℕ) → nat_lt a b ≡ true → a < b
below_number a b test = grind (arith, nat_tests, test)

not_below : (a b : ℕ) → nat_lt a b ≡ false → b ≤ a
not_below a b test = grind (arith, nat_tests, test)

is_same : (a b : ℕ) → a ≡ b → (a == b) ≡ true
is_same a b same = grind (arith, nat_tests, same)

both_true : (first second : Bool) → (first && second) ≡ true → (first ≡ true) × (second ≡ true)
both_true true second h = (refl, h)
both_true false second h = cc

-- a function that changes no piece
map_same : (f : Work → Work) (works : List Work) → ((i : ℕ) → i < length works → f (piece_at works i) ≡ piece_at works i) → map f works ≡ works
map_same f [] same = refl
map_same f (work ∷ works) same =
    λ k. same zero (omega arith) k ∷ map_same f works (λ i below. same (suc i) (omega (arith, below))) k

-- a function that changes one piece
map_set : (f : Work → Work) (works : List Work) (place : ℕ) (work : Work) → place < length works → f (piece_at works place) ≡ work
    → ((i : ℕ) → i < length works → (i ≡ place → ⊥) → f (piece_at works i) ≡ piece_at works i) → map f works ≡ set works place work
map_set f [] place work within is others = absurd (omega (arith, within))
map_set f (first ∷ works) zero work within is others =
    λ k. is k ∷ map_same f works (λ i below. others (suc i) (omega (arith, below)) (λ e. omega (arith, e))) k
map_set f (first ∷ works) (suc place) work within is others =
    λ k. others zero (omega arith) (λ e. omega (arith, e)) k
    ∷ map_set f works place work (omega (arith, within)) is (λ i below apart. others (suc i) (omega (arith, below)) (λ e. apart (omega (arith, e)))) k

module _ (size lane : ℕ) (job : Job) where
  -- a piece of another lane, or one that takes no more jobs
  stays : (work : Work) → (work.lane ≡ lane → length work.jobs < size → ⊥) → with_job size lane job work ≡ work
  stays work none = by_test ((work.lane == lane) && nat_lt (length work.jobs) size) refl
    where
      by_test : (test : Bool) → ((work.lane == lane) && nat_lt (length work.jobs) size) ≡ test → (if test then joined work job else work) ≡ work
      by_test true e =
          let both = both_true (work.lane == lane) (nat_lt (length work.jobs) size) e in
          absurd (none (same_number work.lane lane both.0) (below_number (length work.jobs) size both.1))
      by_test false e = refl

  -- a piece of the lane that takes more jobs
  joins : (work : Work) → work.lane ≡ lane → length work.jobs < size → with_job size lane job work ≡ joined work job
  joins work of_lane room = rw (is_same work.lane lane of_lane, is_below (length work.jobs) size room) refl

module _ (lanes size : ℕ) (some : 0 < size) (jobs : List Job) (job : Job) (works : List Work) (end : LaneEnd)
    (counts : (length (jobs_of_lane lanes (lane_of lanes job) jobs) + end.room) % size ≡ 0) (behind : IsEnd size (lane_of lanes job) works end) where
  begins : (end.room == 0) ≡ true → begins_piece lanes size jobs job ≡ true
  begins full = is_same (length (jobs_of_lane lanes (lane_of lanes job) jobs) % size) 0 (ap (λ n. n % size) (omega (arith, is_zero end.room full)) ∙ counts)

  goes_on : (end.room == 0) ≡ false → begins_piece lanes size jobs job ≡ false
  goes_on room = no_zero (count % size) (λ none. omega (arith, above_zero end.room room, left none))
    where
      count : ℕ
      count = length (jobs_of_lane lanes (lane_of lanes job) jobs)

      left : count % size ≡ 0 → end.room ≡ 0
      left none =
          sym (mod-eq_of_lt behind.below)
          ∙ sym (mod-eq_of_lt (rw (mod-eq_of_lt behind.below) behind.below))
          ∙ ap (λ n. n % size) (omega arith)
          ∙ ap (λ n. (n + end.room % size) % size) (sym none)
          ∙ sym (add-mod count end.room size) ∙ counts

  -- the pieces with the job
  pub works_more : works ≡ pieces_of lanes size [] jobs → works_with (lane_of lanes job) job end works ≡ pieces_of lanes size [] (jobs ++ job ∷ [])
  works_more are = rw (pieces_push lanes size some [] jobs job, ← are) (by_test (end.room == 0) refl)
    where
      lane : ℕ
      lane = lane_of lanes job

      by_test : (full : Bool) → (end.room == 0) ≡ full
          → (if full then works ++ record { lane = lane_of lanes job; jobs = job ∷ [] } ∷ [] else set works end.piece (joined (piece_at works end.piece) job))
          ≡ map (with_job size (lane_of lanes job) job) works
          ++ (if begins_piece lanes size jobs job then record { lane = lane_of lanes job; jobs = job ∷ [] } ∷ [] else [])
      by_test true full =
          rw (
            begins full,
            map_same (with_job size (lane_of lanes job) job) works (λ i below. stays size (lane_of lanes job) job (piece_at works i)
                (λ of_lane room. omega (arith, (behind.only i below of_lane room).0, is_zero end.room full))),
          ) refl
      by_test false more =
          let room = above_zero end.room more in
          let last = behind.last room in
          rw (
            goes_on more,
            map_set (with_job size (lane_of lanes job) job) works end.piece (joined (piece_at works end.piece) job) (behind.there room)
                (joins size (lane_of lanes job) job (piece_at works end.piece) last.0 (omega (arith, room, last.1)))
                (λ i below apart. stays size (lane_of lanes job) job (piece_at works i) (λ of_lane takes. apart (behind.only i below of_lane takes).1)),
          )
          (sym (append-nil (set works end.piece (joined (piece_at works end.piece) job))))

  -- a piece that stood there before
  old_at : (work : Work) (place : ℕ) → place < length works → piece_at (works ++ work ∷ []) place ≡ piece_at works place
  old_at work place below = get_or_append_left works (work ∷ []) (record { lane = 0; jobs = [] }) place below

  -- the piece that is new
  new_at : (work : Work) (place : ℕ) → place ≡ length works → piece_at (works ++ work ∷ []) place ≡ work
  new_at work place is = rw is (get_or-append_seam works work [] (record { lane = 0; jobs = [] }))

  -- a piece that stays as it was
  kept_at : (work : Work) (place : ℕ) → (place ≡ end.piece → ⊥) → piece_at (set works end.piece work) place ≡ piece_at works place
  kept_at work place apart = get_or-set_other works end.piece place work (record { lane = 0; jobs = [] }) apart

  -- the piece that is changed
  changed_at : (work : Work) (place : ℕ) → end.piece < length works → place ≡ end.piece → piece_at (set works end.piece work) place ≡ work
  changed_at work place there is = rw is (get_or-set_same works end.piece work (record { lane = 0; jobs = [] }) there)

  -- the lane's last piece behind the job
  pub end_more : IsEnd size (lane_of lanes job) (works_with (lane_of lanes job) job end works) (end_behind size (length works) end)
  end_more = by_test (end.room == 0) refl
    where
      first : Work
      first = record { lane = lane_of lanes job; jobs = job ∷ [] }

      by_test : (full : Bool) → (end.room == 0) ≡ full
          → IsEnd size (lane_of lanes job) (if full then works ++ first ∷ [] else set works end.piece (joined (piece_at works end.piece) job))
          (if full then record { room = size - 1; piece = length works } else record { room = end.room - 1; piece = end.piece })
      by_test true full = record {
        below = omega (arith, some);
        there = λ room. omega (arith, length-append works (first ∷ []));
        last = λ room. rw (new_at first (length works) refl) (refl, omega (arith, some));
        only = λ place below of_lane takes. by_place place below of_lane takes (nat_lt place (length works)) refl;
      }
        where
          by_place : (place : ℕ) → place < length (works ++ first ∷ []) → (piece_at (works ++ first ∷ []) place).lane ≡ lane_of lanes job
              → length (piece_at (works ++ first ∷ []) place).jobs < size → (before : Bool) → nat_lt place (length works) ≡ before
              → (0 < size - 1) × (place ≡ length works)
          by_place place below of_lane takes true old =
              let there = below_number place (length works) old in
              let none = (behind.only place there (rw (old_at first place there) at of_lane) (rw (old_at first place there) at takes)).0 in
              absurd (omega (arith, none, is_zero end.room full))
          by_place place below of_lane takes false new =
              let there : place ≡ length works = omega (arith, below, not_below place (length works) new, length-append works (first ∷ [])) in
              let few : length (job ∷ []) < size = rw (new_at first place there) at takes in
              (omega (arith, few), there)
      by_test false more = record {
        below = omega (arith, behind.below);
        there = λ room. rw (length-set works end.piece (joined piece job)) (behind.there some_room);
        last = λ room.
            rw (changed_at (joined piece job) end.piece (behind.there some_room) refl)
            ((behind.last some_room).0, omega (arith, length-append piece.jobs (job ∷ []), (behind.last some_room).1, some_room));
        only = λ place below of_lane takes. by_place place below of_lane takes (place == end.piece) refl;
      }
        where
          piece : Work
          piece = piece_at works end.piece

          some_room : 0 < end.room
          some_room = above_zero end.room more

          by_place : (place : ℕ) → place < length (set works end.piece (joined piece job)) → (piece_at (set works end.piece (joined piece job)) place).lane ≡ lane_of lanes job
              → length (piece_at (set works end.piece (joined piece job)) place).jobs < size → (same : Bool) → (place == end.piece) ≡ same
              → (0 < end.room - 1) × (place ≡ end.piece)
          by_place place below of_lane takes true same =
              let one = same_number place end.piece same in
              let few : length (piece.jobs ++ job ∷ []) < size = rw (changed_at (joined piece job) place (behind.there some_room) one) at takes in
              (omega (arith, few, length-append piece.jobs (job ∷ []), (behind.last some_room).1), one)
          by_place place below of_lane takes false other =
              let apart = other_number place end.piece other in
              let there : place < length works = omega (arith, below, length-set works end.piece (joined piece job)) in
              let one = (behind.only place there (rw (kept_at (joined piece job) place apart) at of_lane) (rw (kept_at (joined piece job) place apart) at takes)).1 in
              absurd (apart one)

  -- the last piece of another lane behind the job
  pub end_other : (other : ℕ) (theirs : LaneEnd) → (other ≡ lane_of lanes job → ⊥) → IsEnd size other works theirs
      → IsEnd size other (works_with (lane_of lanes job) job end works) theirs
  end_other other theirs apart stands = by_test (end.room == 0) refl
    where
      first : Work
      first = record { lane = lane_of lanes job; jobs = job ∷ [] }

      by_test : (full : Bool) → (end.room == 0) ≡ full
          → IsEnd size other (if full then works ++ first ∷ [] else set works end.piece (joined (piece_at works end.piece) job)) theirs
      by_test true full = record {
        below = stands.below;
        there = λ room. omega (arith, stands.there room, length-append works (first ∷ []));
        last = λ room. rw (old_at first theirs.piece (stands.there room)) (stands.last room);
        only = λ place below of_lane takes. by_place place below of_lane takes (nat_lt place (length works)) refl;
      }
        where
          by_place : (place : ℕ) → place < length (works ++ first ∷ []) → (piece_at (works ++ first ∷ []) place).lane ≡ other
              → length (piece_at (works ++ first ∷ []) place).jobs < size → (before : Bool) → nat_lt place (length works) ≡ before
              → (0 < theirs.room) × (place ≡ theirs.piece)
          by_place place below of_lane takes true old =
              let there = below_number place (length works) old in
              stands.only place there (rw (old_at first place there) at of_lane) (rw (old_at first place there) at takes)
          by_place place below of_lane takes false new =
              let there : place ≡ length works = omega (arith, below, not_below place (length works) new, length-append works (first ∷ [])) in
              let ours : lane_of lanes job ≡ other = rw (new_at first place there) at of_lane in
              absurd (apart (sym ours))
      by_test false more = record {
        below = stands.below;
        there = λ room. rw (length-set works end.piece (joined piece job)) (stands.there room);
        last = λ room. rw (kept_at (joined piece job) theirs.piece (theirs_apart room)) (stands.last room);
        only = λ place below of_lane takes. by_place place below of_lane takes (place == end.piece) refl;
      }
        where
          piece : Work
          piece = piece_at works end.piece

          some_room : 0 < end.room
          some_room = above_zero end.room more

          theirs_apart : 0 < theirs.room → theirs.piece ≡ end.piece → ⊥
          theirs_apart room same = apart (sym (stands.last room).0 ∙ ap (λ place. (piece_at works place).lane) same ∙ (behind.last some_room).0)

          by_place : (place : ℕ) → place < length (set works end.piece (joined piece job)) → (piece_at (set works end.piece (joined piece job)) place).lane ≡ other
              → length (piece_at (set works end.piece (joined piece job)) place).jobs < size → (same : Bool) → (place == end.piece) ≡ same
              → (0 < theirs.room) × (place ≡ theirs.piece)
          by_place place below of_lane takes true same =
              let one = same_number place end.piece same in
              let ours : piece.lane ≡ other = rw (changed_at (joined piece job) place (behind.there some_room) one) at of_lane in
              absurd (apart (sym ours ∙ (behind.last some_room).0))
          by_place place below of_lane takes false different =
              let elsewhere = other_number place end.piece different in
              let there : place < length works = omega (arith, below, length-set works end.piece (joined piece job)) in
              stands.only place there (rw (kept_at (joined piece job) place elsewhere) at of_lane) (rw (kept_at (joined piece job) place elsewhere) at takes)

  -- the lane's jobs, and the room of its last piece
  pub counts_more : (length (jobs_of_lane lanes (lane_of lanes job) (jobs ++ job ∷ [])) + (end_behind size (length works) end).room) % size ≡ 0
  counts_more = rw (lane_push lanes size some (lane_of lanes job) jobs job, same_test (lane_of lanes job)) (by_test (end.room == 0) refl)
    where
      there : List Job
      there = jobs_of_lane lanes (lane_of lanes job) jobs

      next : Bool → LaneEnd
      next full = if full then record { room = size - 1; piece = length works } else record { room = end.room - 1; piece = end.piece }

      by_test : (full : Bool) → (end.room == 0) ≡ full
          → (length (there ++ job ∷ []) + (next full).room) % size ≡ 0
      by_test true full =
          ap (λ n. n % size) (omega (arith, length-append there (job ∷ []), some)) ∙ add-mod_right (length there) size
          ∙ ap (λ n. n % size) (omega (arith, is_zero end.room full)) ∙ counts
      by_test false more = ap (λ n. n % size) (omega (arith, length-append there (job ∷ []), above_zero end.room more)) ∙ counts

  pub counts_other : (other room : ℕ) → (other ≡ lane_of lanes job → ⊥) → (length (jobs_of_lane lanes other jobs) + room) % size ≡ 0
      → (length (jobs_of_lane lanes other (jobs ++ job ∷ [])) + room) % size ≡ 0
  counts_other other room apart stands =
      rw (lane_push lanes size some other jobs job, different, append-nil (jobs_of_lane lanes other jobs)) stands
    where
      different : (lane_of lanes job == other) ≡ false
      different = by_test (lane_of lanes job == other) refl
        where
          by_test : (test : Bool) → (lane_of lanes job == other) ≡ test → test ≡ false
          by_test true same = absurd (apart (sym (same_number (lane_of lanes job) other same)))
          by_test false other_lane = refl

-- no job stands in a piece yet
pub none_placed : (lanes size : ℕ) → 0 < size → IsPlaced lanes size [] [] (replicate lanes no_piece)
none_placed lanes size some = record {
  are = refl;
  each = length-replicate lanes no_piece;
  behind = λ lane below. rw (get_or-replicate lanes lane no_piece no_piece below) (record {
    below = some;
    there = λ room. absurd (omega (arith, room));
    last = λ room. absurd (omega (arith, room));
    only = λ place there of_lane takes. absurd (omega (arith, there));
  });
  counts = λ lane below. rw (get_or-replicate lanes lane no_piece no_piece below) (mod-eq_of_lt some);
}

-- one more job
pub placed_more : (lanes size : ℕ) → 0 < size → (jobs : List Job) (job : Job) (works : List Work) (ends : List LaneEnd) → lane_of lanes job < lanes
    → IsPlaced lanes size jobs works ends
    → IsPlaced lanes size (jobs ++ job ∷ []) (works_with (lane_of lanes job) job (get_or ends (lane_of lanes job) no_piece) works)
    (set ends (lane_of lanes job) (end_behind size (length works) (get_or ends (lane_of lanes job) no_piece)))
placed_more lanes size some jobs job works ends within placed = record {
  are = works_more lanes size some jobs job works end counts behind placed.are;
  each = length-set ends (lane_of lanes job) next ∙ placed.each;
  behind = λ lane below. by_lane lane below (lane == lane_of lanes job) refl;
  counts = λ lane below. by_count lane below (lane == lane_of lanes job) refl;
}
  where
    end : LaneEnd
    end = get_or ends (lane_of lanes job) no_piece

    next : LaneEnd
    next = end_behind size (length works) (get_or ends (lane_of lanes job) no_piece)

    behind : IsEnd size (lane_of lanes job) works (get_or ends (lane_of lanes job) no_piece)
    behind = placed.behind (lane_of lanes job) within

    counts : (length (jobs_of_lane lanes (lane_of lanes job) jobs) + (get_or ends (lane_of lanes job) no_piece).room) % size ≡ 0
    counts = placed.counts (lane_of lanes job) within

    here : (lane : ℕ) → lane ≡ lane_of lanes job → get_or (set ends (lane_of lanes job) next) lane no_piece ≡ next
    here lane same = rw same (get_or-set_same ends (lane_of lanes job) next no_piece (rw (placed.each) within))

    by_lane : (lane : ℕ) → lane < lanes → (same : Bool) → (lane == lane_of lanes job) ≡ same
        → IsEnd size lane (works_with (lane_of lanes job) job (get_or ends (lane_of lanes job) no_piece) works) (get_or (set ends (lane_of lanes job) next) lane no_piece)
    by_lane lane below true same =
        let one = same_number lane (lane_of lanes job) same in
        rw (here lane one, one) (end_more lanes size some jobs job works end counts behind)
    by_lane lane below false different =
        let apart = other_number lane (lane_of lanes job) different in
        rw (get_or-set_other ends (lane_of lanes job) lane next no_piece apart)
        (end_other lanes size some jobs job works end counts behind lane (get_or ends lane no_piece) apart (placed.behind lane below))

    by_count : (lane : ℕ) → lane < lanes → (same : Bool) → (lane == lane_of lanes job) ≡ same
        → (length (jobs_of_lane lanes lane (jobs ++ job ∷ [])) + (get_or (set ends (lane_of lanes job) next) lane no_piece).room) % size ≡ 0
    by_count lane below true same =
        let one = same_number lane (lane_of lanes job) same in
        rw (here lane one, one) (counts_more lanes size some jobs job works end counts behind)
    by_count lane below false different =
        let apart = other_number lane (lane_of lanes job) different in
        rw (get_or-set_other ends (lane_of lanes job) lane next no_piece apart)
        (counts_other lanes size some jobs job works end counts behind lane (get_or ends lane no_piece).room apart (placed.counts lane below))
