-- Pieces, with one job more.
use Rattle.std.proofs.Common.{◌≡◌, ℕ, zero, suc, ◌<◌, ◌==◌, nat_lt, Bool, true, false, ◌&&◌, cond, if◌then◌else◌, List, [], ◌∷◌, ◌++◌, length, map, take, refl, ap, arith, append_assoc}
use Rattle.std.proofs.Math.Seq.{take-nil}
use Rattle.std.proofs.lemmas.List.{append-nil}
use Rattle.std.proofs.lemmas.List.Elements.{filter-append}
use Rattle.std.proofs.lemmas.Bool.Decides.{nat_tests}
use Rattle.ota_core.specs.declared.jobs.Job.{Job}
use Rattle.senders.specs.declared.pieces.Work.{Work}
use Rattle.campaigns.specs.WorkList.{lane_of, jobs_of_lane, begins_piece, piece_from, pieces_of}
use Rattle.campaigns.specs.Batching.{joined}

pub same_test : (a : ℕ) → (a == a) ≡ true
same_test a = grind (arith, nat_tests)

other_way : (a b : ℕ) → (a == b) ≡ (b == a)
other_way a b = grind (arith, nat_tests)

pub is_below : (a b : ℕ) → a < b → nat_lt a b ≡ true
is_below a b below = grind (arith, nat_tests, below)

below_both : (a b : ℕ) → nat_lt (suc a) (suc b) ≡ nat_lt a b
below_both a b = grind (arith, nat_tests)

-- the first elements, with one element more
take_push : {X : Type 0} (n : ℕ) (xs : List X) (x : X)
    → take n (xs ++ x ∷ []) ≡ (if nat_lt (length (take n xs)) n then take n xs ++ x ∷ [] else take n xs)
take_push zero xs x = refl
take_push (suc n) [] x = rw (is_below 0 (suc n) (omega arith)) (ap (λ rest. x ∷ rest) (take-nil n))
take_push (suc n) (y ∷ xs) x = rw (below_both (length (take n xs)) n, take_push n xs x) (by_test (nat_lt (length (take n xs)) n))
  where
    by_test : (room : Bool) → y ∷ (if room then take n xs ++ x ∷ [] else take n xs) ≡ (if room then y ∷ take n xs ++ x ∷ [] else y ∷ take n xs)
    by_test true = refl
    by_test false = refl

-- a piece with the job, where it is of its lane and takes more jobs
abbrev pub with_job : ℕ → ℕ → Job → Work → Work
with_job size lane job work = if (work.lane == lane) && nat_lt (length work.jobs) size then joined work job else work

module _ (lanes size : ℕ) (some : 0 < size) where
  pub lane_push : (lane : ℕ) (jobs : List Job) (job : Job)
      → jobs_of_lane lanes lane (jobs ++ job ∷ []) ≡ jobs_of_lane lanes lane jobs ++ cond (lane_of lanes job == lane) (job ∷ []) []
  lane_push lane jobs job = filter-append (λ other. lane_of lanes other == lane) jobs (job ∷ [])

  -- a piece that begins earlier
  piece_push : (lane : ℕ) (jobs : List Job) (job : Job)
      → piece_from lanes size lane (jobs ++ job ∷ []) ≡ with_job size (lane_of lanes job) job (piece_from lanes size lane jobs)
  piece_push lane jobs job =
      rw (lane_push lane jobs job, other_way lane (lane_of lanes job)) (by_lane (lane_of lanes job == lane))
    where
      there : List Job
      there = jobs_of_lane lanes lane jobs

      piece : List Job → Work
      piece taken = record { lane = lane; jobs = taken }

      by_room : (room : Bool) → piece (if room then take size there ++ job ∷ [] else take size there) ≡ (if room then joined (piece (take size there)) job else piece (take size there))
      by_room true = refl
      by_room false = refl

      by_lane : (same : Bool) → piece (take size (there ++ cond same (job ∷ []) []))
          ≡ (if same && nat_lt (length (take size there)) size then joined (piece (take size there)) job else piece (take size there))
      by_lane true = rw (take_push size there job) (by_room (nat_lt (length (take size there)) size))
      by_lane false = rw (append-nil there) refl

  take_first : {X : Type 0} (x : X) → take size (x ∷ []) ≡ x ∷ []
  take_first x = by_size size some
    where
      by_size : (n : ℕ) → 0 < n → take n (x ∷ []) ≡ x ∷ []
      by_size zero none = absurd (omega (arith, none))
      by_size (suc n) more = ap (λ rest. x ∷ rest) (take-nil n)

  -- a piece that the job begins
  piece_first : (job : Job) → piece_from lanes size (lane_of lanes job) (job ∷ []) ≡ record { lane = lane_of lanes job; jobs = job ∷ [] }
  piece_first job = rw (same_test (lane_of lanes job), take_first job) refl

  -- the pieces with one job more
  pub pieces_push : (before jobs : List Job) (job : Job)
      → pieces_of lanes size before (jobs ++ job ∷ [])
      ≡ map (with_job size (lane_of lanes job) job) (pieces_of lanes size before jobs)
      ++ (if begins_piece lanes size (before ++ jobs) job then record { lane = lane_of lanes job; jobs = job ∷ [] } ∷ [] else [])
  pieces_push before [] job =
      rw (append-nil before, piece_first job)
      (append-nil (if begins_piece lanes size before job then record { lane = lane_of lanes job; jobs = job ∷ [] } ∷ [] else []))
  pieces_push before (first ∷ jobs) job =
      rw (pieces_push (before ++ first ∷ []) jobs job, append_assoc before (first ∷ []) jobs, piece_push (lane_of lanes first) (first ∷ jobs) job)
      (by_test (begins_piece lanes size before first) (pieces_of lanes size (before ++ first ∷ []) jobs)
      (if begins_piece lanes size (before ++ first ∷ jobs) job then record { lane = lane_of lanes job; jobs = job ∷ [] } ∷ [] else []))
    where
      piece : Work
      piece = piece_from lanes size (lane_of lanes first) (first ∷ jobs)

      by_test : (begins : Bool) (later new : List Work)
          → (if begins then with_job size (lane_of lanes job) job piece ∷ [] else []) ++ (map (with_job size (lane_of lanes job) job) later ++ new)
          ≡ map (with_job size (lane_of lanes job) job) ((if begins then piece ∷ [] else []) ++ later) ++ new
      by_test true later new = refl
      by_test false later new = refl
