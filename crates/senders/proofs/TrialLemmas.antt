-- Why the sessions of the tests may be given to senders.
use Rattle.std.proofs.Common.{◌≡◌, ◌≢◌, Bool, true, false, ◌&&◌, ◌||◌, ◌==◌, cond, ℕ, zero, suc, ◌+◌, ◌%◌, ◌<◌, ◌≤◌, All, Option, Some, None, inl, inr, List, [], ◌∷◌, ◌++◌, length, reverse, refl, sym, ◌∙◌, ap, subst, arith, append_assoc, length-append, eq-eqb}
use Rattle.std.proofs.lemmas.Bool.Decides.{nat_tests}
use Rattle.std.proofs.lemmas.List.Sums.{count_by-le-length}
use Rattle.std.proofs.Math.Nat.{mod-eq_of_lt}
use Rattle.std.specs.Option.{option_or, unwrap_or}
use Rattle.disk_model.specs.Counts.{Counts}
use Rattle.disk_model.specs.Disk.{Meaning, Tells, untold}
use Rattle.ota_core.specs.History.{next_counter}
use Rattle.ota_core.specs.Job.{is_same_job}
use Rattle.ota_core.specs.Keyset.{Keyset, is_same_keyset}
use Rattle.ota_core.specs.Questions.{state_of}
use Rattle.ota_core.specs.declared.entries.Entry.{Entry}
use Rattle.ota_core.specs.declared.entries.Entry.TheVariants.{Open}
use Rattle.ota_core.specs.declared.jobs.Job.{Job}
use Rattle.ota_core.specs.declared.jobs.JobId.{JobId}
use Rattle.ota_core.specs.declared.keysets.KeysetFacts.{KeysetFacts}
use Rattle.ota_core.specs.declared.questions.KeysetState.TheVariants as state
use Rattle.site_model.specs.Port.{PortState}
use Rattle.world_core.specs.declared.lines.Line.{Line}
use Rattle.lane_lock.specs.Numbers.{Each, IsIn}
use Rattle.lane_lock.proofs.Trials.{all_from_each}
use Rattle.lane_engine.specs.Adding.{IsAdded, moment_for}
use Rattle.lane_engine.specs.Kept.{IsLater}
use Rattle.lane_engine.specs.LaneValue.{LaneValue}
use Rattle.lane_engine.specs.Opened.{IsNew, opening_of}
use Rattle.lane_engine.specs.Opening.{Opening}
use Rattle.lane_engine.specs.Reserving.{AreOthers, IsJobOf, JobsDiffer, opens_of}
use Rattle.senders.specs.Pieces.{EachAt, IsPiece, IsWatch, MayBeWorked, MayReserve, all_jobs, jobs_at}
use Rattle.senders.specs.Trials.{AreTrialPieces, AreTrials, AreWatched, IsBegun, IsTrial, IsTrialPiece, id_for, keyset_for}
use Rattle.senders.specs.declared.pieces.Work.{Work}

-- ---- numbers

-- jobs are numbered on from this one, whatever their lanes
abbrev AreOn : ℕ → List Job → Type 0
AreOn from [] = Unit {0}
AreOn from (job ∷ jobs) = (job.id ≡ id_for from) × AreOn (from + 1) jobs

on_trials : (lane from : ℕ) (jobs : List Job) → AreTrials lane from jobs → AreOn from jobs
on_trials lane from [] are = tt
on_trials lane from (job ∷ jobs) are = (are.0.id, on_trials lane (from + 1) jobs are.1)

on_append : (from : ℕ) (xs ys : List Job) → AreOn from xs → AreOn (from + length xs) ys → AreOn from (xs ++ ys)
on_append from [] ys first then_on = subst (λ (n : ℕ). AreOn n ys) (omega arith) then_on
on_append from (x ∷ xs) ys first then_on = (first.0, on_append (from + 1) xs ys first.1 (subst (λ (n : ℕ). AreOn n ys) (omega arith) then_on))

other_number : (low from : ℕ) → low < from → is_same_job (id_for from) (id_for low) ≡ false
other_number low from lt = grind (arith, nat_tests, lt)

others_on : (low from : ℕ) (jobs : List Job) → low < from → AreOn from jobs → AreOthers (id_for low) jobs
others_on low from [] lt on = tt
others_on low from (job ∷ jobs) lt on =
    (ap (λ (id : JobId). is_same_job id (id_for low)) on.0 ∙ other_number low from lt, others_on low (from + 1) jobs (omega (arith, lt)) on.1)

differ_on : (from : ℕ) (jobs : List Job) → AreOn from jobs → JobsDiffer jobs
differ_on from [] on = tt
differ_on from (job ∷ jobs) on = (subst (λ (id : JobId). AreOthers id jobs) (sym on.0) (others_on from (from + 1) jobs (omega arith) on.1), differ_on (from + 1) jobs on.1)

-- ---- lists that grow

pub trials_more : (lane from : ℕ) (jobs : List Job) (job : Job) → AreTrials lane from jobs → IsTrial lane (from + length jobs) job → AreTrials lane from (jobs ++ job ∷ [])
trials_more lane from [] job are is = (subst (λ (n : ℕ). IsTrial lane n job) (omega arith) is, tt)
trials_more lane from (x ∷ xs) job are is = (are.0, trials_more lane (from + 1) xs job are.1 (subst (λ (n : ℕ). IsTrial lane n job) (omega arith) is))

pub jobs_more : (works : List Work) (work : Work) → all_jobs (works ++ work ∷ []) ≡ all_jobs works ++ work.jobs
jobs_more [] work = Rattle.std.proofs.Common.append-nil work.jobs
jobs_more (w ∷ works) work = ap (λ (l : List Job). w.jobs ++ l) (jobs_more works work) ∙ sym (append_assoc w.jobs (all_jobs works) work.jobs)

pub count_jobs : (works : List Work) (work : Work) → length (all_jobs (works ++ work ∷ [])) ≡ length (all_jobs works) + length work.jobs
count_jobs works work = ap (λ (l : List Job). length l) (jobs_more works work) ∙ length-append (all_jobs works) work.jobs

pub pieces_more : (batch lanes from : ℕ) (works : List Work) (work : Work) → AreTrialPieces batch lanes from works → IsTrialPiece batch lanes (from + length (all_jobs works)) work
    → AreTrialPieces batch lanes from (works ++ work ∷ [])
pieces_more batch lanes from [] work are is = (subst (λ (n : ℕ). IsTrialPiece batch lanes n work) (omega arith) is, tt)
pieces_more batch lanes from (w ∷ works) work are is = (
  are.0,
  pieces_more batch lanes (from + length w.jobs) works work are.1
      (subst (λ (n : ℕ). IsTrialPiece batch lanes n work) (let a = length-append w.jobs (all_jobs works) in omega (arith, a)) is),
)

pub watched_more : (lanes from : ℕ) (watch : List (ℕ × JobId)) (watched : ℕ × JobId) → AreWatched lanes from watch → watched.0 < lanes → watched.1 ≡ id_for (from + length watch)
    → AreWatched lanes from (watch ++ watched ∷ [])
watched_more lanes from [] watched are there is = (there, is ∙ ap id_for (omega arith), tt)
watched_more lanes from (w ∷ watch) watched are there is = (are.0, are.1, watched_more lanes (from + 1) watch watched are.2 there (is ∙ ap id_for (omega arith)))

pub at_more : {A : Type 0} (P : ℕ → A → Type 0) (from : ℕ) (xs : List A) (x : A) → EachAt P from xs → P (from + length xs) x → EachAt P from (xs ++ x ∷ [])
at_more P from [] x all now = (subst (λ (n : ℕ). P n x) (omega arith) now, tt)
at_more P from (y ∷ ys) x all now = (all.0, at_more P (from + 1) ys x all.1 (subst (λ (n : ℕ). P n x) (omega arith) now))

-- ---- a lane that begins

pub none_in : {A : Type 0} (xs : List A) → length xs ≤ 0 → xs ≡ []
none_in [] none = refl
none_in (x ∷ xs) none = absurd (omega (arith, none))

-- the one keyset is of a card of the lane
pub one_of_lane : (keyset : Keyset) (facts : KeysetFacts) (place lanes at among : ℕ) → keyset ≡ keyset_for place → place < lanes → at ≡ place → among ≡ lanes
    → All (λ (k : Keyset × KeysetFacts). k.0.card.0 % among ≡ at) ((keyset, facts) ∷ [])
one_of_lane keyset facts place lanes at among is lt at_is among_is zero d below =
    ap (λ (k : Keyset). k.card.0 % among) is ∙ (ap (λ (n : ℕ). place % n) among_is ∙ (mod-eq_of_lt lt ∙ sym at_is))
one_of_lane keyset facts place lanes at among is lt at_is among_is (suc k) d below = absurd (omega (arith, below))

pub begun_of : {D B C : Type 0} (told : Meaning D B C) (counts : D → Counts) (port : B → PortState) (lines : C → ℕ → List Line) (site : D) (place lanes clock ready : ℕ) (opened new : LaneValue D)
    (keyset : Keyset) (facts : KeysetFacts) → IsNew place lanes opened → opened.opened ≡ opening_of opened clock ready (counts site)
    → (counts site).faults ≤ (counts opened.site).faults → (counts site).wants ≤ (counts opened.site).wants → opened.journal.entries ≡ [] → keyset ≡ keyset_for place → facts.base ≡ 0
    → IsAdded opened new (opens_of 0 (moment_for opened) (reverse opened.journal.entries) ((keyset, facts) ∷ [])) → IsLater told counts port lines opened new
    → IsBegun counts lanes place new
begun_of told counts port lines site place lanes clock ready opened new keyset facts is_new opening faults wants none is based added later = record {
  lane_is = later.lane ∙ is_new.lane_is;
  lanes_are = later.lanes ∙ is_new.lanes_are;
  faults = let a = ap (λ (o : Opening). o.counts.faults) (added.rest.settings.opened ∙ opening) in let b = later.faults in omega (arith, a, b, faults);
  wants = let a = ap (λ (o : Opening). o.counts.wants) (added.rest.settings.opened ∙ opening) in let b = later.wants in omega (arith, a, b, wants);
  name = added.rest.settings.name ∙ is_new.name;
  end = added.rest.settings.end ∙ is_new.end;
  live = added.is_stale;
  lost = added.lost ∙ is_new.lost;
  moment = moment_for opened;
  facts = facts;
  base = based;
  entries = added.entries ∙ (ap (λ (l : List Entry). l ++ opens_of 0 (moment_for opened) (reverse l) ((keyset, facts) ∷ [])) none ∙ ap (λ (k : Keyset). Open 0 (moment_for opened) k facts ∷ []) is);
}

-- ---- what work asks of pieces and of watched jobs

jobs_of_lane : (lanes lane from : ℕ) (jobs : List Job) → lane < lanes → AreTrials lane from jobs → Each (IsJobOf lane lanes) jobs
jobs_of_lane lanes lane from [] lt are = tt
jobs_of_lane lanes lane from (job ∷ jobs) lt are = (
  record { of_lane = ap (λ (k : Keyset). k.card.0 % lanes) are.0.keyset ∙ mod-eq_of_lt lt; some = are.0.some; short = are.0.short },
  jobs_of_lane lanes lane (from + 1) jobs lt are.1,
)

are_pieces : (batch lanes from : ℕ) (works : List Work) → AreTrialPieces batch lanes from works → Each (IsPiece batch lanes) works
are_pieces batch lanes from [] are = tt
are_pieces batch lanes from (work ∷ works) are = (
  record {
    there = are.0.there;
    some = are.0.some;
    few = are.0.few;
    differ = differ_on from work.jobs (on_trials work.lane from work.jobs are.0.jobs);
    of_lane = all_from_each (IsJobOf work.lane lanes) work.jobs (jobs_of_lane lanes work.lane from work.jobs are.0.there are.0.jobs);
  },
  are_pieces batch lanes (from + length work.jobs) works are.1,
)

pub all_pieces : (batch lanes from : ℕ) (works : List Work) → AreTrialPieces batch lanes from works → All (IsPiece batch lanes) works
all_pieces batch lanes from works are = all_from_each (IsPiece batch lanes) works (are_pieces batch lanes from works are)

pieces_on : (batch lanes from : ℕ) (works : List Work) → AreTrialPieces batch lanes from works → AreOn from (all_jobs works)
pieces_on batch lanes from [] are = tt
pieces_on batch lanes from (work ∷ works) are =
    on_append from work.jobs (all_jobs works) (on_trials work.lane from work.jobs are.0.jobs) (pieces_on batch lanes (from + length work.jobs) works are.1)

pub pieces_differ : (batch lanes from : ℕ) (works : List Work) → AreTrialPieces batch lanes from works → JobsDiffer (all_jobs works)
pieces_differ batch lanes from works are = differ_on from (all_jobs works) (pieces_on batch lanes from works are)

others_watched : (lanes low from : ℕ) (watch : List (ℕ × JobId)) → low < from → AreWatched lanes from watch → Each (λ other. is_same_job other.1 (id_for low) ≡ false) watch
others_watched lanes low from [] lt are = tt
others_watched lanes low from (watched ∷ watch) lt are =
    (ap (λ (id : JobId). is_same_job id (id_for low)) are.1 ∙ other_number low from lt, others_watched lanes low (from + 1) watch (omega (arith, lt)) are.2)

pub may_watch : (lanes from : ℕ) (watch : List (ℕ × JobId)) → AreWatched lanes from watch → IsWatch lanes watch
may_watch lanes from [] are = tt
may_watch lanes from (watched ∷ watch) are = (
  are.0,
  subst (λ (id : JobId). Each (λ other. is_same_job other.1 id ≡ false) watch) (sym are.1) (others_watched lanes from (from + 1) watch (omega arith) are.2),
  may_watch lanes (from + 1) watch are.2,
)

-- ---- what it asks of lanes

few_at : (place : ℕ) (works : List Work) → length (jobs_at place works) ≤ length (all_jobs works)
few_at place [] = omega arith
few_at place (work ∷ works) = by_test (work.lane == place) (few_at place works)
  where
    by_test : (b : Bool) → length (jobs_at place works) ≤ length (all_jobs works) → length (cond b work.jobs [] ++ jobs_at place works) ≤ length (work.jobs ++ all_jobs works)
    by_test true rest = let a = length-append work.jobs (jobs_at place works) in let b = length-append work.jobs (all_jobs works) in omega (arith, a, b, rest)
    by_test false rest = let b = length-append work.jobs (all_jobs works) in omega (arith, b, rest)

both_parts : {A : Type 0} (P : A → Type 0) (xs ys : List A) → ((x : A) → IsIn x xs → P x) → ((x : A) → IsIn x ys → P x) → (x : A) → IsIn x (xs ++ ys) → P x
both_parts P [] ys first then_on x there = then_on x there
both_parts P (y ∷ xs) ys first then_on x (inl e) = first x (inl e)
both_parts P (y ∷ xs) ys first then_on x (inr there) = both_parts P xs ys (λ z h. first z (inr h)) then_on x there

keyset_in : (lane from : ℕ) (jobs : List Job) → AreTrials lane from jobs → (job : Job) → IsIn job jobs → job.keyset ≡ keyset_for lane
keyset_in lane from [] are job there = absurd there
keyset_in lane from (x ∷ jobs) are job (inl e) = ap (λ (j : Job). j.keyset) (sym e) ∙ are.0.keyset
keyset_in lane from (x ∷ jobs) are job (inr there) = keyset_in lane (from + 1) jobs are.1 job there

keyset_at : (batch lanes from place : ℕ) (works : List Work) → AreTrialPieces batch lanes from works → (job : Job) → IsIn job (jobs_at place works) → job.keyset ≡ keyset_for place
keyset_at batch lanes from place [] are job there = absurd there
keyset_at batch lanes from place (work ∷ works) are job there = by_test (work.lane == place) refl there (λ j h. keyset_at batch lanes (from + length work.jobs) place works are.1 j h)
  where
    by_test : (b : Bool) → (work.lane == place) ≡ b → IsIn job (cond b work.jobs [] ++ jobs_at place works) → ((j : Job) → IsIn j (jobs_at place works) → j.keyset ≡ keyset_for place)
        → job.keyset ≡ keyset_for place
    by_test true is here rest = both_parts (λ (j : Job). j.keyset ≡ keyset_for place) work.jobs (jobs_at place works)
        (λ j h. keyset_in work.lane from work.jobs are.0.jobs j h ∙ ap keyset_for (grind (arith, nat_tests, is))) rest job here
    by_test false is here rest = rest job here

same_keyset : (place : ℕ) → is_same_keyset (keyset_for place) (keyset_for place) ≡ true
same_keyset place = ap (λ (b : Bool). b && true) (eq-eqb place place refl)

module _ (place moment : ℕ) (facts : KeysetFacts) (based : facts.base ≡ 0) where
  abbrev Past : List Entry
  Past = Open 0 moment (keyset_for place) facts ∷ []

  is_open : state_of (keyset_for place) Past ≡ state.Open
  is_open = ap (λ (b : Bool). cond (b || false) state.Open state.New) (same_keyset place)

  first_next : (keyset : Keyset) → next_counter keyset Past ≤ 1
  first_next keyset = by_test (is_same_keyset (keyset_for place) keyset)
    where
      by_test : (b : Bool) → unwrap_or (option_or (cond b (Some facts.base) None) None) 0 + 1 ≤ 1
      by_test true = let is = based in omega (arith, is)
      by_test false = omega arith

-- the site of the tests tells nothing
pub nothing_told : {D : Type 0} (site : D) → Tells untold site → ⊥
nothing_told site tells = clash tells
  where
    clash : false ≡ true → ⊥
    clash h = cc

module _ {D B C : Type 0} (told : Meaning D B C) (counts : D → Counts) (port : B → PortState) (lines : C → ℕ → List Line) (silent : (site : D) → Tells told site → ⊥)
    (batch lanes count : ℕ) (works : List Work) (same : lanes ≡ count) (are : AreTrialPieces batch lanes 1 works) (few : length (all_jobs works) ≤ 1000) where
  may_reserve : (place : ℕ) (lane : LaneValue D) → IsBegun counts lanes place lane → MayReserve (reverse lane.journal.entries) (jobs_at place works)
  may_reserve place lane begun = subst (λ (l : List Entry). MayReserve (reverse l) (jobs_at place works)) (sym begun.entries) (record {
    in_use = λ job there. ap (λ (k : Keyset). state_of k (Open 0 begun.moment (keyset_for place) begun.facts ∷ [])) (keyset_at batch lanes 1 place works are job there) ∙ is_open place begun.moment begun.facts begun.base;
    free = λ job there. refl;
    counters = λ job there.
        let a = first_next place begun.moment begun.facts begun.base job.keyset in
        let b = count_by-le-length (λ (j : Job). is_same_keyset j.keyset job.keyset) (jobs_at place works) in
        let c = few_at place works in
        omega (arith, a, b, c, few);
  })

  may_be : (place : ℕ) (lane : LaneValue D) → IsBegun counts lanes place lane → MayBeWorked told counts port lines batch count works place lane
  may_be place lane begun = record {
    lane_is = begun.lane_is;
    lanes_are = begun.lanes_are ∙ same;
    at_home = record {
      faults = begun.faults;
      wants = begun.wants;
      short = let a = ap (λ (l : List ℕ). length l) begun.name in omega (arith, a);
      founded = λ end is. absurd (clash (sym begun.end ∙ is));
      live = λ none. begun.live;
      first = λ tells. absurd (silent lane.site tells);
      all = λ tells none. absurd (silent lane.site tells);
    };
    ended = λ end is. absurd (clash (sym begun.end ∙ is));
    whole = λ none. begun.lost;
    may = may_reserve place lane begun;
  }
    where
      clash : {A : Type 0} {x : A} → None ≡ Some x → ⊥
      clash h = cc

  pub may_work : (from : ℕ) (all : List (LaneValue D)) → EachAt (IsBegun counts lanes) from all → EachAt (MayBeWorked told counts port lines batch count works) from all
  may_work from [] begun = tt
  may_work from (lane ∷ all) begun = (may_be from lane begun.0, may_work (from + 1) all begun.1)
