-- Laws of all lanes, of which a row changes one.
use Rattle.std.proofs.Common.{◌≡◌, ◌≢◌, ℕ, ◌+◌, ◌%◌, ◌≤◌, ◌<◌, Bool, true, false, eqb, List, [], ◌∷◌, length, reverse, get_or, set, Option, Some, None, refl, inl, inr, sym, ap, subst, ◌∙◌, arith, below_more}
use Rattle.std.proofs.lemmas.Bool.{eqb-true, eqb-false, cases_lt}
use Rattle.std.proofs.lemmas.List.{get_or-set_same, get_or-set_other, get_or_default, length-set}
use Rattle.disk_model.specs.Counts.{Counts}
use Rattle.disk_model.specs.Disk.{Meaning}
use Rattle.gate_log.specs.declared.log_errors.LogErr.{LogErr}
use Rattle.ota_core.specs.declared.jobs.Job.{Job}
use Rattle.plan_reader.specs.declared.plans.Plan.{Plan}
use Rattle.lane_session.specs.Rows.{Among}
use Rattle.lane_session.specs.Due.{is_served}
use Rattle.lane_session.specs.Run.{IsRowStep, IsLaneReady, IsPassed, AreServed}
use Rattle.lane_session.specs.Opens.{AreOpened}
use Rattle.lane_session.specs.Lanes.{AreReady, ArePassed, AllServed}
use Rattle.lane_session.specs.declared.lanes.Lane.{Lane}
use Rattle.lane_session.proofs.RunLaws.{run_start}
use Rattle.lane_session.proofs.RowLaws.{row_run, row_served, stays_served, run_joined}

-- an element of a list that has one
pub first_of : {A : Type 0} (xs : List A) → 0 < length xs → A
first_of [] none = absurd (omega arith)
first_of (x ∷ xs) some = x

is_some_end : (error : LogErr) (end : Option LogErr) → end ≡ Some error → end ≢ None
is_some_end error end is none = some_none (sym is ∙ none)
  where
    some_none : Some error ≡ None → ⊥
    some_none e = cc

module _ {D B C : Type 0} (told : Meaning D B C) (counts : D → Counts) (plan : Plan) (jobs : List Job) where
  -- before anything was done
  pub start_of : (k n : ℕ) (site : D) (lane : Lane) (end : Option LogErr) → lane.end ≡ end → IsLaneReady told counts k n site lane → IsPassed told counts plan jobs k n site lane site lane
  start_of k n site lane None is ready = inr (is, run_start told counts plan jobs k n site lane ready is)
  start_of k n site lane (Some error) is ready = inl (is_some_end error lane.end is, refl, refl)

  pub passed_start : (sites : List D) (lanes : List Lane) → AreReady told counts sites lanes → ArePassed told counts plan jobs sites lanes sites lanes
  passed_start sites lanes ready = record {
    same_lanes = refl;
    same_sites = refl;
    each = λ k start site before lane below. start_at k start site before lane below;
  }
    where
      start_at : (k : ℕ) (start site : D) (before lane : Lane) → k < length lanes → IsPassed told counts plan jobs k (length lanes) (get_or sites k start) (get_or lanes k before) (get_or sites k site) (get_or lanes k lane)
      start_at k start site before lane below =
          subst (λ (d : D). IsPassed told counts plan jobs k (length lanes) (get_or sites k start) (get_or lanes k before) d (get_or lanes k lane)) (get_or_default sites k start site (omega (arith, below, ready.each_site)))
          (subst (IsPassed told counts plan jobs k (length lanes) (get_or sites k start) (get_or lanes k before) (get_or sites k start)) (get_or_default lanes k before lane below)
          (start_of k (length lanes) (get_or sites k start) (get_or lanes k before) (get_or lanes k before).end refl (ready.each k start before below)))

  -- a lane stays ready
  pub passed_ready : (k n : ℕ) (start site : D) (before lane : Lane) → IsLaneReady told counts k n start before → IsPassed told counts plan jobs k n start before site lane → IsLaneReady told counts k n site lane
  passed_ready k n start site before lane ready (inl same) =
      subst (λ (d : D). IsLaneReady told counts k n d lane) (sym same.1) (subst (IsLaneReady told counts k n start) (sym same.2) ready)
  passed_ready k n start site before lane ready (inr run) = record {
    lane_is = run.1.lane_is;
    lanes_are = run.1.lanes_are;
    ready = λ tells. run.1.ready (sym run.1.tells ∙ tells);
  }

  -- where a lane has an end, a row does nothing
  passed_row : (k n : ℕ) (start site new : D) (before lane after : Lane) (job : Job) → Among job jobs → job.keyset.card.0 % n ≡ k
      → IsPassed told counts plan jobs k n start before site lane → IsRowStep told counts site new lane after job → IsPassed told counts plan jobs k n start before new after
  passed_row k n start site new before lane after job among of_lane (inl same) (inl still) = inl (same.0, still.0 ∙ same.1, still.1 ∙ same.2)
  passed_row k n start site new before lane after job among of_lane (inl same) (inr (inl wants)) = absurd (same.0 (ap (λ (l : Lane). l.end) (sym same.2) ∙ wants.1))
  passed_row k n start site new before lane after job among of_lane (inl same) (inr (inr adds)) = absurd (same.0 (ap (λ (l : Lane). l.end) (sym same.2) ∙ adds.0))
  passed_row k n start site new before lane after job among of_lane (inr run) step =
      inr (run.0, row_run told counts plan jobs k n start before.journal.entries site new lane after job run.1 among of_lane step)

  module _ (starts sites : List D) (befores lanes : List Lane) (at : ℕ) (new : D) (after : Lane) (job : Job) (s : D) (l : Lane)
      (within : at < length befores) (each_site : length starts ≡ length befores) (among : Among job jobs) (of_lane : job.keyset.card.0 % length befores ≡ at) (passed : ArePassed told counts plan jobs starts befores sites lanes)
      (step : IsRowStep told counts (get_or sites at s) new (get_or lanes at l) after job) where
    at_place : (k : ℕ) (start site : D) (before lane : Lane) → k < length befores → (same : Bool) → eqb k at ≡ same
        → IsPassed told counts plan jobs k (length befores) (get_or starts k start) (get_or befores k before) (get_or (set sites at new) k site) (get_or (set lanes at after) k lane)
    at_place k start site before lane below true same =
        let is : k ≡ at = eqb-true k at same in
        let here = passed.each k start s before l below in
        let moved : IsRowStep told counts (get_or sites k s) new (get_or lanes k l) after job = subst (λ (m : ℕ). IsRowStep told counts (get_or sites m s) new (get_or lanes m l) after job) (sym is) step in
        let done = passed_row k (length befores) (get_or starts k start) (get_or sites k s) new (get_or befores k before) (get_or lanes k l) after job among (of_lane ∙ sym is) here moved in
        let site-is : get_or (set sites at new) k site ≡ new = ap (λ (m : ℕ). get_or (set sites m new) k site) (sym is) ∙ get_or-set_same sites k new site (omega (arith, below, passed.same_sites, each_site)) in
        let lane-is : get_or (set lanes at after) k lane ≡ after = ap (λ (m : ℕ). get_or (set lanes m after) k lane) (sym is) ∙ get_or-set_same lanes k after lane (omega (arith, below, passed.same_lanes)) in
        subst (λ (d : D). IsPassed told counts plan jobs k (length befores) (get_or starts k start) (get_or befores k before) d (get_or (set lanes at after) k lane)) (sym site-is)
        (subst (IsPassed told counts plan jobs k (length befores) (get_or starts k start) (get_or befores k before) new) (sym lane-is) done)
    at_place k start site before lane below false same =
        let other : k ≢ at = eqb-false k at same in
        subst (λ (d : D). IsPassed told counts plan jobs k (length befores) (get_or starts k start) (get_or befores k before) d (get_or (set lanes at after) k lane)) (sym (get_or-set_other sites at k new site other))
        (subst (IsPassed told counts plan jobs k (length befores) (get_or starts k start) (get_or befores k before) (get_or sites k site)) (sym (get_or-set_other lanes at k after lane other))
        (passed.each k start site before lane below))

    pub passed_set : ArePassed told counts plan jobs starts befores (set sites at new) (set lanes at after)
    passed_set = record {
      same_lanes = length-set lanes at after ∙ passed.same_lanes;
      same_sites = length-set sites at new ∙ passed.same_sites;
      each = λ k start site before lane below. at_place k start site before lane below (eqb k at) refl;
    }

before_end : {D B C : Type 0} (told : Meaning D B C) (counts : D → Counts) (old new : D) (before after : Lane) (job : Job) → IsRowStep told counts old new before after job → after.end ≡ None → before.end ≡ None
before_end told counts old new before after job (inl same) none = ap (λ (l : Lane). l.end) (sym same.1) ∙ none
before_end told counts old new before after job (inr (inl wants)) none = wants.1
before_end told counts old new before after job (inr (inr adds)) none = adds.0

module _ {D B C : Type 0} (told : Meaning D B C) (counts : D → Counts) (jobs : List Job) (lanes : List Lane) (old new : D) (at count : ℕ) (after : Lane) (job : Job) (l : Lane)
    (within : at < length lanes) (is_row : job ≡ get_or jobs count job) (in_jobs : count < length jobs) (of_lane : job.keyset.card.0 % length lanes ≡ at)
    (served : AllServed jobs count lanes) (step : IsRowStep told counts old new (get_or lanes at l) after job) where
  row_at : (other : Job) → get_or jobs count other ≡ job
  row_at other = get_or_default jobs count other job in_jobs ∙ sym is_row

  -- the rows so far on the lane of the row
  here : (lane : Lane) → (i : ℕ) (other : Job) → after.end ≡ None → i < count + 1 → i < length jobs → (get_or jobs i other).keyset.card.0 % length lanes ≡ at
      → is_served (reverse after.journal.entries) (get_or jobs i other) ≡ true
  here lane i other goes_on below within_jobs of =
      elim (cases_lt i count) [
        | inl early ↦ stays_served told counts old new (get_or lanes at l) after job (get_or jobs i other) step
            (served at l within (before_end told counts old new (get_or lanes at l) after job step goes_on) i other early within_jobs of)
        | inr late ↦ subst (λ (row : Job). is_served (reverse after.journal.entries) row ≡ true) (sym (ap (λ (n : ℕ). get_or jobs n other) (is_count i below late) ∙ row_at other))
            (row_served told counts old new (get_or lanes at l) after job step goes_on)
      ]
    where
      is_count : (i : ℕ) → i < count + 1 → count ≤ i → i ≡ count
      is_count i below late = omega arith

  -- and on another lane
  there : (k : ℕ) (lane : Lane) → k < length lanes → k ≢ at → (get_or lanes k lane).end ≡ None → (i : ℕ) (other : Job) → i < count + 1 → i < length jobs → (get_or jobs i other).keyset.card.0 % length lanes ≡ k
      → is_served (reverse (get_or lanes k lane).journal.entries) (get_or jobs i other) ≡ true
  there k lane k_within differs goes_on i other below within_jobs of =
      elim (cases_lt i count) [
        | inl early ↦ served k lane k_within goes_on i other early within_jobs of
        | inr late ↦ absurd (differs (sym of ∙ ap (λ (row : Job). row.keyset.card.0 % length lanes) (ap (λ (n : ℕ). get_or jobs n other) (is_count i below late) ∙ row_at other) ∙ of_lane))
      ]
    where
      is_count : (i : ℕ) → i < count + 1 → count ≤ i → i ≡ count
      is_count i below late = omega arith

  served_at : (k : ℕ) (lane : Lane) → k < length lanes → (same : Bool) → eqb k at ≡ same → AreServed k (length lanes) jobs (count + 1) (get_or (set lanes at after) k lane)
  served_at k lane k_within true same =
      let is : k ≡ at = eqb-true k at same in
      let lane-is : get_or (set lanes at after) k lane ≡ after = ap (λ (m : ℕ). get_or (set lanes m after) k lane) (sym is) ∙ get_or-set_same lanes k after lane k_within in
      subst (AreServed k (length lanes) jobs (count + 1)) (sym lane-is) (λ goes_on i other below within_jobs of. here lane i other goes_on below within_jobs (of ∙ is))
  served_at k lane k_within false same =
      let other_lane : k ≢ at = eqb-false k at same in
      subst (AreServed k (length lanes) jobs (count + 1)) (sym (get_or-set_other lanes at k after lane other_lane)) (λ goes_on i other below within_jobs of. there k lane k_within other_lane goes_on i other below within_jobs of)

  pub served_set : AllServed jobs (count + 1) (set lanes at after)
  served_set k lane below =
      subst (λ (n : ℕ). AreServed k n jobs (count + 1) (get_or (set lanes at after) k lane)) (sym (length-set lanes at after))
      (served_at k lane (omega (arith, below, length-set lanes at after)) (eqb k at) refl)

-- ---- lane by lane

-- the lanes below a number are done, and those from it on are as they were
pub record OpenedBelow {D B C : Type 0} (told : Meaning D B C) (plan : Plan) (jobs : List Job) (starts : List D) (befores : List Lane) (sites : List D) (lanes : List Lane) (number : ℕ) : Type 0 where
  pub done : (k : ℕ) (lane : Lane) → k < number → k < length befores → AreOpened plan jobs k (length befores) (length jobs) (get_or lanes k lane) []
  pub same_site : (k : ℕ) (site : D) → number ≤ k → get_or sites k site ≡ get_or starts k site
  pub same_lane : (k : ℕ) (lane : Lane) → number ≤ k → get_or lanes k lane ≡ get_or befores k lane

pub opened_none : {D B C : Type 0} (told : Meaning D B C) (plan : Plan) (jobs : List Job) (starts : List D) (befores : List Lane) → OpenedBelow told plan jobs starts befores starts befores 0
opened_none told plan jobs starts befores = record {
  done = λ k lane below within. absurd (omega (arith, below));
  same_site = λ k site from. refl;
  same_lane = λ k lane from. refl;
}

module _ {D B C : Type 0} (told : Meaning D B C) (counts : D → Counts) (plan : Plan) (jobs : List Job) (starts sites : List D) (befores lanes : List Lane) (number : ℕ) (new : D) (after : Lane) (s : D) (l : Lane)
    (within : number < length befores) (each_site : length starts ≡ length befores) (passed : ArePassed told counts plan jobs starts befores sites lanes) (opened : OpenedBelow told plan jobs starts befores sites lanes number)
    (step : IsPassed told counts plan jobs number (length befores) (get_or sites number s) (get_or lanes number l) new after) (now_open : AreOpened plan jobs number (length befores) (length jobs) after []) where
  next_at : (k : ℕ) (start site : D) (before lane : Lane) → k < length befores → (same : Bool) → eqb k number ≡ same
      → IsPassed told counts plan jobs k (length befores) (get_or starts k start) (get_or befores k before) (get_or (set sites number new) k site) (get_or (set lanes number after) k lane)
  next_at k start site before lane below true same =
      let is : k ≡ number = eqb-true k number same in
      let site-is : get_or (set sites number new) k site ≡ new = ap (λ (m : ℕ). get_or (set sites m new) k site) (sym is) ∙ get_or-set_same sites k new site (omega (arith, below, passed.same_sites, each_site)) in
      let lane-is : get_or (set lanes number after) k lane ≡ after = ap (λ (m : ℕ). get_or (set lanes m after) k lane) (sym is) ∙ get_or-set_same lanes k after lane (omega (arith, below, passed.same_lanes)) in
      let site-was : get_or sites k s ≡ get_or starts k start = opened.same_site k s (omega (arith, is)) ∙ get_or_default starts k s start (omega (arith, below, each_site)) in
      let lane-was : get_or lanes k l ≡ get_or befores k before = opened.same_lane k l (omega (arith, is)) ∙ get_or_default befores k l before below in
      let moved : IsPassed told counts plan jobs k (length befores) (get_or sites k s) (get_or lanes k l) new after = subst (λ (m : ℕ). IsPassed told counts plan jobs m (length befores) (get_or sites m s) (get_or lanes m l) new after) (sym is) step in
      subst (λ (d : D). IsPassed told counts plan jobs k (length befores) (get_or starts k start) (get_or befores k before) d (get_or (set lanes number after) k lane)) (sym site-is)
      (subst (IsPassed told counts plan jobs k (length befores) (get_or starts k start) (get_or befores k before) new) (sym lane-is)
      (subst (λ (d : D). IsPassed told counts plan jobs k (length befores) d (get_or befores k before) new after) site-was
      (subst (λ (b : Lane). IsPassed told counts plan jobs k (length befores) (get_or sites k s) b new after) lane-was moved)))
  next_at k start site before lane below false same =
      let other : k ≢ number = eqb-false k number same in
      subst (λ (d : D). IsPassed told counts plan jobs k (length befores) (get_or starts k start) (get_or befores k before) d (get_or (set lanes number after) k lane)) (sym (get_or-set_other sites number k new site other))
      (subst (IsPassed told counts plan jobs k (length befores) (get_or starts k start) (get_or befores k before) (get_or sites k site)) (sym (get_or-set_other lanes number k after lane other))
      (passed.each k start site before lane below))

  pub next_passed : ArePassed told counts plan jobs starts befores (set sites number new) (set lanes number after)
  next_passed = record {
    same_lanes = length-set lanes number after ∙ passed.same_lanes;
    same_sites = length-set sites number new ∙ passed.same_sites;
    each = λ k start site before lane below. next_at k start site before lane below (eqb k number) refl;
  }

  -- the lane of this number is done
  abbrev IsDoneAt : ℕ → Type 0
  IsDoneAt k = (lane : Lane) → k < length befores → AreOpened plan jobs k (length befores) (length jobs) (get_or (set lanes number after) k lane) []

  done_here : IsDoneAt number
  done_here lane in_lanes =
      subst (λ (b : Lane). AreOpened plan jobs number (length befores) (length jobs) b []) (sym (get_or-set_same lanes number after lane (omega (arith, in_lanes, passed.same_lanes)))) now_open

  done_below : (k : ℕ) → k < number → IsDoneAt k
  done_below k below lane in_lanes =
      subst (λ (b : Lane). AreOpened plan jobs k (length befores) (length jobs) b []) (sym (get_or-set_other lanes number k after lane (λ is. absurd (omega (arith, below, is))))) (opened.done k lane below in_lanes)

  pub next_opened : OpenedBelow told plan jobs starts befores (set sites number new) (set lanes number after) (number + 1)
  next_opened = record {
    done = λ k lane below in_lanes. below_more IsDoneAt number done_below done_here k below lane in_lanes;
    same_site = λ k site from. get_or-set_other sites number k new site (above k from) ∙ opened.same_site k site (omega (arith, from));
    same_lane = λ k lane from. get_or-set_other lanes number k after lane (above k from) ∙ opened.same_lane k lane (omega (arith, from));
  }
    where
      above : (k : ℕ) → number + 1 ≤ k → k ≢ number
      above k from is = absurd (omega (arith, from, is))

-- ---- one part of a session after another

passed_then : {D B C : Type 0} (told : Meaning D B C) (counts : D → Counts) (plan : Plan) (jobs : List Job) (k n : ℕ) (start mid new : D) (before m after : Lane)
    → IsPassed told counts plan jobs k n start before mid m → IsPassed told counts plan jobs k n mid m new after → IsPassed told counts plan jobs k n start before new after
passed_then {D = D} told counts plan jobs k n start mid new before m after first (inl same) =
    subst (λ (d : D). IsPassed told counts plan jobs k n start before d after) (sym same.1) (subst (IsPassed told counts plan jobs k n start before mid) (sym same.2) first)
passed_then told counts plan jobs k n start mid new before m after (inl was) (inr run) = absurd (was.0 (ap (λ (l : Lane). l.end) (sym was.2) ∙ run.0))
passed_then told counts plan jobs k n start mid new before m after (inr one) (inr run) =
    inr (one.0, run_joined told counts plan jobs k n start before.journal.entries mid m new after one.1 run.0 run.1)

module _ {D B C : Type 0} (told : Meaning D B C) (counts : D → Counts) (plan : Plan) (jobs : List Job) (starts mids news : List D) (befores middles lanes : List Lane) where
  pub all_joined : length starts ≡ length befores → ArePassed told counts plan jobs starts befores mids middles → ArePassed told counts plan jobs mids middles news lanes → ArePassed told counts plan jobs starts befores news lanes
  all_joined each_site first second = record {
    same_lanes = second.same_lanes ∙ first.same_lanes;
    same_sites = second.same_sites ∙ first.same_sites;
    each = λ k start site before lane below.
        passed_then told counts plan jobs k (length befores) (get_or starts k start) (get_or mids k start) (get_or news k site) (get_or befores k before) (get_or middles k before) (get_or lanes k lane)
        (first.each k start start before before below)
        (subst (λ (n : ℕ). IsPassed told counts plan jobs k n (get_or mids k start) (get_or middles k before) (get_or news k site) (get_or lanes k lane)) first.same_lanes
        (second.each k start site before lane (omega (arith, below, first.same_lanes))));
  }

  pub all_ready : AreReady told counts starts befores → ArePassed told counts plan jobs starts befores mids middles → AreReady told counts mids middles
  all_ready ready first = record {
    some = omega (arith, ready.some, first.same_lanes);
    each_site = first.same_sites ∙ ready.each_site ∙ sym first.same_lanes;
    each = λ k site lane below.
        let within : k < length befores = omega (arith, below, first.same_lanes) in
        subst (λ (n : ℕ). IsLaneReady told counts k n (get_or mids k site) (get_or middles k lane)) (sym first.same_lanes)
        (passed_ready told counts plan jobs k (length befores) (get_or starts k site) (get_or mids k site) (get_or befores k lane) (get_or middles k lane) (ready.each k site lane within) (first.each k site site lane lane within));
  }
