-- What becomes of a lane under one hold.
use Rattle.std.proofs.Common.{◌≡◌, ◌⊎◌, inl, inr, ℕ, ◌+◌, ◌≤◌, IsTrue, Bool, true, false, Option, Some, None, Result, Ok, Err, List, [], ◌∷◌, ◌++◌, length, reverse, All, refl, sym, ◌∙◌, ap, subst, arith, append-nil, append_assoc}
use Rattle.disk_model.specs.Counts.{Counts, HasRisen}
use Rattle.disk_model.specs.Disk.{Meaning, Tells}
use Rattle.ota_core.specs.Entry.{by_of}
use Rattle.ota_core.specs.declared.entries.Entry.{Entry}
use Rattle.ota_core.specs.declared.entries.Entry.TheVariants.{Open, Reserve, Done, Refused, Close}
use Rattle.ota_core.specs.declared.jobs.Job.{Job}
use Rattle.site_model.specs.Cards.{port_now}
use Rattle.site_model.specs.Port.{PortState}
use Rattle.site_model.specs.declared.departures.Departure.{Departure}
use Rattle.site_model.specs.declared.site_faults.SiteFault.TheVariants as fault
use Rattle.world_core.specs.declared.lines.Line.{Line}
use Rattle.lane_lock.specs.Numbers.{total, Each, IsIn}
use Rattle.lane_lock.proofs.Counting.{total_append, Each_append}
use Rattle.lane_engine.specs.Adding.{AddingAnswer, IsAdded, LaneCause, is_settlement, moment_for}
use Rattle.lane_engine.specs.Departing.{AreFirst, AreHandedOver, IsSending, IsUnasked, SendsOnlyAdded}
use Rattle.lane_engine.specs.Ends.{IsFounded}
use Rattle.lane_engine.specs.Keeping.{IsAtHome, IsLaterLane, reserves_in}
use Rattle.lane_engine.specs.Kept.{KeptSince, IsLater}
use Rattle.lane_engine.specs.LaneValue.{LaneValue, IsSameLane, IsSameSettings}
use Rattle.lane_engine.specs.Opening.{Opening}
use Rattle.lane_engine.specs.Packets.{departures_for}
use Rattle.lane_engine.specs.Polling.{GrewBy, LostBy, IsPolled, PollingAnswer, PortPolled}
use Rattle.lane_engine.specs.Reserving.{IsJobOf, jobs_refusal, reserve_of, reserves_of}
use Rattle.lane_engine.specs.declared.answers.LaneErr.{LaneErr}
use Rattle.lane_engine.specs.declared.answers.LaneErr.TheVariants as lane_err
use Rattle.lane_engine.specs.declared.answers.Poll.{Poll}
use Rattle.lane_engine.specs.declared.answers.Poll.TheVariants as poll
use Rattle.lane_engine.specs.KeepingLaws.{later_set, later_chain}
use Rattle.lane_engine.proofs.KeepingLemmas.{OpensNone, HasSentOwing, owing_none, owing_all, owing_more, owing_first, first_more, reserves_open_none, reserves_count, settlement_opens_none, settlement_leaves_none, settlement_counts_none}
use Rattle.senders.specs.Served.{weigh_entry, with_lost, IsMadeFor, EndsByPoll, EndsBefore, Outcome, IsServed, IsStopped, ends_lane}

-- ---- reservations of jobs

pub reserves_weigh : (h : Job → ℕ) (by moment : ℕ) (name : List ℕ) (past : List Entry) (jobs : List Job) → total (weigh_entry h) (reserves_of by moment name past jobs) ≡ total h jobs
reserves_weigh h by moment name past [] = refl
reserves_weigh h by moment name past (job ∷ jobs) = let rest = reserves_weigh h by moment name (reserve_of by moment name past job ∷ past) jobs in omega (arith, rest)

pub reserves_by : (by moment : ℕ) (name : List ℕ) (past : List Entry) (jobs : List Job) → Each (λ entry. by_of entry ≡ by) (reserves_of by moment name past jobs)
reserves_by by moment name past [] = tt
reserves_by by moment name past (job ∷ jobs) = (refl, reserves_by by moment name (reserve_of by moment name past job ∷ past) jobs)

pub reserves_made : (all : List Job) (by moment : ℕ) (name : List ℕ) (past : List Entry) (jobs : List Job) → ((job : Job) → IsIn job jobs → IsIn job all)
    → Each (IsMadeFor name all) (reserves_of by moment name past jobs)
reserves_made all by moment name past [] among = tt
reserves_made all by moment name past (job ∷ jobs) among = (
  inr (record {
    job = job;
    is_there = among job (inl refl);
    by = by;
    moment = moment;
    counter = Rattle.ota_core.specs.History.next_counter job.keyset past;
    is = refl;
  }),
  reserves_made all by moment name (reserve_of by moment name past job ∷ past) jobs (λ other there. among other (inr there)),
)

-- a settlement reserves nothing
pub settlement_weighs_none : (h : Job → ℕ) (entry : Entry) → is_settlement entry ≡ true → weigh_entry h entry ≡ 0
settlement_weighs_none h (Open by moment keyset facts) is = refl
settlement_weighs_none h (Reserve by moment keyset counter job tar name body) is = absurd (no is)
  where
    no : false ≡ true → ⊥
    no e = cc
settlement_weighs_none h (Done by moment keyset counter answer) is = refl
settlement_weighs_none h (Refused by moment keyset counter status) is = refl
settlement_weighs_none h (Close by moment keyset) is = refl

-- ---- ends

abbrev need_in : Option LaneErr → ℕ
need_in (Some (lane_err.Full length need)) = need
need_in _ = 0

abbrev is_full : Option LaneErr → Bool
is_full (Some (lane_err.Full length need)) = true
is_full _ = false

not_both : false ≡ true → ⊥
not_both e = cc

some_none : {A : Type 0} (x : A) → Some x ≡ None → ⊥
some_none x e = cc

same_some : {A : Type 0} (x y : A) → Some x ≡ Some y → x ≡ y
same_some x y e = cc

stopped_end : {D : Type 0} (mid last : LaneValue D) (error : LaneErr) (refused : Option LaneErr) → ends_lane error ≡ true → IsStopped mid last error refused
    → (refused ≡ None) × (last ≡ record mid { end = Some error })
stopped_end mid last error None ends stopped = (refl, stopped.1)
stopped_end mid last error (Some refusal) ends stopped = absurd (not_both (sym stopped.0 ∙ ends))

stopped_back : {D : Type 0} (mid last : LaneValue D) (error : LaneErr) (refused : Option LaneErr) → ends_lane error ≡ false → IsStopped mid last error refused
    → (refused ≡ Some error) × (last ≡ mid)
stopped_back mid last error None ends stopped = absurd (not_both (sym ends ∙ stopped.0))
stopped_back mid last error (Some refusal) ends stopped = (ap Some stopped.1, stopped.2)

-- a count that has risen since, has risen since earlier
pub risen_before : (earlier before now : ℕ) → earlier ≤ before → HasRisen before now → HasRisen earlier now
risen_before earlier before now le risen =
    let a = risen.never_falls in
    let b = risen.rises in
    record { never_falls = omega (arith, a, le); rises = omega (arith, b, le) }

-- what a poll adds: settlements under the sender's number, of which nothing leaves
pub record IsQuiet (by : ℕ) (old new : List Entry) : Type 0 where
  pub more : List Entry
  pub longer : new ≡ old ++ more
  pub none : OpensNone more
  pub leaves : (history : List Entry) → departures_for history more ≡ []
  pub counted : reserves_in more ≡ 0
  pub own : Each (λ entry. by_of entry ≡ by) more
  pub settle : Each (λ entry. is_settlement entry ≡ true) more

pub quiet_same : (by : ℕ) (old new : List Entry) → new ≡ old → IsQuiet by old new
quiet_same by old new same = record {
  more = [];
  longer = same ∙ sym (append-nil old);
  none = λ keyset. refl;
  leaves = λ history. refl;
  counted = refl;
  own = tt;
  settle = tt;
}

settles_one : (place : Rattle.ota_core.specs.Entry.Reservation) (entry : Entry) → Rattle.ota_core.specs.Entry.is_settlement_of place entry ≡ true → is_settlement entry ≡ true
settles_one place (Open by moment keyset facts) is = cc
settles_one place (Reserve by moment keyset counter job tar name body) is = cc
settles_one place (Done by moment keyset counter answer) is = refl
settles_one place (Refused by moment keyset counter status) is = refl
settles_one place (Close by moment keyset) is = cc

quiet_one : (by : ℕ) (old new : List Entry) (place : Rattle.ota_core.specs.Entry.Reservation) (entry : Entry) → new ≡ old ++ entry ∷ [] → Rattle.ota_core.specs.Entry.is_settlement_of place entry ≡ true
    → by_of entry ≡ by → IsQuiet by old new
quiet_one by old new place entry longer settles own =
    let is = settles_one place entry settles in
    record {
      more = entry ∷ [];
      longer = longer;
      none = settlement_opens_none entry is;
      leaves = λ history. settlement_leaves_none history entry is;
      counted = settlement_counts_none entry is;
      own = (own, tt);
      settle = (is, tt);
    }

pub quiet_grew : (by : ℕ) (old new : List Entry) (answer : Poll) → GrewBy old new by answer → IsQuiet by old new
quiet_grew by old new poll.Nothing grew = quiet_same by old new grew
quiet_grew by old new poll.More grew = quiet_same by old new grew
quiet_grew by old new poll.NotOurs grew = quiet_same by old new grew
quiet_grew by old new (poll.Notice status) grew = quiet_same by old new grew
quiet_grew by old new (poll.Settled keyset counter) grew = quiet_one by old new (record { keyset = keyset; counter = counter }) grew.0 grew.1 grew.2 grew.3
quiet_grew by old new poll.Late grew = quiet_same by old new grew

-- what a poll lost is under the sender's number, and settles
pub lost_own : (by : ℕ) (lost : List Entry) → LostBy lost by → Each (λ entry. by_of entry ≡ by) lost
lost_own by lost (inl none) = subst (λ (l : List Entry). Each (λ entry. by_of entry ≡ by) l) (sym none) tt
lost_own by lost (inr (entry, is, settles, own)) = subst (λ (l : List Entry). Each (λ e. by_of e ≡ by) l) (sym is) (own, tt)

pub lost_settle : (by : ℕ) (lost : List Entry) → LostBy lost by → Each (λ entry. is_settlement entry ≡ true) lost
lost_settle by lost (inl none) = subst (λ (l : List Entry). Each (λ entry. is_settlement entry ≡ true) l) (sym none) tt
lost_settle by lost (inr (entry, is, settles, own)) = subst (λ (l : List Entry). Each (λ e. is_settlement e ≡ true) l) (sym is) (settles, tt)

-- what a poll leaves that answered a refusal
pub settings_polled : {D : Type 0} (by : ℕ) (old new : LaneValue D) (error : LaneErr) → IsPolled old new by (Err error) → IsSameSettings old new
settings_polled by old new lane_err.Memory polled = polled.rest.settings
settings_polled by old new lane_err.Stale polled = polled.rest.settings
settings_polled by old new (lane_err.SiteFault fault) polled = polled.2.settings
settings_polled by old new (lane_err.Full length need) polled = polled.rest.settings
settings_polled by old new lane_err.Closed polled = polled.rest.settings
settings_polled by old new lane_err.Exhausted polled = polled.rest.settings
settings_polled by old new lane_err.UnknownKeyset polled = polled.rest.settings
settings_polled by old new (lane_err.AlreadyReserved counter) polled = polled.rest.settings
settings_polled by old new lane_err.NotReserved polled = polled.rest.settings

pub entries_polled : {D : Type 0} (by : ℕ) (old new : LaneValue D) (error : LaneErr) → IsPolled old new by (Err error) → new.journal.entries ≡ old.journal.entries
entries_polled by old new lane_err.Memory polled = polled.entries
entries_polled by old new lane_err.Stale polled = polled.entries
entries_polled by old new (lane_err.SiteFault fault) polled = polled.0
entries_polled by old new (lane_err.Full length need) polled = polled.entries
entries_polled by old new lane_err.Closed polled = polled.entries
entries_polled by old new lane_err.Exhausted polled = polled.entries
entries_polled by old new lane_err.UnknownKeyset polled = polled.entries
entries_polled by old new (lane_err.AlreadyReserved counter) polled = polled.entries
entries_polled by old new lane_err.NotReserved polled = polled.entries

pub lost_polled : {D : Type 0} (by : ℕ) (old new : LaneValue D) (error : LaneErr) → old.lost ≡ [] → IsPolled old new by (Err error) → LostBy new.lost by
lost_polled by old new lane_err.Memory none polled = inl (polled.lost ∙ none)
lost_polled by old new lane_err.Stale none polled = inl (polled.lost ∙ none)
lost_polled by old new (lane_err.SiteFault fault) none polled = polled.3
lost_polled by old new (lane_err.Full length need) none polled = inl (polled.lost ∙ none)
lost_polled by old new lane_err.Closed none polled = inl (polled.lost ∙ none)
lost_polled by old new lane_err.Exhausted none polled = inl (polled.lost ∙ none)
lost_polled by old new lane_err.UnknownKeyset none polled = inl (polled.lost ∙ none)
lost_polled by old new (lane_err.AlreadyReserved counter) none polled = inl (polled.lost ∙ none)
lost_polled by old new lane_err.NotReserved none polled = inl (polled.lost ∙ none)

pub sent_polled : {D : Type 0} (by : ℕ) (old new : LaneValue D) (before now : PortState) (error : LaneErr) → PortPolled old new by before now (Err error) → now.sent ≡ before.sent
sent_polled by old new before now lane_err.Memory ports = ap (λ (p : PortState). p.sent) ports
sent_polled by old new before now lane_err.Stale ports = ap (λ (p : PortState). p.sent) ports
sent_polled by old new before now (lane_err.SiteFault fault) ports = ports.sent
sent_polled by old new before now (lane_err.Full length need) ports = ap (λ (p : PortState). p.sent) ports
sent_polled by old new before now lane_err.Closed ports = ap (λ (p : PortState). p.sent) ports
sent_polled by old new before now lane_err.Exhausted ports = ap (λ (p : PortState). p.sent) ports
sent_polled by old new before now lane_err.UnknownKeyset ports = ap (λ (p : PortState). p.sent) ports
sent_polled by old new before now (lane_err.AlreadyReserved counter) ports = ap (λ (p : PortState). p.sent) ports
sent_polled by old new before now lane_err.NotReserved ports = ap (λ (p : PortState). p.sent) ports

pub settling_made : (name : List ℕ) (jobs : List Job) (entries : List Entry) → Each (λ entry. is_settlement entry ≡ true) entries → Each (IsMadeFor name jobs) entries
settling_made name jobs [] settle = tt
settling_made name jobs (entry ∷ entries) settle = (inl settle.0, settling_made name jobs entries settle.1)

pub settling_weigh : (h : Job → ℕ) (entries : List Entry) → Each (λ entry. is_settlement entry ≡ true) entries → total (weigh_entry h) entries ≡ 0
settling_weigh h [] settle = refl
settling_weigh h (entry ∷ entries) settle =
    let first = settlement_weighs_none h entry settle.0 in let rest = settling_weigh h entries settle.1 in omega (arith, first, rest)

module _ {D B C : Type 0} (told : Meaning D B C) (counts : D → Counts) (port : B → PortState) (lines : C → ℕ → List Line)
    (pace by moment : ℕ) (jobs : List Job) (start : LaneValue D) (home : IsAtHome told counts port lines pace start) (no_end : start.end ≡ None)
    (no_lost : start.lost ≡ [])
    (some : 1 ≤ length jobs) (few : length jobs ≤ 16) (paced : length jobs ≤ pace) (of_lane : All (IsJobOf start.journal.lane start.journal.lanes) jobs) where
  -- the lane at its moment, and the reservations of the jobs
  abbrev timed : LaneValue D
  timed = record start { moment = moment }

  abbrev batch : List Entry
  batch = reserves_of by (moment_for timed) start.name (reverse start.journal.entries) jobs

  abbrev Later : LaneValue D → LaneValue D → Type 0
  Later = IsLaterLane told counts port lines

  abbrev Port : LaneValue D → PortState
  Port lane = port_now told port lines lane.site

  abbrev Refusal : Option LaneErr
  Refusal = jobs_refusal by (moment_for timed) start.name (reverse start.journal.entries) jobs

  at_start : Tells told start.site → HasSentOwing told counts port lines pace 0 start
  at_start tells = owing_none told counts port lines pace start (home.first tells) (home.all tells no_end)

  later_mid : (mid : LaneValue D) → IsSameSettings timed mid → IsLater told counts port lines timed mid
      → ((opening : Opening) → KeptSince told counts port lines opening timed → KeptSince told counts port lines opening mid) → Later start mid
  later_mid mid settings later kept =
      later_chain told counts port lines start timed mid (later_set told counts port lines start moment start.end) (record { opened = settings.opened; name = settings.name; later = later; kept = kept })

  whole_start : with_lost start ≡ start.journal.entries
  whole_start = ap (λ (l : List Entry). start.journal.entries ++ l) no_lost ∙ append-nil start.journal.entries

  -- a lane whose history is longer by some entries, and which lost some
  grown_by : (mid : LaneValue D) (more gone : List Entry) → mid.journal.entries ≡ start.journal.entries ++ more → mid.lost ≡ gone → with_lost mid ≡ with_lost start ++ (more ++ gone)
  grown_by mid more gone longer lost =
      ap (λ (l : List Entry). l ++ mid.lost) longer
      ∙ (ap (λ (l : List Entry). (start.journal.entries ++ more) ++ l) lost
      ∙ (append_assoc start.journal.entries more gone
      ∙ ap (λ (l : List Entry). l ++ (more ++ gone)) (sym whole_start)))

  -- one that lost nothing
  grown_whole : (mid : LaneValue D) (more : List Entry) → mid.journal.entries ≡ start.journal.entries ++ more → mid.lost ≡ [] → with_lost mid ≡ with_lost start ++ more
  grown_whole mid more longer lost = grown_by mid more [] longer lost ∙ ap (λ (l : List Entry). with_lost start ++ l) (append-nil more)

  -- a lane that ended is at home
  home_ended : (last : LaneValue D) (more : List Entry) (error : LaneErr) → last.end ≡ Some error → Later start last
      → last.journal.entries ≡ start.journal.entries ++ more → OpensNone more
      → (Tells told start.site → AreFirst (departures_for (start.journal.entries ++ more) more) (Port start) (Port last))
      → IsFounded counts start.opened.counts last error → IsAtHome told counts port lines pace last
  home_ended last more error is later longer none first founded = record {
    faults = let a = ap (λ (o : Opening). o.counts.faults) later.opened in let b = later.later.faults in let c = home.faults in omega (arith, a, b, c);
    wants = let a = ap (λ (o : Opening). o.counts.wants) later.opened in let b = later.later.wants in let c = home.wants in omega (arith, a, b, c);
    short = subst (λ (n : List ℕ). length n ≤ 32) (sym later.name) home.short;
    founded = λ end q.
        subst (λ (c : Counts). IsFounded counts c last end) (ap (λ (o : Opening). o.counts) (sym later.opened))
        (subst (IsFounded counts start.opened.counts last) (same_some error end (sym is ∙ q)) founded);
    live = λ q. absurd (some_none error (sym is ∙ q));
    first = λ tells.
        let then' : Tells told start.site = subst IsTrue later.later.tells tells in
        let f = first then' in
        let s = at_start then' in
        first_more told counts port lines start last more later.opened (later.later.past then') longer none s.entries s.later pace 0 f.0 s f.2 (later.later.polls then');
    all = λ tells q. absurd (some_none error (sym is ∙ q));
  }

  -- a lane that is as it was is at home
  home_same : (mid : LaneValue D) → IsSameLane timed mid → Later start mid → IsAtHome told counts port lines pace mid
  home_same mid same later = record {
    faults = let a = ap (λ (o : Opening). o.counts.faults) later.opened in let b = later.later.faults in let c = home.faults in omega (arith, a, b, c);
    wants = let a = ap (λ (o : Opening). o.counts.wants) later.opened in let b = later.later.wants in let c = home.wants in omega (arith, a, b, c);
    short = subst (λ (n : List ℕ). length n ≤ 32) (sym later.name) home.short;
    founded = λ end q. absurd (some_none end (sym q ∙ (same.rest.settings.end ∙ no_end)));
    live = λ q. same.is_stale ∙ home.live no_end;
    first = λ tells. owing_first told counts port lines pace 0 mid (owing tells);
    all = λ tells q. owing_all told counts port lines pace mid (owing tells);
  }
    where
      owing : Tells told mid.site → HasSentOwing told counts port lines pace 0 mid
      owing tells =
          let then' : Tells told start.site = subst IsTrue later.later.tells tells in
          let s = at_start then' in
          let at = ap (λ (d : D). port_now told port lines d) same.site in
          let polls = ap (λ (p : PortState). p.polls) at in
          owing_more told counts port lines start mid [] later.opened (later.later.past then') (same.entries ∙ sym (append-nil start.journal.entries)) (λ keyset. refl) s.entries s.later
          pace 0 0 0 s (ap (λ (p : PortState). p.sent) at ∙ sym (append-nil (Port start).sent)) (omega (arith, polls)) (omega arith)

  -- ---- a batch that wasn't reserved, or of which not all left

  settings_of : (error : LaneErr) (mid : LaneValue D) → IsSending timed mid batch (Err error) → IsSameSettings timed mid
  settings_of lane_err.Memory mid added = added.rest.settings
  settings_of lane_err.Stale mid added = added.rest.settings
  settings_of (lane_err.SiteFault fault) mid added = added.1.settings
  settings_of (lane_err.Full length need) mid added = added.rest.settings
  settings_of lane_err.Closed mid added = added.rest.settings
  settings_of lane_err.Exhausted mid added = added.rest.settings
  settings_of lane_err.UnknownKeyset mid added = added.rest.settings
  settings_of (lane_err.AlreadyReserved counter) mid added = added.rest.settings
  settings_of lane_err.NotReserved mid added = added.rest.settings

  founded_sending : (error : LaneErr) (mid : LaneValue D) (end : Option LaneErr) → ends_lane error ≡ true → AddingAnswer timed Refusal batch (Err error) → IsSending timed mid batch (Err error)
      → LaneCause {T = Unit {0}} (counts start.site) (counts mid.site) (Err error) → IsFounded counts start.opened.counts (record mid { end = end }) error
  founded_sending lane_err.Memory mid end ends answer added cause = tt
  founded_sending lane_err.Stale mid end ends answer added cause = absurd (not_both ends)
  founded_sending (lane_err.SiteFault fault.Failed) mid end ends answer added cause = risen_before start.opened.counts.faults (counts start.site).faults (counts mid.site).faults home.faults cause.answer
  founded_sending (lane_err.SiteFault fault.Memory) mid end ends answer added cause = risen_before start.opened.counts.wants (counts start.site).wants (counts mid.site).wants home.wants cause.answer
  founded_sending (lane_err.Full len need) mid end ends answer added cause = (
    answer.2.0 ∙ sym added.length,
    added.is_stale ∙ answer.0,
    answer.2.2,
    inr (inl (record {
      by = by;
      moment = moment_for timed;
      name = start.name;
      past = reverse start.journal.entries;
      jobs = jobs;
      some = some;
      few = few;
      short = home.short;
      of_lane = subst (λ (n : ℕ). All (IsJobOf mid.journal.lane n) jobs) (sym added.rest.lanes) (subst (λ (n : ℕ). All (IsJobOf n start.journal.lanes) jobs) (sym added.rest.lane) of_lane);
      fit = answer.2.4;
      need_is = answer.2.1;
    })),
  )
  founded_sending lane_err.Closed mid end ends answer added cause = absurd (not_both ends)
  founded_sending lane_err.Exhausted mid end ends answer added cause = absurd (not_both ends)
  founded_sending lane_err.UnknownKeyset mid end ends answer added cause = absurd (not_both ends)
  founded_sending (lane_err.AlreadyReserved counter) mid end ends answer added cause = absurd (not_both ends)
  founded_sending lane_err.NotReserved mid end ends answer added cause = absurd (not_both ends)

  -- a lane that ended
  ended : (error : LaneErr) (mid : LaneValue D) (more all : List Entry) → Later start mid → mid.journal.entries ≡ start.journal.entries ++ more → OpensNone more
      → with_lost mid ≡ with_lost start ++ all
      → (Tells told start.site → AreFirst (departures_for (start.journal.entries ++ more) more) (Port start) (Port mid))
      → IsFounded counts start.opened.counts (record mid { end = Some error }) error
      → Each (λ entry. by_of entry ≡ by) all → Each (IsMadeFor start.name jobs) all → Outcome jobs start (record mid { end = Some error }) all None
      → IsServed told counts port lines pace by jobs start (record mid { end = Some error }) None
  ended error mid more all later longer none grown first founded own made outcome =
      let last : LaneValue D = record mid { end = Some error } in
      let after : Later start last = later_chain told counts port lines start mid last later (later_set told counts port lines mid mid.moment (Some error)) in
      record {
        later = after;
        at_home = home_ended last more error refl after longer none first founded;
        added = all;
        entries = grown;
        by_own = own;
        made = made;
        outcome = outcome;
      }

  -- nothing was reserved, and the lane ended
  ended_before : (error : LaneErr) (mid : LaneValue D) → Later start mid → mid.journal.entries ≡ start.journal.entries → mid.lost ≡ [] → (Tells told start.site → (Port mid).sent ≡ (Port start).sent)
      → IsFounded counts start.opened.counts (record mid { end = Some error }) error → EndsBefore start.name jobs (Some error)
      → IsServed told counts port lines pace by jobs start (record mid { end = Some error }) None
  ended_before error mid later same lost sent founded before =
      ended error mid [] [] later (same ∙ sym (append-nil start.journal.entries)) (λ keyset. refl) (grown_by mid [] [] (same ∙ sym (append-nil start.journal.entries)) lost) (λ tells. (0, omega arith, sent tells ∙ sym (append-nil (Port start).sent))) founded tt tt
      (inr (inl (refl, refl, before, (error, refl))))

  -- the history refused
  refused_back : (error : LaneErr) (mid : LaneValue D) → Later start mid → IsSameLane timed mid → Refusal ≡ Some error → IsServed told counts port lines pace by jobs start mid (Some error)
  refused_back error mid later same is = record {
    later = later;
    at_home = home_same mid same later;
    added = [];
    entries = grown_by mid [] [] (same.entries ∙ sym (append-nil start.journal.entries)) (same.lost ∙ no_lost);
    by_own = tt;
    made = tt;
    outcome = inr (inr (
      refl,
      same.rest.settings.end ∙ no_end,
      (error, refl, (by, moment_for timed, start.name, subst (λ (l : List Entry). jobs_refusal by (moment_for timed) start.name (reverse l) jobs ≡ Some error) (sym whole_start) is)),
    ));
  }

  module _ (mid last : LaneValue D) (refused : Option LaneErr) (later : IsLater told counts port lines timed mid)
      (kept : (opening : Opening) → KeptSince told counts port lines opening timed → KeptSince told counts port lines opening mid) where
    -- the answer became the lane's end
    by_end : (error : LaneErr) → ends_lane error ≡ true → IsStopped mid last error refused
        → IsServed told counts port lines pace by jobs start (record mid { end = Some error }) None → IsServed told counts port lines pace by jobs start last refused
    by_end error ends stopped served =
        let s = stopped_end mid last error refused ends stopped in
        subst (λ (r : Option LaneErr). IsServed told counts port lines pace by jobs start last r) (sym s.0)
        (subst (λ (l : LaneValue D). IsServed told counts port lines pace by jobs start l None) (sym s.1) served)

    by_refusal : (error : LaneErr) → ends_lane error ≡ false → IsStopped mid last error refused
        → IsServed told counts port lines pace by jobs start mid (Some error) → IsServed told counts port lines pace by jobs start last refused
    by_refusal error ends stopped served =
        let s = stopped_back mid last error refused ends stopped in
        subst (λ (r : Option LaneErr). IsServed told counts port lines pace by jobs start last r) (sym s.0)
        (subst (λ (l : LaneValue D). IsServed told counts port lines pace by jobs start l (Some error)) (sym s.1) served)

    same_sent : IsSameLane timed mid → (Port mid).sent ≡ (Port start).sent
    same_sent same = ap (λ (d : D). (port_now told port lines d).sent) same.site

    pub not_served : (error : LaneErr) → AddingAnswer timed Refusal batch (Err error) → IsSending timed mid batch (Err error)
        → (Tells told start.site → AreHandedOver (departures_for (start.journal.entries ++ batch) batch) (Port start) (Port mid) (Err error))
        → (Tells told start.site → SendsOnlyAdded told port lines timed mid) → LaneCause {T = Unit {0}} (counts start.site) (counts mid.site) (Err error)
        → IsStopped mid last error refused → IsServed told counts port lines pace by jobs start last refused
    not_served lane_err.Memory answer added handed only cause stopped =
        by_end lane_err.Memory refl stopped
        (ended_before lane_err.Memory mid (later_mid mid added.rest.settings later kept) added.entries (added.lost ∙ no_lost) (λ tells. same_sent added)
        (founded_sending lane_err.Memory mid (Some lane_err.Memory) refl answer added cause) (λ len need e. absurd (not_both (ap is_full e))))
    not_served lane_err.Stale answer added handed only cause stopped = absurd (not_both (sym (home.live no_end) ∙ answer))
    not_served (lane_err.SiteFault fault) answer added handed only cause stopped = by_end (lane_err.SiteFault fault) refl stopped (⊎_elim'
        (λ same. ended (lane_err.SiteFault fault) mid [] batch (later_mid mid added.1.settings later kept) (same.0 ∙ sym (append-nil start.journal.entries)) (λ keyset. refl)
        (grown_by mid [] batch (same.0 ∙ sym (append-nil start.journal.entries)) same.1)
        (λ tells. (0, omega arith, only tells same.0 ∙ sym (append-nil (Port start).sent))) (founded_sending (lane_err.SiteFault fault) mid (Some (lane_err.SiteFault fault)) refl answer added cause)
        (reserves_by by (moment_for timed) start.name (reverse start.journal.entries) jobs)
        (reserves_made jobs by (moment_for timed) start.name (reverse start.journal.entries) jobs (λ job there. there))
        (inl (refl, (λ len need e. absurd (not_both (ap is_full e))), λ h. reserves_weigh h by (moment_for timed) start.name (reverse start.journal.entries) jobs)))
        (λ grown. ended (lane_err.SiteFault fault) mid batch batch (later_mid mid added.1.settings later kept) grown.0 (reserves_open_none by (moment_for timed) start.name (reverse start.journal.entries) jobs)
        (grown_whole mid batch grown.0 (grown.1 ∙ no_lost))
        (λ tells. handed tells) (founded_sending (lane_err.SiteFault fault) mid (Some (lane_err.SiteFault fault)) refl answer added cause)
        (reserves_by by (moment_for timed) start.name (reverse start.journal.entries) jobs)
        (reserves_made jobs by (moment_for timed) start.name (reverse start.journal.entries) jobs (λ job there. there))
        (inl (refl, (λ len need e. absurd (not_both (ap is_full e))), λ h. reserves_weigh h by (moment_for timed) start.name (reverse start.journal.entries) jobs)))
        added.2)
      where
        ⊎_elim' : {X Y Z : Type 0} → (X → Z) → (Y → Z) → X ⊎ Y → Z
        ⊎_elim' f g (inl x) = f x
        ⊎_elim' f g (inr y) = g y
    not_served (lane_err.Full len need) answer added handed only cause stopped =
        by_end (lane_err.Full len need) refl stopped
        (ended_before (lane_err.Full len need) mid (later_mid mid added.rest.settings later kept) added.entries (added.lost ∙ no_lost) (λ tells. same_sent added)
        (founded_sending (lane_err.Full len need) mid (Some (lane_err.Full len need)) refl answer added cause)
        (λ len' need' e. inr (by, moment_for timed, reverse start.journal.entries, sym (ap need_in e) ∙ answer.2.1)))
    not_served lane_err.Closed answer added handed only cause stopped =
        by_refusal lane_err.Closed refl stopped (refused_back lane_err.Closed mid (later_mid mid added.rest.settings later kept) added answer.1)
    not_served lane_err.Exhausted answer added handed only cause stopped =
        by_refusal lane_err.Exhausted refl stopped (refused_back lane_err.Exhausted mid (later_mid mid added.rest.settings later kept) added answer.1)
    not_served lane_err.UnknownKeyset answer added handed only cause stopped =
        by_refusal lane_err.UnknownKeyset refl stopped (refused_back lane_err.UnknownKeyset mid (later_mid mid added.rest.settings later kept) added answer.1)
    not_served (lane_err.AlreadyReserved counter) answer added handed only cause stopped =
        by_refusal (lane_err.AlreadyReserved counter) refl stopped (refused_back (lane_err.AlreadyReserved counter) mid (later_mid mid added.rest.settings later kept) added answer.1)
    not_served lane_err.NotReserved answer added handed only cause stopped =
        by_refusal lane_err.NotReserved refl stopped (refused_back lane_err.NotReserved mid (later_mid mid added.rest.settings later kept) added answer.1)

  -- ---- a batch that was reserved and left, and the poll behind it

  module _ (mid : LaneValue D) (again : ℕ) (added : IsAdded timed mid batch) (handed : Tells told start.site → (Port mid).sent ≡ (Port start).sent ++ departures_for (start.journal.entries ++ batch) batch)
      (unasked : Tells told start.site → IsUnasked (Port start) (Port mid)) (later : IsLater told counts port lines timed mid)
      (kept : (opening : Opening) → KeptSince told counts port lines opening timed → KeptSince told counts port lines opening mid) where
    abbrev asked : LaneValue D
    asked = record mid { moment = again }

    later_asked : Later start asked
    later_asked = later_chain told counts port lines start mid asked (later_mid mid added.rest.settings later kept) (later_set told counts port lines mid again mid.end)

    none : OpensNone batch
    none = reserves_open_none by (moment_for timed) start.name (reverse start.journal.entries) jobs

    owing_asked : Tells told start.site → HasSentOwing told counts port lines pace (length jobs) asked
    owing_asked tells =
        let s = at_start tells in
        let polls = (unasked tells).polls in
        let many = reserves_count by (moment_for timed) start.name (reverse start.journal.entries) jobs in
        owing_more told counts port lines start asked batch later_asked.opened (later_asked.later.past tells) added.entries none s.entries s.later
        pace 0 (length jobs) 0 s (handed tells) (omega (arith, polls)) (omega (arith, many))

    -- what the poll left
    module _ (last : LaneValue D) (lately : IsLater told counts port lines asked last)
        (keeps : (opening : Opening) → KeptSince told counts port lines opening asked → KeptSince told counts port lines opening last) where
      later_last : IsSameSettings asked last → Later start last
      later_last settings = later_chain told counts port lines start asked last later_asked (record { opened = settings.opened; name = settings.name; later = lately; kept = keeps })

      back : Tells told last.site → Tells told start.site
      back tells = subst IsTrue later_asked.later.tells (subst IsTrue lately.tells tells)

      polled_home : (settings : IsSameSettings asked last) (quiet : IsQuiet by asked.journal.entries last.journal.entries) → last.is_stale ≡ false
          → (Tells told start.site → ((Port last).sent ≡ (Port asked).sent) × ((Port last).polls ≡ (Port asked).polls + 1)) → IsAtHome told counts port lines pace last
      polled_home settings quiet live ports = record {
        faults = let a = ap (λ (o : Opening). o.counts.faults) whole.opened in let b = whole.later.faults in let c = home.faults in omega (arith, a, b, c);
        wants = let a = ap (λ (o : Opening). o.counts.wants) whole.opened in let b = whole.later.wants in let c = home.wants in omega (arith, a, b, c);
        short = subst (λ (n : List ℕ). length n ≤ 32) (sym whole.name) home.short;
        founded = λ end q. absurd (some_none end (sym q ∙ (settings.end ∙ (added.rest.settings.end ∙ no_end))));
        live = λ q. live;
        first = λ tells. owing_first told counts port lines pace 0 last (owing tells);
        all = λ tells q. owing_all told counts port lines pace last (owing tells);
      }
        where
          whole : Later start last
          whole = later_last settings

          owing : Tells told last.site → HasSentOwing told counts port lines pace 0 last
          owing tells =
              let then' = back tells in
              let o = owing_asked then' in
              let p = ports then' in
              let none_counted = quiet.counted in
              owing_more told counts port lines asked last quiet.more settings.opened (lately.past (subst IsTrue (sym later_asked.later.tells) then')) quiet.longer quiet.none o.entries o.later
              pace (length jobs) 0 1 o (p.0 ∙ sym (ap (λ (l : List Departure). (Port asked).sent ++ l) (quiet.leaves (asked.journal.entries ++ quiet.more)) ∙ append-nil (Port asked).sent)) p.1
              (omega (arith, none_counted, paced))

      pub served : (answer : Poll) → IsPolled asked last by (Ok answer) → (Tells told start.site → PortPolled asked last by (Port asked) (Port last) (Ok answer))
          → IsServed told counts port lines pace by jobs start last None
      served answer polled ports =
          let quiet = quiet_grew by asked.journal.entries last.journal.entries answer polled.0 in
          record {
            later = later_last polled.2.settings;
            at_home = polled_home polled.2.settings quiet polled.1 (λ tells. ((ports tells).0, (ports tells).1));
            added = batch ++ quiet.more;
            entries = grown_whole last (batch ++ quiet.more) (quiet.longer ∙ (ap (λ (l : List Entry). l ++ quiet.more) added.entries ∙ append_assoc start.journal.entries batch quiet.more))
                (polled.3 ∙ (added.lost ∙ no_lost));
            by_own = Each_append (λ entry. by_of entry ≡ by) batch quiet.more (reserves_by by (moment_for timed) start.name (reverse start.journal.entries) jobs) quiet.own;
            made = Each_append (IsMadeFor start.name jobs) batch quiet.more
                (reserves_made jobs by (moment_for timed) start.name (reverse start.journal.entries) jobs (λ job there. there)) (settling_made start.name jobs quiet.more quiet.settle);
            outcome = inl (
              refl,
              (λ len need e. absurd (some_none (lane_err.Full len need) (sym e ∙ (polled.2.settings.end ∙ (added.rest.settings.end ∙ no_end))))),
              λ h.
                  let a = total_append (weigh_entry h) batch quiet.more in
                  let b = reserves_weigh h by (moment_for timed) start.name (reverse start.journal.entries) jobs in
                  let c = settling_weigh h quiet.more quiet.settle in
                  omega (arith, a, b, c),
            );
          }

      -- the answers of a poll end the lane
      ends_polled : (error : LaneErr) → PollingAnswer asked (Err error) → ends_lane error ≡ true
      ends_polled lane_err.Memory answer = refl
      ends_polled lane_err.Stale answer = absurd (not_both (sym added.is_stale ∙ answer))
      ends_polled (lane_err.SiteFault fault) answer = refl
      ends_polled (lane_err.Full length need) answer = refl
      ends_polled lane_err.Closed answer = absurd answer
      ends_polled lane_err.Exhausted answer = absurd answer
      ends_polled lane_err.UnknownKeyset answer = absurd answer
      ends_polled (lane_err.AlreadyReserved counter) answer = absurd answer
      ends_polled lane_err.NotReserved answer = absurd answer

      founded_polled : (error : LaneErr) (end : Option LaneErr) → PollingAnswer asked (Err error) → IsPolled asked last by (Err error) → LaneCause {T = Poll} (counts asked.site) (counts last.site) (Err error)
          → IsFounded counts start.opened.counts (record last { end = end }) error
      founded_polled lane_err.Memory end answer polled cause = tt
      founded_polled lane_err.Stale end answer polled cause = absurd (not_both (sym added.is_stale ∙ answer))
      founded_polled (lane_err.SiteFault fault.Failed) end answer polled cause =
          let a = home.faults in let b = later.faults in
          risen_before start.opened.counts.faults (counts mid.site).faults (counts last.site).faults (omega (arith, a, b)) cause.answer
      founded_polled (lane_err.SiteFault fault.Memory) end answer polled cause =
          let a = home.wants in let b = later.wants in
          risen_before start.opened.counts.wants (counts mid.site).wants (counts last.site).wants (omega (arith, a, b)) cause.answer
      founded_polled (lane_err.Full len need) end answer polled cause = (answer.1 ∙ sym polled.length, polled.is_stale ∙ answer.0, answer.3, inl answer.2)
      founded_polled lane_err.Closed end answer polled cause = absurd answer
      founded_polled lane_err.Exhausted end answer polled cause = absurd answer
      founded_polled lane_err.UnknownKeyset end answer polled cause = absurd answer
      founded_polled (lane_err.AlreadyReserved counter) end answer polled cause = absurd answer
      founded_polled lane_err.NotReserved end answer polled cause = absurd answer

      by_poll : (error : LaneErr) → PollingAnswer asked (Err error) → EndsByPoll (Some error)
      by_poll (lane_err.Full len need) answer = λ len' need' e. sym (ap need_in e) ∙ answer.2
      by_poll lane_err.Memory answer = λ len need e. absurd (not_both (ap is_full e))
      by_poll lane_err.Stale answer = λ len need e. absurd (not_both (ap is_full e))
      by_poll (lane_err.SiteFault fault) answer = λ len need e. absurd (not_both (ap is_full e))
      by_poll lane_err.Closed answer = absurd answer
      by_poll lane_err.Exhausted answer = absurd answer
      by_poll lane_err.UnknownKeyset answer = absurd answer
      by_poll (lane_err.AlreadyReserved counter) answer = absurd answer
      by_poll lane_err.NotReserved answer = absurd answer

      pub served_ended : (error : LaneErr) (final : LaneValue D) (refused : Option LaneErr) → PollingAnswer asked (Err error) → IsPolled asked last by (Err error)
          → (Tells told start.site → PortPolled asked last by (Port asked) (Port last) (Err error)) → LaneCause {T = Poll} (counts asked.site) (counts last.site) (Err error)
          → IsStopped last final error refused → IsServed told counts port lines pace by jobs start final refused
      served_ended error final refused answer polled ports cause stopped =
          let s = stopped_end last final error refused (ends_polled error answer) stopped in
          let whole : List Departure = departures_for (start.journal.entries ++ batch) batch in
          let gone = lost_polled by asked last error (added.lost ∙ no_lost) polled in
          let same = entries_polled by asked last error polled in
          subst (λ (r : Option LaneErr). IsServed told counts port lines pace by jobs start final r) (sym s.0)
          (subst (λ (l : LaneValue D). IsServed told counts port lines pace by jobs start l None) (sym s.1)
          (ended error last batch (batch ++ last.lost) (later_last (settings_polled by asked last error polled)) (same ∙ added.entries) none
          (grown_by last batch last.lost (same ∙ added.entries) refl)
          (λ tells. (length whole, omega arith, sent_polled by asked last (Port asked) (Port last) error (ports tells) ∙ (handed tells ∙ ap (λ (l : List Departure). (Port start).sent ++ l) (sym (Rattle.std.proofs.Math.Seq.take-length whole)))))
          (founded_polled error (Some error) answer polled cause)
          (Each_append (λ entry. by_of entry ≡ by) batch last.lost (reserves_by by (moment_for timed) start.name (reverse start.journal.entries) jobs) (lost_own by last.lost gone))
          (Each_append (IsMadeFor start.name jobs) batch last.lost
          (reserves_made jobs by (moment_for timed) start.name (reverse start.journal.entries) jobs (λ job there. there)) (settling_made start.name jobs last.lost (lost_settle by last.lost gone)))
          (inl (
            refl,
            by_poll error answer,
            λ h.
                let a = total_append (weigh_entry h) batch last.lost in
                let b = reserves_weigh h by (moment_for timed) start.name (reverse start.journal.entries) jobs in
                let c = settling_weigh h last.lost (lost_settle by last.lost gone) in
                omega (arith, a, b, c),
          ))))

-- ---- the two calls of a hold

-- what a call leaves that reserves and sends
pub record HasSentJobs {D B C : Type 0} (told : Meaning D B C) (counts : D → Counts) (port : B → PortState) (lines : C → ℕ → List Line) (by : ℕ) (jobs : List Job) (old new : LaneValue D)
    (result : Result (Unit {0}) LaneErr) : Type 0 where
  pub answer : AddingAnswer old (jobs_refusal by (moment_for old) old.name (reverse old.journal.entries) jobs) (reserves_of by (moment_for old) old.name (reverse old.journal.entries) jobs) result
  pub added : IsSending old new (reserves_of by (moment_for old) old.name (reverse old.journal.entries) jobs) result
  pub sent : Tells told old.site
      → AreHandedOver (departures_for (old.journal.entries ++ reserves_of by (moment_for old) old.name (reverse old.journal.entries) jobs) (reserves_of by (moment_for old) old.name (reverse old.journal.entries) jobs))
      (port_now told port lines old.site) (port_now told port lines new.site) result
  pub only_added : Tells told old.site → SendsOnlyAdded told port lines old new
  pub unasked : Tells told old.site → IsUnasked (port_now told port lines old.site) (port_now told port lines new.site)
  pub cause : LaneCause {T = Unit {0}} (counts old.site) (counts new.site) result
  pub later : IsLater told counts port lines old new
  pub kept : (opening : Opening) → KeptSince told counts port lines opening old → KeptSince told counts port lines opening new

-- what a poll leaves
pub record HasPolledOnce {D B C : Type 0} (told : Meaning D B C) (counts : D → Counts) (port : B → PortState) (lines : C → ℕ → List Line) (by : ℕ) (old new : LaneValue D)
    (result : Result Poll LaneErr) : Type 0 where
  pub answer : PollingAnswer old result
  pub polled : IsPolled old new by result
  pub ports : Tells told old.site → PortPolled old new by (port_now told port lines old.site) (port_now told port lines new.site) result
  pub cause : LaneCause {T = Poll} (counts old.site) (counts new.site) result
  pub later : IsLater told counts port lines old new
  pub kept : (opening : Opening) → KeptSince told counts port lines opening old → KeptSince told counts port lines opening new

end_sending : {D : Type 0} (old new : LaneValue D) (reserved : List Entry) (error : LaneErr) → IsSending old new reserved (Err error) → new.end ≡ old.end
end_sending old new reserved lane_err.Memory added = added.rest.settings.end
end_sending old new reserved lane_err.Stale added = added.rest.settings.end
end_sending old new reserved (lane_err.SiteFault fault) added = added.1.settings.end
end_sending old new reserved (lane_err.Full length need) added = added.rest.settings.end
end_sending old new reserved lane_err.Closed added = added.rest.settings.end
end_sending old new reserved lane_err.Exhausted added = added.rest.settings.end
end_sending old new reserved lane_err.UnknownKeyset added = added.rest.settings.end
end_sending old new reserved (lane_err.AlreadyReserved counter) added = added.rest.settings.end
end_sending old new reserved lane_err.NotReserved added = added.rest.settings.end

module _ {D B C : Type 0} (told : Meaning D B C) (counts : D → Counts) (port : B → PortState) (lines : C → ℕ → List Line)
    (pace by moment : ℕ) (jobs : List Job) (start : LaneValue D) (home : IsAtHome told counts port lines pace start) (no_end : start.end ≡ None)
    (no_lost : start.lost ≡ []) (some : 1 ≤ length jobs) (few : length jobs ≤ 16) (paced : length jobs ≤ pace) (of_lane : All (IsJobOf start.journal.lane start.journal.lanes) jobs)
    (first mid : LaneValue D) (is : first ≡ record start { moment = moment }) where
  abbrev Sent : Result (Unit {0}) LaneErr → Type 0
  Sent = HasSentJobs told counts port lines by jobs (record start { moment = moment }) mid

  abbrev Served : LaneValue D → Option LaneErr → Type 0
  Served = IsServed told counts port lines pace by jobs start

  sent_from : (result : Result (Unit {0}) LaneErr) → HasSentJobs told counts port lines by jobs first mid result → Sent result
  sent_from result facts = subst (λ (l : LaneValue D). HasSentJobs told counts port lines by jobs l mid result) is facts

  -- nothing was reserved, or not all left
  pub serves_not : (last : LaneValue D) (refused : Option LaneErr) (error : LaneErr) → HasSentJobs told counts port lines by jobs first mid (Err error)
      → (mid.end ≡ None → IsStopped mid last error refused) → Served last refused
  serves_not last refused error facts stopped =
      let f = sent_from (Err error) facts in
      not_served told counts port lines pace by moment jobs start home no_end no_lost some few paced of_lane mid last refused f.later f.kept error f.answer f.added f.sent f.only_added f.cause
      (stopped (end_sending (record start { moment = moment }) mid (reserves_of by (moment_for (record start { moment = moment })) start.name (reverse start.journal.entries) jobs) error f.added ∙ no_end))

  module _ (done : Unit {0}) (facts : HasSentJobs told counts port lines by jobs first mid (Ok done)) (again : ℕ) (second last : LaneValue D) (is_second : second ≡ record mid { moment = again }) where
    polled_from : (result : Result Poll LaneErr) → HasPolledOnce told counts port lines by second last result → HasPolledOnce told counts port lines by (record mid { moment = again }) last result
    polled_from result polled = subst (λ (l : LaneValue D). HasPolledOnce told counts port lines by l last result) is_second polled

    -- both were done
    pub serves : (answer : Poll) → HasPolledOnce told counts port lines by second last (Ok answer) → Served last None
    serves answer polled =
        let f = sent_from (Ok done) facts in
        let p = polled_from (Ok answer) polled in
        served told counts port lines pace by moment jobs start home no_end no_lost some few paced of_lane mid again f.added f.sent f.unasked f.later f.kept last p.later p.kept answer p.polled
        (λ tells. p.ports (subst IsTrue (sym f.later.tells) tells))

    -- the poll answered a refusal
    pub serves_but : (final : LaneValue D) (refused : Option LaneErr) (error : LaneErr) → HasPolledOnce told counts port lines by second last (Err error)
        → (last.end ≡ None → IsStopped last final error refused) → Served final refused
    serves_but final refused error polled stopped =
        let f = sent_from (Ok done) facts in
        let p = polled_from (Err error) polled in
        served_ended told counts port lines pace by moment jobs start home no_end no_lost some few paced of_lane mid again f.added f.sent f.unasked f.later f.kept last p.later p.kept error final refused
        p.answer p.polled (λ tells. p.ports (subst IsTrue (sym f.later.tells) tells)) p.cause
        (stopped ((settings_polled by (record mid { moment = again }) last error p.polled).end ∙ (f.added.rest.settings.end ∙ no_end)))
