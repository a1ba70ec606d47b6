-- The clauses of a poll.
use Rattle.std.proofs.Common.{◌≡◌, ◌⊎◌, inl, inr, ℕ, ◌+◌, ◌≤◌, IsTrue, Bool, false, true, Result, Ok, Err, IfOk, List, [], ◌∷◌, ◌++◌, refl, sym, ◌∙◌, ap, subst, arith, append-nil, length}
use Rattle.disk_model.specs.Counts.{Counts, HasRisen}
use Rattle.disk_model.specs.Disk.{Meaning, Tells, PastStands, image_now}
use Rattle.disk_model.specs.Runs.{past_at_once, past_joined}
use Rattle.gate_log.specs.Opening.{LIMIT}
use Rattle.ota_core.specs.declared.cards.CardId.{CardId}
use Rattle.ota_core.specs.declared.entries.Entry.{Entry}
use Rattle.site_model.specs.Cards.{HasChoice, port_at, port_now}
use Rattle.site_model.specs.Causes.{empty_polls}
use Rattle.site_model.specs.Port.{PortState, IsPolling}
use Rattle.site_model.specs.declared.site_faults.SiteFault.{SiteFault}
use Rattle.site_model.specs.declared.site_faults.SiteFault.TheVariants as fault
use Rattle.sms_segments.specs.Assembled.{OfCard}
use Rattle.sms_segments.specs.Kept.{Keeps}
use Rattle.sms_segments.specs.declared.assembling.Push.{Push}
use Rattle.world_core.specs.Sound.{CardsWentOn}
use Rattle.world_core.specs.declared.lines.Line.{Line}
use Rattle.world_core.specs.declared.segments.Sent.{Sent}
use Rattle.lane_engine.specs.Adding.{moment_for, SameFaults, AnswerCause, LaneCause}
use Rattle.lane_engine.specs.Departing.{HaveCardsGoneOn}
use Rattle.lane_engine.specs.Kept.{KeptSince, IsFair, IsLater}
use Rattle.lane_engine.specs.Opening.{Opening}
use Rattle.lane_engine.specs.LaneValue.{LaneValue, IsLane}
use Rattle.lane_engine.specs.Polling.{LONGEST_SETTLEMENT, PollingAnswer, CountsNothing, GrewBy, IsAnswered, IsAsked, IsPolled, IsPollingRun, IsSameBut, IsUnpolled, LosesDue, PollingEvents, PortPolled, settlements}
use Rattle.lane_engine.specs.Receipts.{RESPONSE, answer_to_push, due_by, response_by}
use Rattle.lane_engine.specs.Settling.{AskingAnswer, IsHeard, settled_by}
use Rattle.lane_engine.specs.Settling.{IsSettled as IsLeft}
use Rattle.lane_engine.specs.Sound.{IsSoundState}
use Rattle.lane_engine.specs.World.{world_of, cards_of}
use Rattle.lane_engine.specs.declared.answers.LaneErr.{LaneErr}
use Rattle.lane_engine.specs.declared.answers.LaneErr.TheVariants as lane_err
use Rattle.lane_engine.specs.declared.answers.Poll.{Poll}
use Rattle.lane_engine.specs.declared.answers.Poll.TheVariants as poll
use Rattle.lane_engine.proofs.PolledLemmas.{AskedFrom, events_heard, events_stopped, keeps_as, kept_heard, kept_stopped, settled_as, went_on_heard}
use Rattle.lane_engine.proofs.PollRunLemmas.{grew_by, lost_by, never_nothing}

-- by the two ends of a message that was taken
pub heard_cases : {D : Type 0} (mid new : LaneValue D) (more : List Entry) (answer : Poll) (result : Result Poll LaneErr) → IfOk result (λ found. found ≡ answer) → IsLeft mid new more result
    → (P : Result Poll LaneErr → Type 0)
    → ((found : Poll) → found ≡ answer → new.journal.entries ≡ mid.journal.entries ++ more → new.is_stale ≡ false → new.lost ≡ mid.lost → P (Ok found))
    → ((f : SiteFault) → new.journal.entries ≡ mid.journal.entries → new.is_stale ≡ true → new.lost ≡ more → 1 ≤ length more → P (Err (lane_err.SiteFault f))) → P result
heard_cases mid new more answer (Ok found) is left P ok stopped = ok found is left.0 left.1 left.2
heard_cases mid new more answer (Err (lane_err.SiteFault f)) is left P ok stopped = stopped f left.0 left.1 left.3 left.2
heard_cases mid new more answer (Err lane_err.Memory) is left P ok stopped = absurd left
heard_cases mid new more answer (Err lane_err.Stale) is left P ok stopped = absurd left
heard_cases mid new more answer (Err (lane_err.Full long need)) is left P ok stopped = absurd left
heard_cases mid new more answer (Err lane_err.Closed) is left P ok stopped = absurd left
heard_cases mid new more answer (Err lane_err.Exhausted) is left P ok stopped = absurd left
heard_cases mid new more answer (Err lane_err.UnknownKeyset) is left P ok stopped = absurd left
heard_cases mid new more answer (Err (lane_err.AlreadyReserved counter)) is left P ok stopped = absurd left
heard_cases mid new more answer (Err lane_err.NotReserved) is left P ok stopped = absurd left

-- the fault of the answer has raised its count
pub fault_risen : (before now : Counts) (f : SiteFault) → AnswerCause {T = Poll} before now (Err (lane_err.SiteFault f)) → HasRisen before.faults now.faults ⊎ HasRisen before.wants now.wants
fault_risen before now fault.Failed risen = inl risen
fault_risen before now fault.Memory risen = inr risen

pub counts_nothing : (before now : Counts) (answer : Poll) → (answer ≡ poll.Nothing → ⊥) → empty_polls now ≡ empty_polls before → CountsNothing before now (Ok answer)
counts_nothing before now poll.Nothing isnt same = absurd (isnt refl)
counts_nothing before now poll.More isnt same = same
counts_nothing before now poll.NotOurs isnt same = same
counts_nothing before now (poll.Notice status) isnt same = same
counts_nothing before now (poll.Settled keyset counter) isnt same = same
counts_nothing before now poll.Late isnt same = same

pub asked_as : {D : Type 0} (old new : LaneValue D) (by : ℕ) (before now : PortState) (answer : Poll) → (answer ≡ poll.Nothing → ⊥) → (message : CardId × List ℕ) → now.given ≡ before.given ++ message ∷ []
    → IsAnswered old new by message answer → IsAsked old new by before now answer
asked_as old new by before now poll.Nothing isnt message given is = absurd (isnt refl)
asked_as old new by before now poll.More isnt message given is = (message, given, is)
asked_as old new by before now poll.NotOurs isnt message given is = (message, given, is)
asked_as old new by before now (poll.Notice status) isnt message given is = (message, given, is)
asked_as old new by before now (poll.Settled keyset counter) isnt message given is = (message, given, is)
asked_as old new by before now poll.Late isnt message given is = (message, given, is)

-- ---- a lane that is as it was but for room

module _ {D B C : Type 0} (told : Meaning D B C) (counts : D → Counts) (port : B → PortState) (lines : C → ℕ → List Line) where
  pub later_unpolled : (old new : LaneValue D) → IsUnpolled old new → IsLater told counts port lines old new
  later_unpolled old new same = record {
    lane = same.rest.lane;
    lanes = same.rest.lanes;
    entries = ([], same.entries ∙ sym (append-nil old.journal.entries));
    faults = subst (λ (d : D). (counts old.site).faults ≤ (counts d).faults) (sym same.site) (omega arith);
    wants = subst (λ (d : D). (counts old.site).wants ≤ (counts d).wants) (sym same.site) (omega arith);
    tells = ap told.tells same.site;
    past = λ tells. subst (λ (d : D). PastStands told old.site d) (sym same.site) (past_at_once told old.site);
    polls = λ tells. subst (λ (d : D). (port_now told port lines old.site).polls ≤ (port_now told port lines d).polls) (sym same.site) (omega arith);
    stale = λ is. same.is_stale ∙ is;
  }

  -- a lane whose port was asked is later
  module _ (old mid : LaneValue D) (live : old.is_stale ≡ false) (asked : AskedFrom told counts port lines old mid) where
    polls_mid : Tells told old.site → (port_now told port lines old.site).polls ≤ (port_now told port lines mid.site).polls
    polls_mid tells =
        let start : (port_at told port lines mid.site (told.clock old.site)).polls ≡ (port_now told port lines old.site).polls = ap (λ b. (port b).polls) ((asked.run tells).past.beside (told.clock old.site) (omega arith)) in
        let grew = (asked.keeps tells).polls (told.clock old.site) (told.clock mid.site) (omega arith) (asked.run tells).past.later (omega arith) in
        omega (arith, start, grew)

    not_stale : old.is_stale ≡ true → ⊥
    not_stale is = differ old.is_stale is live
      where
        differ : (b : Bool) → b ≡ true → b ≡ false → ⊥
        differ true a b = cc
        differ false a b = cc

    pub later_asked : IsLater told counts port lines old mid
    later_asked = record {
      lane = asked.rest.lane;
      lanes = asked.rest.lanes;
      entries = ([], asked.entries ∙ sym (append-nil old.journal.entries));
      faults = asked.faults;
      wants = asked.wants;
      tells = asked.tells;
      past = λ tells. (asked.run tells).past;
      polls = polls_mid;
      stale = λ is. absurd (not_stale is);
    }

    pub polling_asked : Tells told old.site → IsPolling (port_now told port lines old.site) (port_now told port lines mid.site)
    polling_asked tells = (asked.run tells).each (told.clock mid.site) (asked.run tells).past.later (omega arith)

    -- ---- the message that it gave was taken

    module _ (new : LaneValue D) (by : ℕ) (message : CardId × List ℕ) (result : Result Poll LaneErr) (heard : IsHeard told mid new by message result) where
      abbrev answer : Poll
      answer = answer_to_push mid.journal.entries message.0 heard.push

      abbrev more : List Entry
      more = settled_by by mid message.0 heard.push

      abbrev settles : List Entry
      settles = settled_by by old message.0 heard.push

      more_is : more ≡ settles
      more_is = settled_as by old mid message.0 heard.push asked.entries asked.rest.settings.moment

      pub answer_is : answer ≡ answer_to_push old.journal.entries message.0 heard.push
      answer_is = ap (λ (l : List Entry). answer_to_push l message.0 heard.push) asked.entries

      pub not_nothing : (found : Poll) → found ≡ answer → found ≡ poll.Nothing → ⊥
      not_nothing found is nothing = never_nothing mid.journal.entries message.0 heard.push (sym is ∙ nothing)

      -- the entries behind it
      pub entries_ok : new.journal.entries ≡ mid.journal.entries ++ more → new.journal.entries ≡ old.journal.entries ++ settles
      entries_ok is = is ∙ ap (λ (l : List Entry). l ++ more) asked.entries ∙ ap (λ (l : List Entry). old.journal.entries ++ l) more_is

      rest_new : IsSameBut old new
      rest_new = record {
        element = heard.rest.element ∙ asked.rest.element;
        lane = heard.rest.lane ∙ asked.rest.lane;
        lanes = heard.rest.lanes ∙ asked.rest.lanes;
        settings = record {
          moment = heard.rest.settings.moment ∙ asked.rest.settings.moment;
          name = heard.rest.settings.name ∙ asked.rest.settings.name;
          end = heard.rest.settings.end ∙ asked.rest.settings.end;
          opened = heard.rest.settings.opened ∙ asked.rest.settings.opened;
        };
      }

      pub answer_heard : old.journal.length + LONGEST_SETTLEMENT ≤ LIMIT → PollingAnswer old result
      answer_heard fits = heard_cases mid new more answer result heard.answer heard.left (λ r. PollingAnswer old r) (λ found is entries fresh same. (live, fits)) (λ f entries gone lost some. (live, fits))

      pub polled_heard : IsPolled old new by result
      polled_heard = heard_cases mid new more answer result heard.answer heard.left (λ r. IsPolled old new by r)
          (λ found is entries fresh same. (
            subst (λ (l : List Entry). GrewBy old.journal.entries l by found) (sym (entries_ok entries))
                (subst (λ (p : Poll). GrewBy old.journal.entries (old.journal.entries ++ settlements by (moment_for old) (due_by p (response_by old.journal.entries message.0 heard.push))) by found) (is ∙ answer_is)
                (grew_by old.journal.entries message.0 heard.push by (moment_for old) found (is ∙ answer_is))),
            fresh,
            rest_new,
            same ∙ asked.lost,
          ))
          (λ f entries gone lost some. (
            entries ∙ asked.entries,
            gone,
            rest_new,
            lost_by by (moment_for mid) (due_by answer (response_by mid.journal.entries message.0 heard.push)) new.lost lost,
          ))

      pub nothing_heard : empty_polls (counts mid.site) ≡ empty_polls (counts old.site) → empty_polls (counts new.site) ≡ empty_polls (counts mid.site) → CountsNothing (counts old.site) (counts new.site) result
      nothing_heard first second = heard_cases mid new more answer result heard.answer heard.left (λ r. CountsNothing (counts old.site) (counts new.site) r)
          (λ found is entries fresh same. counts_nothing (counts old.site) (counts new.site) found (not_nothing found is) (second ∙ first)) (λ f entries gone lost some. second ∙ first)

      pub told_mid : Tells told old.site → Tells told mid.site
      told_mid tells = subst IsTrue (sym asked.tells) tells

      -- the port stands still while the journal is written
      pub port_new : Tells told old.site → port_now told port lines new.site ≡ port_now told port lines mid.site
      port_new tells = (let run = heard.run (told_mid tells) in ap port (run.stands (told.clock new.site) run.past.later (omega arith)))

      answered_new : (found : Poll) → found ≡ answer → new.journal.entries ≡ mid.journal.entries ++ more → IsAnswered old new by message found
      answered_new found is entries = record {
        answer = λ past keeps. is ∙ answer_is ∙ ap (λ (p : Push). answer_to_push old.journal.entries message.0 p) (heard.makes past (keeps_as past old.heard.pieces mid.heard.pieces asked.kept keeps));
        history = λ past keeps. entries_ok entries ∙ ap (λ (p : Push). old.journal.entries ++ settled_by by old message.0 p) (heard.makes past (keeps_as past old.heard.pieces mid.heard.pieces asked.kept keeps));
        heard = λ past keeps. heard.keeps past (keeps_as past old.heard.pieces mid.heard.pieces asked.kept keeps);
      }

      pub told_heard : (tells : Tells told old.site) → (port_now told port lines mid.site).given ≡ (port_now told port lines old.site).given ++ message ∷ []
          → (port_now told port lines mid.site).polls ≡ (port_now told port lines old.site).polls + 1
          → PortPolled old new by (port_now told port lines old.site) (port_now told port lines new.site) result
      told_heard tells given polls = subst (λ (p : PortState). PortPolled old new by (port_now told port lines old.site) p result) (sym (port_new tells))
          (heard_cases mid new more answer result heard.answer heard.left (λ r. PortPolled old new by (port_now told port lines old.site) (port_now told port lines mid.site) r)
          (λ found is entries fresh same. (
            (polling_asked tells).sent,
            polls,
            asked_as old new by (port_now told port lines old.site) (port_now told port lines mid.site) found (not_nothing found is) message given (answered_new found is entries),
          ))
          (λ f entries gone lost some. polling_asked tells))

      -- what is lost is what the message made due
      pub loses_heard : Tells told old.site → (port_now told port lines mid.site).given ≡ (port_now told port lines old.site).given ++ message ∷ []
          → LosesDue old new by (port_now told port lines old.site) (port_now told port lines new.site) result
      loses_heard tells given = heard_cases mid new more answer result heard.answer heard.left (λ r. LosesDue old new by (port_now told port lines old.site) (port_now told port lines new.site) r)
          (λ found is entries fresh same. tt)
          (λ f entries gone lost some. inr (
            message,
            ap (λ (p : PortState). p.given) (port_new tells) ∙ given,
            λ past keeps. lost ∙ more_is ∙ ap (λ (p : Push). settled_by by old message.0 p) (heard.makes past (keeps_as past old.heard.pieces mid.heard.pieces asked.kept keeps)),
          ))

      pub cause_heard : SameFaults (counts old.site) (counts mid.site) → LaneCause (counts mid.site) (counts new.site) result → LaneCause (counts old.site) (counts new.site) result
      cause_heard same cause = record {
        faults = (let a = same.0 in let b = cause.faults in omega (arith, a, b));
        wants = (let a = same.1 in let b = cause.wants in omega (arith, a, b));
        answer = subst (λ (n : ℕ). AnswerCause (record { faults = n; wants = (counts old.site).wants; beside = (counts old.site).beside }) (counts new.site) result) same.0
            (subst (λ (n : ℕ). AnswerCause (record { faults = (counts mid.site).faults; wants = n; beside = (counts old.site).beside }) (counts new.site) result) same.1
            (heard_cases mid new more answer result heard.answer heard.left (λ r. AnswerCause (counts mid.site) (counts new.site) r → AnswerCause (record { faults = (counts mid.site).faults; wants = (counts mid.site).wants; beside = (counts old.site).beside }) (counts new.site) r)
            (λ found is entries fresh same h. h) (λ f entries gone lost some h. by_fault f h) cause.answer));
      }
        where
          by_fault : (f : SiteFault) → AnswerCause {T = Poll} (counts mid.site) (counts new.site) (Err (lane_err.SiteFault f))
              → AnswerCause {T = Poll} (record { faults = (counts mid.site).faults; wants = (counts mid.site).wants; beside = (counts old.site).beside }) (counts new.site) (Err (lane_err.SiteFault f))
          by_fault fault.Failed h = h
          by_fault fault.Memory h = h

      pub later_heard : told.tells new.site ≡ told.tells mid.site → (counts mid.site).faults ≤ (counts new.site).faults → (counts mid.site).wants ≤ (counts new.site).wants → IsLater told counts port lines old new
      later_heard tells_new faults wants = record {
        lane = rest_new.lane;
        lanes = rest_new.lanes;
        entries = heard_cases mid new more answer result heard.answer heard.left (λ r. (added : List Entry) × (new.journal.entries ≡ old.journal.entries ++ added))
            (λ found is entries fresh same. (settles, entries_ok entries)) (λ f entries gone lost some. ([], entries ∙ asked.entries ∙ sym (append-nil old.journal.entries)));
        faults = (let a = asked.faults in omega (arith, a, faults));
        wants = (let a = asked.wants in omega (arith, a, wants));
        tells = tells_new ∙ asked.tells;
        past = λ tells. past_joined told old.site mid.site new.site (asked.run tells).past (heard.run (told_mid tells)).past;
        polls = λ tells. subst (λ (p : PortState). (port_now told port lines old.site).polls ≤ p.polls) (sym (port_new tells)) (polls_mid tells);
        stale = λ is. absurd (not_stale is);
      }

-- the events of a poll that found a message
pub events_as : {D B C : Type 0} (told : Meaning D B C) (port : B → PortState) (lines : C → ℕ → List Line) (old new : LaneValue D) (by : ℕ) (answer : Poll) → (answer ≡ poll.Nothing → ⊥)
    → ((past : List OfCard) → Keeps RESPONSE past old.heard.pieces → (message : CardId × List ℕ) → (port_now told port lines new.site).given ≡ (port_now told port lines old.site).given ++ message ∷ [] → IsPollingRun told port lines old new by past message)
    → PollingEvents told port lines old new by (Ok answer)
events_as told port lines old new by poll.Nothing isnt run = absurd (isnt refl)
events_as told port lines old new by poll.More isnt run = run
events_as told port lines old new by poll.NotOurs isnt run = run
events_as told port lines old new by (poll.Notice status) isnt run = run
events_as told port lines old new by (poll.Settled keyset counter) isnt run = run
events_as told port lines old new by poll.Late isnt run = run

-- ---- where nothing is lost

pub loses_none : {D : Type 0} (old new : LaneValue D) (by : ℕ) (before now : PortState) (result : Result Poll LaneErr) → new.lost ≡ [] → LosesDue old new by before now result
loses_none old new by before now (Ok found) none = tt
loses_none old new by before now (Err (lane_err.SiteFault f)) none = inl none
loses_none old new by before now (Err lane_err.Memory) none = tt
loses_none old new by before now (Err lane_err.Stale) none = tt
loses_none old new by before now (Err (lane_err.Full long need)) none = tt
loses_none old new by before now (Err lane_err.Closed) none = tt
loses_none old new by before now (Err lane_err.Exhausted) none = tt
loses_none old new by before now (Err lane_err.UnknownKeyset) none = tt
loses_none old new by before now (Err (lane_err.AlreadyReserved counter)) none = tt
loses_none old new by before now (Err lane_err.NotReserved) none = tt

pub events_none : {D B C : Type 0} (told : Meaning D B C) (port : B → PortState) (lines : C → ℕ → List Line) (old new : LaneValue D) (by : ℕ) (error : LaneErr)
    → new.journal.entries ≡ old.journal.entries → new.lost ≡ [] → PollingEvents told port lines old new by (Err error)
events_none told port lines old new by (lane_err.SiteFault f) same none = (same, inl none)
events_none told port lines old new by lane_err.Memory same none = same
events_none told port lines old new by lane_err.Stale same none = same
events_none told port lines old new by (lane_err.Full long need) same none = same
events_none told port lines old new by lane_err.Closed same none = same
events_none told port lines old new by lane_err.Exhausted same none = same
events_none told port lines old new by lane_err.UnknownKeyset same none = same
events_none told port lines old new by (lane_err.AlreadyReserved counter) same none = same
events_none told port lines old new by lane_err.NotReserved same none = same

-- ---- where the port wasn't asked

pub unpolled_same : {D : Type 0} (lane : LaneValue D) → IsUnpolled lane lane
unpolled_same lane = record {
  site = refl;
  entries = refl;
  length = refl;
  is_stale = refl;
  lost = refl;
  kept = λ of. refl;
  rest = record { element = refl; lane = refl; lanes = refl; settings = record { moment = refl; name = refl; end = refl; opened = refl } };
}

module _ {D B C : Type 0} (told : Meaning D B C) (counts : D → Counts) (port : B → PortState) (lines : C → ℕ → List Line) where
  -- the cards went on from one site to another, by packets of this history
  abbrev Gone : List Entry → D → D → Type 0
  Gone entries before now = (after : C) → told.choice_at now (told.clock now) after → (start : C) × told.choice_at before (told.clock before) start
      × ((sent : List Sent) (given : List ℕ) → CardsWentOn (world_of entries (port_now told port lines before) (lines start) sent given) sent (cards_of (port_now told port lines now).facts (lines after)) (port_now told port lines now).made)

  gone_idle : (opening : Opening) (lane : LaneValue D) → KeptSince told counts port lines opening lane → Tells told lane.site → image_now told lane.site (told.seen lane.site)
      → IsFair told counts port lines opening lane.site → (entries : List Entry) → Gone entries lane.site lane.site
  gone_idle opening lane kept tells seen fair entries after chosen =
      let was = kept.where_told tells in
      let state : IsSoundState opening.lane opening.lanes (told.seen lane.site) (port_now told port lines lane.site) (lines after) =
      (was.fair fair).sound (told.clock lane.site) was.later (omega arith) (told.seen lane.site) after seen chosen in (
        after,
        chosen,
        λ sent given. record {
          leaves = λ piece i. inl i;
          facts = refl;
          states = state.world.cards;
          kept = λ card line i finished. i;
          lines = λ line i. inl i;
          answers = λ made i. inl i;
          longer = omega arith;
        },
      )

  pub went_on_unpolled : (opening : Opening) (old new : LaneValue D) → IsUnpolled old new → KeptSince told counts port lines opening old → Tells told old.site → image_now told old.site (told.seen old.site)
      → IsFair told counts port lines opening new.site → HaveCardsGoneOn told port lines old new
  went_on_unpolled opening old new same kept tells seen fair =
      subst (λ (d : D). Gone new.journal.entries old.site d) (sym same.site)
      (gone_idle opening old kept tells seen (subst (λ (d : D). IsFair told counts port lines opening d) same.site fair) new.journal.entries)

  -- ---- where it gave nothing

  pub told_none : (old roomy mid : LaneValue D) (by : ℕ) → old.is_stale ≡ false → AskedFrom told counts port lines old mid → roomy.site ≡ old.site
      → (Tells told roomy.site → (port_now told port lines mid.site).given ≡ (port_now told port lines roomy.site).given)
      → (Tells told roomy.site → (port_now told port lines mid.site).polls ≡ (port_now told port lines roomy.site).polls + 1)
      → Tells told old.site → PortPolled old mid by (port_now told port lines old.site) (port_now told port lines mid.site) (Ok poll.Nothing)
  told_none old roomy mid by live asked same given polls tells = (
    (polling_asked told counts port lines old mid live asked tells).sent,
    subst (λ (d : D). Tells told d → (port_now told port lines mid.site).polls ≡ (port_now told port lines d).polls + 1) same polls tells,
    (subst (λ (d : D). Tells told d → (port_now told port lines mid.site).given ≡ (port_now told port lines d).given) same given tells, asked.entries, asked.kept),
  )

-- after a fault of the port the lane is stale, and its count has risen
pub asked_stopped : {D : Type 0} (T : Type 0) (counts : D → Counts) (roomy mid : LaneValue D) (site : D) (error : LaneErr) → AskingAnswer {T = T} mid (Err error) → AnswerCause {T = T} (counts roomy.site) (counts mid.site) (Err error) → roomy.site ≡ site
    → (mid.is_stale ≡ true) × (HasRisen (counts site).faults (counts mid.site).faults ⊎ HasRisen (counts site).wants (counts mid.site).wants)
asked_stopped {D = D} T counts roomy mid site (lane_err.SiteFault f) stale risen same =
    (stale, subst (λ (d : D). HasRisen (counts d).faults (counts mid.site).faults ⊎ HasRisen (counts d).wants (counts mid.site).wants) same (by_fault f risen))
  where
    by_fault : (x : SiteFault) → AnswerCause {T = T} (counts roomy.site) (counts mid.site) (Err (lane_err.SiteFault x)) → HasRisen (counts roomy.site).faults (counts mid.site).faults ⊎ HasRisen (counts roomy.site).wants (counts mid.site).wants
    by_fault fault.Failed up = inl up
    by_fault fault.Memory up = inr up
asked_stopped T counts roomy mid site lane_err.Memory stale risen same = absurd stale
asked_stopped T counts roomy mid site lane_err.Stale stale risen same = absurd stale
asked_stopped T counts roomy mid site (lane_err.Full long need) stale risen same = absurd stale
asked_stopped T counts roomy mid site lane_err.Closed stale risen same = absurd stale
asked_stopped T counts roomy mid site lane_err.Exhausted stale risen same = absurd stale
asked_stopped T counts roomy mid site lane_err.UnknownKeyset stale risen same = absurd stale
asked_stopped T counts roomy mid site (lane_err.AlreadyReserved counter) stale risen same = absurd stale
asked_stopped T counts roomy mid site lane_err.NotReserved stale risen same = absurd stale

-- ---- the clauses of what is kept since an opening

module _ {D B C : Type 0} (told : Meaning D B C) (counts : D → Counts) (port : B → PortState) (lines : C → ℕ → List Line) (opening : Opening) (old mid : LaneValue D) (of : IsLane told old) (live : old.is_stale ≡ false)
    (seen : (d : D) → Tells told d → image_now told d (told.seen d)) (asked : AskedFrom told counts port lines old mid) (kept : KeptSince told counts port lines opening old)
    (new : LaneValue D) (by : ℕ) (message : CardId × List ℕ) (result : Result Poll LaneErr) (fresh : mid.is_stale ≡ false) (heard : IsHeard told mid new by message result)
    (given : Tells told old.site → (port_now told port lines mid.site).given ≡ (port_now told port lines old.site).given ++ message ∷ []) (tells_new : told.tells new.site ≡ told.tells mid.site)
    (cause : LaneCause (counts mid.site) (counts new.site) result) where
  heard_by : (P : Result Poll LaneErr → Type 0)
      → ((found : Poll) → found ≡ answer_to_push mid.journal.entries message.0 heard.push → new.journal.entries ≡ mid.journal.entries ++ settled_by by mid message.0 heard.push → new.is_stale ≡ false → new.lost ≡ mid.lost → P (Ok found))
      → ((f : SiteFault) → new.journal.entries ≡ mid.journal.entries → new.is_stale ≡ true → new.lost ≡ settled_by by mid message.0 heard.push → 1 ≤ length (settled_by by mid message.0 heard.push) → P (Err (lane_err.SiteFault f))) → P result
  heard_by P ok stopped = heard_cases mid new (settled_by by mid message.0 heard.push) (answer_to_push mid.journal.entries message.0 heard.push) result heard.answer heard.left P ok stopped

  pub kept_call : KeptSince told counts port lines opening new
  kept_call = heard_by (λ r. AnswerCause (counts mid.site) (counts new.site) r → KeptSince told counts port lines opening new)
      (λ found is entries live_new same risen. kept_heard told counts port lines opening old mid of live seen asked kept new by message result fresh heard given tells_new cause.faults cause.wants
      (entries_ok told counts port lines old mid live asked new by message result heard entries) same live_new)
      (λ f entries gone lost some risen. kept_stopped told counts port lines opening old mid of live seen asked kept new by message result fresh heard given tells_new cause.faults cause.wants (entries ∙ asked.entries) lost gone
      (fault_risen (counts mid.site) (counts new.site) f risen))
      cause.answer

  pub went_on_call : Tells told old.site → IsFair told counts port lines opening new.site → HaveCardsGoneOn told port lines old new
  went_on_call tells fair =
      let later = later_heard told counts port lines old mid live asked new by message result heard tells_new cause.faults cause.wants in
      went_on_heard told counts port lines opening old mid of live seen asked kept new by message result fresh heard given tells_new cause.faults cause.wants tells fair later.entries.0 later.entries.1

  pub events_call : Tells told old.site → HasChoice told port lines mid.site (told.clock mid.site) → IsFair told counts port lines opening new.site → PollingEvents told port lines old new by result
  events_call tells choice fair = heard_by (λ r. PollingEvents told port lines old new by r)
      (λ found is entries live_new same. events_as told port lines old new by found (not_nothing told counts port lines old mid live asked new by message result heard found is)
      (events_heard told counts port lines opening old mid of live seen asked kept new by message result fresh heard given tells_new cause.faults cause.wants tells choice fair
      (entries_ok told counts port lines old mid live asked new by message result heard entries)))
      (λ f entries gone lost some. (
        entries ∙ asked.entries,
        inr (events_stopped told counts port lines opening old mid of live seen asked kept new by message result fresh heard given tells_new cause.faults cause.wants tells choice fair lost some),
      ))
