-- A poll as a list of events.
use Rattle.std.proofs.Common.{◌≡◌, inl, inr, ℕ, ◌≤◌, IsTrue, false, None, Some, Option, Result, Ok, Err, List, [], ◌∷◌, ◌++◌, length, map, refl, sym, ◌∙◌, ap, subst, arith, append-nil, append_assoc}
use Rattle.disk_model.specs.Counts.{Counts}
use Rattle.disk_model.specs.Disk.{Meaning, Tells, PastStands, image_now}
use Rattle.ota_core.specs.declared.cards.CardId.{CardId}
use Rattle.ota_core.specs.declared.entries.Entry.{Entry}
use Rattle.counter_journal.specs.Standing.{StandsFor}
use Rattle.counter_journal.specs.StandingLaws.{ready_holds}
use Rattle.site_model.specs.Cards.{HasChoice, port_at, port_now}
use Rattle.site_model.specs.Port.{PortState, IsPolling}
use Rattle.site_model.specs.declared.site_faults.SiteFault.{SiteFault}
use Rattle.sms_segments.specs.Assembled.{OfCard, answer_by, answer_to, if_whole, pieces_after, with_piece}
use Rattle.sms_segments.specs.Header.{header_of, octets_behind}
use Rattle.sms_segments.specs.Kept.{Keeps}
use Rattle.sms_segments.specs.declared.assembling.Push.{Push}
use Rattle.sms_segments.specs.declared.concatenations.Concatenation.{Concatenation}
use Rattle.sms_segments.specs.declared.headers.Header.{Header}
use Rattle.sms_segments.specs.declared.headers.Header.TheVariants.{Only, Part}
use Rattle.world_core.specs.Members.{In}
use Rattle.world_core.specs.Run.{Runs}
use Rattle.world_core.specs.WorldLaws.{Runs-append}
use Rattle.world_core.specs.declared.answers.Made.{Made}
use Rattle.world_core.specs.declared.events.Event.{Event}
use Rattle.world_core.specs.declared.events.Event.TheVariants.{Begin}
use Rattle.world_core.specs.declared.lines.Line.{Line}
use Rattle.world_core.specs.declared.segments.Sent.{Sent}
use Rattle.lane_engine.specs.Adding.{LaneCause, moment_for}
use Rattle.lane_engine.specs.Course.{ActsThen, CardsActSince, GivenCourse, GivesOne, IsCourse, IsIdle, LeavingCourse, PolledCourse, batch_lost, whole_world}
use Rattle.lane_engine.specs.CourseLaws.{acts_before}
use Rattle.lane_engine.specs.Kept.{KeptSince, IsFair, AreGiven}
use Rattle.lane_engine.specs.Opening.{Opening}
use Rattle.lane_engine.specs.LaneValue.{LaneValue, IsLane}
use Rattle.lane_engine.specs.Polling.{AreGivenBy, IsPollingRun, IsStoppedRun, IsUnpolled, giving, settlements, settling_events}
use Rattle.lane_engine.specs.Receipts.{RESPONSE, Response, answer_to_push, due_in, message_of, past_of, response_in}
use Rattle.lane_engine.specs.Settling.{AskingAnswer, IsHeard, settled_by}
use Rattle.lane_engine.specs.Unforged.{made_as}
use Rattle.lane_engine.specs.World.{world_of, AreSent}
use Rattle.lane_engine.specs.declared.answers.LaneErr.{LaneErr}
use Rattle.lane_engine.specs.declared.answers.LaneErr.TheVariants as lane_err
use Rattle.lane_engine.specs.declared.answers.Poll.{Poll}
use Rattle.lane_engine.specs.declared.answers.Poll.TheVariants as poll
use Rattle.lane_engine.proofs.ActsLemmas.{HandedBy, PortLed, port_led}
use Rattle.lane_engine.proofs.AddingLemmas.{sent_more}
use Rattle.lane_engine.proofs.HeardLemmas.{made_given}
use Rattle.lane_engine.proofs.LedLemmas.{World, idle_with}
use Rattle.lane_engine.proofs.PollCallLemmas.{entries_ok, heard_cases, not_nothing, port_new}
use Rattle.lane_engine.proofs.PolledLemmas.{AskedFrom, events_heard, events_stopped, held_mid, is_history, keeps_as, later_mid, settled_as}
use Rattle.lane_engine.proofs.PollRunLemmas.{said_by}
use Rattle.lane_engine.proofs.SettledLemmas.{first_made, may_give}

-- ---- what is given

-- a message makes the same whole behind pasts that leave the same pieces
alike : (past other : List OfCard) (message : OfCard) (header : Option Header) → ((of : Concatenation) → pieces_after RESPONSE past of ≡ pieces_after RESPONSE other of)
    → answer_by RESPONSE past message header ≡ answer_by RESPONSE other message header
alike past other message None same = refl
alike past other message (Some Only) same = refl
alike past other message (Some (Part reference total place)) same =
    ap (λ pieces. if_whole total (with_piece place (octets_behind (Part reference total place) message.octets) pieces)) (same (record { card = message.card; reference = reference; total = total }))

-- the answer of a response stands among those made
given_by : (card : CardId) (said : Option Response) (made : List Made) → ((response : Response) → said ≡ Some response → In (made_as card response) made) → (positions : List ℕ) × AreGivenBy card said made positions
given_by card None made was = ([], refl)
given_by card (Some response) made was = (let place = first_made (made_as card response) made (was response refl) in (place.0 ∷ [], (place.0, place.1, refl)))

-- it is given
gives_run : (history : List Entry) (port : PortState) (chosen : ℕ → List Line) (sent : List Sent) (given : List ℕ) (card : CardId) (said : Option Response) (positions : List ℕ) → AreGivenBy card said port.made positions
    → Runs (world_of history port chosen sent given) (map giving positions) (world_of history port chosen sent (given ++ positions))
gives_run history port chosen sent given card None positions none =
    subst (λ (l : List ℕ). Runs (world_of history port chosen sent given) (map giving l) (world_of history port chosen sent (given ++ l))) (sym none)
    (ap (λ (l : List ℕ). world_of history port chosen sent l) (append-nil given))
gives_run history port chosen sent given card (Some response) positions by =
    subst (λ (l : List ℕ). Runs (world_of history port chosen sent given) (map giving l) (world_of history port chosen sent (given ++ l))) (sym by.2)
    (may_give history port chosen sent given by.0 (made_as card response) by.1.0, refl)

lost_some : (lost : List Entry) → 1 ≤ length lost → batch_lost lost ≡ Some lost
lost_some [] some = absurd (omega (arith, some))
lost_some (entry ∷ entries) some = refl

-- ---- a lane whose port was asked

module _ {D B C : Type 0} (told : Meaning D B C) (counts : D → Counts) (port : B → PortState) (lines : C → ℕ → List Line) (old mid : LaneValue D) (of : IsLane told old) (live : old.is_stale ≡ false)
    (seen : (d : D) → Tells told d → image_now told d (told.seen d)) (asked : AskedFrom told counts port lines old mid) (tells : Tells told old.site)
    (acts : CardsActSince told port lines old.journal.lane old.journal.lanes (told.clock old.site) mid.site) where
  abbrev entries : List Entry
  entries = old.journal.entries

  abbrev Polled : B → Type 0
  Polled beside = IsPolling (port_now told port lines old.site) (port beside)

  stands : StandsFor old.journal.lane old.journal.lanes entries (told.seen old.site)
  stands = inr (of.history, ready_holds told old.site old.journal (of.ready live tells) (told.seen old.site) (seen old.site tells))

  -- nothing was sent
  handed_by : (k : ℕ) → told.clock old.site ≤ k → k ≤ told.clock mid.site
      → HandedBy told port lines old.journal.lane old.journal.lanes entries old.site mid.site Polled (asked.run tells) (asked.keeps tells) (told.seen old.site) (seen old.site tells) stands acts [] (λ piece i. absurd i) k
  handed_by k low high = record {
    gone = [];
    sent = ((asked.run tells).each k low high).sent ∙ sym (append-nil (port_now told port lines old.site).sent);
    first = [];
    rest = [];
    are = refl;
    of_gone = tt;
  }

  sent_mid : (sent : List Sent) → AreSent entries (port_now told port lines old.site).sent sent → AreSent entries (port_now told port lines mid.site).sent (sent ++ [])
  sent_mid sent are =
      subst (λ (l : List Sent). AreSent entries (port_now told port lines mid.site).sent l) (sym (append-nil sent))
      (subst (λ l. AreSent entries l sent) (sym ((asked.run tells).each (told.clock mid.site) (asked.run tells).past.later (omega arith)).sent) are)

  acted : (sent : List Sent) → AreSent entries (port_now told port lines old.site).sent sent → (after : C) → told.choice_at mid.site (told.clock mid.site) after
      → PortLed told port lines old.journal.lane old.journal.lanes entries old.site mid.site Polled (asked.run tells) (asked.keeps tells) (told.seen old.site) (seen old.site tells) stands acts [] (λ piece i. absurd i) sent [] after
  acted sent are after chosen =
      port_led told port lines old.journal.lane old.journal.lanes entries old.site mid.site Polled (asked.run tells) (asked.keeps tells) (told.seen old.site) (seen old.site tells) stands acts [] (λ piece i. absurd i)
      handed_by sent are [] [] refl (sent_mid sent are) after chosen

  -- the cards act, and then there are some events in which they don't
  acted_then : (new : LaneValue D) (positions : List ℕ) (rest : List Event) (added : List Entry) → new.journal.entries ≡ entries ++ added → port_now told port lines new.site ≡ port_now told port lines mid.site
      → ((choice : C) → told.choice_at new.site (told.clock new.site) choice → told.choice_at mid.site (told.clock mid.site) choice)
      → ((chosen : ℕ → List Line) (sent : List Sent) (given : List ℕ) → Runs (world_of entries (port_now told port lines mid.site) chosen sent given) rest (whole_world told port lines new chosen sent (given ++ positions)))
      → IsCourse told port lines old new [] positions (ActsThen rest)
  acted_then new positions rest added is still choices runs = record {
    departs = λ sent are.
        subst (λ (p : PortState). AreSent new.journal.entries p.sent (sent ++ [])) (sym still)
        (subst (λ (l : List Entry). AreSent l (port_now told port lines mid.site).sent (sent ++ [])) (sym is) (sent_more entries added (port_now told port lines mid.site).sent (sent ++ []) (sent_mid sent are)));
    leads = λ after chosen sent are given. (
        let led = acted sent are after (choices after chosen) in
        record {
          before = led.before;
          might = led.might;
          events = led.events ++ rest;
          are = (led.events, led.others, refl);
          runs =
              subst (λ (l : List Entry). Runs (World told port lines old.site entries l (lines led.before) sent given) (led.events ++ rest) (whole_world told port lines new (lines after) (sent ++ []) (given ++ positions))) (sym (of.whole live))
              (Runs-append (world_of entries (port_now told port lines old.site) (lines led.before) sent given) (world_of entries (port_now told port lines mid.site) (lines after) (sent ++ []) given)
              (whole_world told port lines new (lines after) (sent ++ []) (given ++ positions)) led.events rest (led.runs given) (runs (lines after) (sent ++ []) given));
        });
  }

  -- nothing but that
  acted_alone : LeavingCourse told port lines old mid []
  acted_alone = record {
    departs = λ sent are. subst (λ (l : List Entry). AreSent l (port_now told port lines mid.site).sent (sent ++ [])) (sym asked.entries) (sent_mid sent are);
    leads = λ after chosen sent are given. (
        let led = acted sent are after chosen in
        record {
          before = led.before;
          might = led.might;
          events = led.events;
          are = led.others;
          runs =
              subst (λ (l : List Entry). Runs (World told port lines old.site entries l (lines led.before) sent given) led.events (World told port lines mid.site mid.journal.entries mid.lost (lines after) (sent ++ []) (given ++ []))) (sym (of.whole live))
              (subst (λ (l : List Entry). Runs (World told port lines old.site entries [] (lines led.before) sent given) led.events (World told port lines mid.site mid.journal.entries l (lines after) (sent ++ []) (given ++ []))) (sym (asked.lost ∙ of.whole live))
              (subst (λ (l : List Entry). Runs (World told port lines old.site entries [] (lines led.before) sent given) led.events (World told port lines mid.site l [] (lines after) (sent ++ []) (given ++ []))) (sym asked.entries)
              (subst (λ (l : List ℕ). Runs (World told port lines old.site entries [] (lines led.before) sent given) led.events (World told port lines mid.site entries [] (lines after) (sent ++ []) l)) (sym (append-nil given)) (led.runs given))));
        });
  }

  -- the port gave nothing
  pub none_course : (by : ℕ) (past : List OfCard) → (port_now told port lines mid.site).given ≡ (port_now told port lines old.site).given → PolledCourse told port lines old mid by past (Ok poll.Nothing)
  none_course by past none = (none, acted_alone)

  -- a fault of the port
  module _ (opening : Opening) (kept : KeptSince told counts port lines opening old) (fair : IsFair told counts port lines opening mid.site) (past : List OfCard) (keeps : Keeps RESPONSE past old.heard.pieces) (message : CardId × List ℕ)
      (gave : GivesOne told port lines old mid message) where
    abbrev messages : List (CardId × List ℕ)
    messages = ((kept.where_told tells).heard live).0

    given_mid : AreGiven told counts port lines opening mid.site (told.clock mid.site) (messages ++ message ∷ [])
    given_mid =
        let was = kept.where_told tells in
        let start : port_at told port lines mid.site opening.clock ≡ port_at told port lines old.site opening.clock = ap port ((asked.run tells).past.beside opening.clock was.later) in
        gave ∙ ap (λ (l : List (CardId × List ℕ)). l ++ message ∷ []) (was.heard live).1
        ∙ append_assoc (port_at told port lines old.site opening.clock).given messages (message ∷ [])
        ∙ sym (ap (λ (p : PortState). p.given ++ (messages ++ message ∷ [])) start)

    -- the same is made whole behind the messages given
    same_push : answer_to RESPONSE (past_of messages) (message_of message) ≡ answer_to RESPONSE past (message_of message)
    same_push = alike (past_of messages) past (message_of message) (header_of RESPONSE message.1) (λ other. sym (((kept.where_told tells).heard live).2 other) ∙ keeps other)

    was_made : (response : Response) → response_in entries past (message_of message) ≡ Some response → In (made_as message.0 response) (port_now told port lines mid.site).made
    was_made response says =
        let said = said_by entries message.0 (answer_to RESPONSE past (message_of message)) response says in
        made_given told counts port lines opening mid.site entries (later_mid told counts port lines opening old mid of live seen asked kept tells) (is_history told counts port lines opening old mid of live seen asked kept)
        (held_mid told counts port lines opening old mid of live seen asked kept tells) (seen mid.site (subst IsTrue (sym asked.tells) tells)) messages message given_mid fair said.0 (same_push ∙ said.1) said.2.0 response said.2.1

    given_course : GivenCourse told port lines old mid past message []
    given_course =
        let found = given_by message.0 (response_in entries past (message_of message)) (port_now told port lines mid.site).made was_made in (
          found.0,
          found.1,
          acted_then mid found.0 (map giving found.0 ++ []) [] (asked.entries ∙ sym (append-nil entries)) refl (λ choice chosen. chosen)
              (λ chosen sent given.
              subst (λ (l : List Event). Runs (world_of entries (port_now told port lines mid.site) chosen sent given) l (whole_world told port lines mid chosen sent (given ++ found.0))) (sym (append-nil (map giving found.0)))
              (subst (λ (l : List Entry). Runs (world_of entries (port_now told port lines mid.site) chosen sent given) (map giving found.0) (World told port lines mid.site mid.journal.entries l chosen sent (given ++ found.0))) (sym (asked.lost ∙ of.whole live))
              (subst (λ (l : List Entry). Runs (world_of entries (port_now told port lines mid.site) chosen sent given) (map giving found.0) (World told port lines mid.site l [] chosen sent (given ++ found.0))) (sym asked.entries)
              (gives_run entries (port_now told port lines mid.site) chosen sent given message.0 (response_in entries past (message_of message)) found.0 found.1)))),
        )

  pub fault_course : (T : Type 0) (opening : Opening) → KeptSince told counts port lines opening old → IsFair told counts port lines opening mid.site → (by : ℕ) (error : LaneErr) → AskingAnswer {T = T} mid (Err error)
      → (past : List OfCard) → Keeps RESPONSE past old.heard.pieces → PolledCourse told port lines old mid by past (Err error)
  fault_course T opening kept fair by (lane_err.SiteFault f) is past keeps = elim ((asked.run tells).each (told.clock mid.site) (asked.run tells).past.later (omega arith)).given [
    | inl none ↦ inl (none, asked.lost ∙ of.whole live, acted_alone)
    | inr one ↦ inr (one.0, one.1, inl (asked.lost ∙ of.whole live, given_course opening kept fair past keeps one.0 one.1))
  ]
  fault_course T opening kept fair by lane_err.Memory is past keeps = absurd is
  fault_course T opening kept fair by lane_err.Stale is past keeps = absurd is
  fault_course T opening kept fair by (lane_err.Full long need) is past keeps = absurd is
  fault_course T opening kept fair by lane_err.Closed is past keeps = absurd is
  fault_course T opening kept fair by lane_err.Exhausted is past keeps = absurd is
  fault_course T opening kept fair by lane_err.UnknownKeyset is past keeps = absurd is
  fault_course T opening kept fair by (lane_err.AlreadyReserved counter) is past keeps = absurd is
  fault_course T opening kept fair by lane_err.NotReserved is past keeps = absurd is

-- ---- a message that was taken

-- by the answer
course_as : {D B C : Type 0} (told : Meaning D B C) (port : B → PortState) (lines : C → ℕ → List Line) (old new : LaneValue D) (by : ℕ) (past : List OfCard) (answer : Poll) → (answer ≡ poll.Nothing → ⊥)
    → (message : CardId × List ℕ) → GivesOne told port lines old new message
    → GivenCourse told port lines old new past message (settling_events (settlements by (moment_for old) (due_in old.journal.entries past (message_of message)))) → PolledCourse told port lines old new by past (Ok answer)
course_as told port lines old new by past poll.Nothing isnt message gave course = absurd (isnt refl)
course_as told port lines old new by past poll.More isnt message gave course = (message, gave, course)
course_as told port lines old new by past poll.NotOurs isnt message gave course = (message, gave, course)
course_as told port lines old new by past (poll.Notice status) isnt message gave course = (message, gave, course)
course_as told port lines old new by past (poll.Settled keyset counter) isnt message gave course = (message, gave, course)
course_as told port lines old new by past poll.Late isnt message gave course = (message, gave, course)

module _ {D B C : Type 0} (told : Meaning D B C) (counts : D → Counts) (port : B → PortState) (lines : C → ℕ → List Line) (opening : Opening) (old mid : LaneValue D) (of : IsLane told old) (live : old.is_stale ≡ false)
    (seen : (d : D) → Tells told d → image_now told d (told.seen d)) (asked : AskedFrom told counts port lines old mid) (kept : KeptSince told counts port lines opening old)
    (new : LaneValue D) (by : ℕ) (message : CardId × List ℕ) (result : Result Poll LaneErr) (fresh : mid.is_stale ≡ false) (heard : IsHeard told mid new by message result)
    (given : Tells told old.site → (port_now told port lines mid.site).given ≡ (port_now told port lines old.site).given ++ message ∷ []) (tells_new : told.tells new.site ≡ told.tells mid.site)
    (cause : LaneCause (counts mid.site) (counts new.site) result)
    (tells : Tells told old.site) (choice : HasChoice told port lines mid.site (told.clock mid.site)) (fair : IsFair told counts port lines opening new.site)
    (acts : CardsActSince told port lines old.journal.lane old.journal.lanes (told.clock old.site) new.site) (past : List OfCard) (keeps : Keeps RESPONSE past old.heard.pieces) where
  tells_mid : Tells told mid.site
  tells_mid = subst IsTrue (sym asked.tells) tells

  still : port_now told port lines new.site ≡ port_now told port lines mid.site
  still = port_new told counts port lines old mid live asked new by message result heard tells

  gave : GivesOne told port lines old new message
  gave = ap (λ (p : PortState). p.given) still ∙ given tells

  before : PastStands told mid.site new.site
  before = (heard.run tells_mid).past

  acts_mid : CardsActSince told port lines old.journal.lane old.journal.lanes (told.clock old.site) mid.site
  acts_mid = acts_before told port lines old.journal.lane old.journal.lanes (told.clock old.site) mid.site new.site before acts

  choices : (choice : C) → told.choice_at new.site (told.clock new.site) choice → told.choice_at mid.site (told.clock mid.site) choice
  choices after chosen = (heard.run tells_mid).choices_stand (told.clock new.site) after before.later (omega arith) chosen

  abbrev due : List Entry
  due = settlements by (moment_for old) (due_in old.journal.entries past (message_of message))

  -- the end of its run
  then_course : (positions : List ℕ) (rest : List Event) → AreGivenBy message.0 (response_in old.journal.entries past (message_of message)) (port_now told port lines new.site).made positions
      → (added : List Entry) → new.journal.entries ≡ old.journal.entries ++ added
      → ((chosen : ℕ → List Line) (sent : List Sent) (before : List ℕ) → Runs (world_of old.journal.entries (port_now told port lines new.site) chosen sent before) (map giving positions ++ rest) (whole_world told port lines new chosen sent (before ++ positions)))
      → GivenCourse told port lines old new past message rest
  then_course positions rest by_message added is runs = (
    positions,
    by_message,
    acted_then told counts port lines old mid of live seen asked tells acts_mid new positions (map giving positions ++ rest) added is still choices
        (λ chosen sent before. subst (λ (p : PortState). Runs (world_of old.journal.entries p chosen sent before) (map giving positions ++ rest) (whole_world told port lines new chosen sent (before ++ positions))) still (runs chosen sent before)),
  )

  heard_course : (added : List Entry) → new.journal.entries ≡ old.journal.entries ++ added → new.lost ≡ [] → IsPollingRun told port lines old new by past message → GivenCourse told port lines old new past message (settling_events due)
  heard_course added is none run = then_course run.positions (settling_events due) run.given added is
      (λ chosen sent before.
      subst (λ (l : List Entry). Runs (world_of old.journal.entries (port_now told port lines new.site) chosen sent before) (map giving run.positions ++ settling_events due) (World told port lines new.site new.journal.entries l chosen sent (before ++ run.positions))) (sym none)
      (run.runs chosen sent before))

  stopped_course : new.journal.entries ≡ old.journal.entries → 1 ≤ length new.lost → IsStoppedRun told port lines old new by past message → GivenCourse told port lines old new past message (Begin new.lost ∷ [])
  stopped_course is some run = then_course run.positions (Begin new.lost ∷ []) run.given [] (is ∙ sym (append-nil old.journal.entries))
      (λ chosen sent before.
      subst (λ o. Runs (world_of old.journal.entries (port_now told port lines new.site) chosen sent before) (map giving run.positions ++ Begin new.lost ∷ []) (record (world_of new.journal.entries (port_now told port lines new.site) chosen sent (before ++ run.positions)) { batch = o })) (sym (lost_some new.lost some))
      (subst (λ (l : List Entry). Runs (world_of old.journal.entries (port_now told port lines new.site) chosen sent before) (map giving run.positions ++ Begin new.lost ∷ []) (record (world_of l (port_now told port lines new.site) chosen sent (before ++ run.positions)) { batch = Some new.lost })) (sym is)
      (run.runs chosen sent before)))

  is_due : settled_by by mid message.0 heard.push ≡ due
  is_due =
      settled_as by old mid message.0 heard.push asked.entries asked.rest.settings.moment
      ∙ ap (λ (p : Push). settled_by by old message.0 p) (heard.makes past (keeps_as past old.heard.pieces mid.heard.pieces asked.kept keeps))

  pub taken_course : PolledCourse told port lines old new by past result
  taken_course = heard_cases mid new (settled_by by mid message.0 heard.push) (answer_to_push mid.journal.entries message.0 heard.push) result heard.answer heard.left (λ r. PolledCourse told port lines old new by past r)
      (λ found is entries live_new same. (
      let ok = entries_ok told counts port lines old mid live asked new by message result heard entries in
      course_as told port lines old new by past found (not_nothing told counts port lines old mid live asked new by message result heard found is) message gave
      (heard_course (settled_by by old message.0 heard.push) ok (same ∙ asked.lost ∙ of.whole live)
      (events_heard told counts port lines opening old mid of live seen asked kept new by message result fresh heard given tells_new cause.faults cause.wants tells choice fair ok past keeps message gave))))
      (λ f entries gone lost some. inr (
        message,
        gave,
        inr (
          lost ∙ is_due,
          stopped_course (entries ∙ asked.entries) (subst (λ (l : List Entry). 1 ≤ length l) (sym lost) some)
              (events_stopped told counts port lines opening old mid of live seen asked kept new by message result fresh heard given tells_new cause.faults cause.wants tells choice fair lost some past keeps message gave),
        ),
      ))

-- ---- where the port wasn't asked

pub unpolled_course : {D B C : Type 0} (told : Meaning D B C) (port : B → PortState) (lines : C → ℕ → List Line) (old new : LaneValue D) → IsUnpolled old new → IsIdle told port lines old new
unpolled_course told port lines old new same = idle_with told port lines (λ events. events ≡ []) refl old new same.site same.entries same.lost
